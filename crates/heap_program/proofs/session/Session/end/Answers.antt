use Rattle.std.proofs.Common.{◌≡◌, ◌<◌, length, string_bytes, sym, ◌∙◌, ap, arith, true-eqb, false-eqb}
use Rattle.std.proofs.lemmas.Result.{on_ok_weaker}
use Rattle.heap_program.specs.Lines.{IsOneLine}
use Rattle.heap_program.proofs.Runs.{no_line, last_line}
use Rattle.heap_program.proofs.session.Session.end.Goals as goal

pub returns-then-is_empty : goal.returns-then-is_empty
returns-then-is_empty g c =
    let line = c.args.self.now.line in
    let same : c.bytes.result.now ≡ line = c.bytes.ensures.value in
    let none : length c.bytes.result.now ≡ 0 = true-eqb (length c.bytes.result.now) 0 (sym (sym c.is_empty.ensures ∙ c.if-is_empty.true)) in
    no_line g.R.Respond.responds c.args.self.now.responder line (string_bytes c.args.self.now.output)
    (sym (ap length same) ∙ none) (g.met.R.Respond.responds_none c.args.self.now.responder)

pub returns : goal.returns
returns g c =
    let line = c.args.self.now.line in
    let same : c.bytes.result.now ≡ line = c.bytes.ensures.value in
    let one : IsOneLine line = c.bytes.ensures.one_line in
    let some : 0 < length line = omega (arith, ap length same, false-eqb (length c.bytes.result.now) 0 (sym (sym c.is_empty.ensures ∙ c.if-is_empty.false))) in
    on_ok_weaker c.respond_to_line.result (last_line g.R.Respond.responds c.args.self.now.responder
    c.respond_to_line.new.self.responder line (string_bytes c.args.self.now.output)
    (string_bytes c.respond_to_line.new.self.output) one some)
    c.respond_to_line.ensures.responded
