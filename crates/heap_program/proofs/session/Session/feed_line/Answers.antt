use Rattle.std.proofs.Common.{◌∷◌, [], ◌++◌, ◌<◌, length, take, ap, ◌∙◌, sym, subst, arith}
use Rattle.std.proofs.lemmas.List.{take_more}
use Rattle.heap_program.specs.Advanced.{Advanced}
use Rattle.heap_program.proofs.session.Session.feed_line.Goals as goal

pub returns-clause-fed : goal.returns-clause-fed
returns-clause-fed g c =
    let bytes = c.args.bytes.now in
    let n = c.line_length-length.result in
    let few = c.line_length-length.ensures.few in
    let less : n < length bytes = grind (arith, few, c.if-length-bytes.false) in
    let feed = c.line_length-length.ensures.feed less in
    subst (Advanced g.R.Respond.responds c.args.self.now c.end_at.new.self) (ap (λ byte. take n bytes ++ byte ∷ []) (sym feed) ∙ sym (take_more bytes n 0 less))
    c.in_ok-end_at.ensures
