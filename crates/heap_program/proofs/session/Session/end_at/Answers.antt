use Rattle.std.proofs.Common.{◌≡◌, ◌∷◌, [], List, ℕ, length, sym, ◌∙◌, ap, arith, refl, true-eqb}
use Rattle.std.proofs.lemmas.Result.{on_ok_weaker}
use Rattle.heap_program.proofs.Sessions.{advanced_more}
use Rattle.heap_program.proofs.session.Session.end_at.Goals as goal

none_left : (line : List ℕ) → length line ≡ 0 → line ≡ []
none_left [] none = refl
none_left (b ∷ line) none = absurd (omega (arith, none))

pub whole_line-requires-clause-none_begun : goal.whole_line-requires-clause-none_begun
whole_line-requires-clause-none_begun g c =
    let same : c.bytes.result.now ≡ c.args.self.now.line = c.bytes.ensures.value in
    none_left c.args.self.now.line (sym (ap length same) ∙ true-eqb (length c.bytes.result.now) 0 (sym (sym c.is_empty.ensures ∙ c.if-is_empty.true)))

pub returns : goal.returns
returns g c =
    on_ok_weaker c.end_line.result (advanced_more g.R.Respond.responds g.met.R.Respond.responds_on c.args.self.now
    c.go_on.new.self c.end_line.new.self c.args.bytes.now (10 ∷ []) c.in_ok-go_on.ensures)
    c.end_line.ensures
