use Rattle.std.proofs.Common.{◌≡◌, ◌∙◌, sym, ap, arith}
use Rattle.limzhur_guest.specs.Walks.{onward}
use Rattle.limzhur_guest.proofs.steps.limzhur_walk_next.Goals as goal
use Rattle.limzhur_guest.proofs.steps.limzhur_walk_next.Goals.{then-walk-eq0, else-walk-eq0}

pub returns-clause-onward : goal.returns-clause-onward
returns-clause-onward c words zero =
    elim c.if-walk-eq0.branch [
      | then-walk-eq0 w ↦ w.take.ensures.onward words ∙ ap (onward words) (sym w.walk-is)
      | else-walk-eq0 w ↦ absurd (omega (arith, zero, w.if-walk-eq0.false))
    ]
