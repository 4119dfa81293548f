use Rattle.std.proofs.Common.{ℕ, ◌∙◌, ap, sym, true, false, arith}
use Rattle.heap_picture.specs.Large.{larges_from}
use Rattle.heap_picture.proofs.Larges.{larges_none, larges_more}
use Rattle.heap_picture.proofs.large.larges_from.Goals as goal
use Rattle.heap_picture.proofs.large.larges_from.Goals.{then-is_large, else-is_large}

pub loop-place-init : goal.loop-place-init
loop-place-init c = record { count = λ s at. larges_none s.large c.args.start; few = omega arith }

pub loop-place-preserved : goal.loop-place-preserved
loop-place-preserved c = record {
  count = λ s at.
      let n = c.loop-place.place in
      let front = c.loop-place.invariant.count s at in
      elim c.if-is_large.branch [
        | then-is_large w ↦ larges_more s.large c.args.start n c.loop-place.number c.if-is_large.number true
            (sym w.if-is_large.true ∙ c.is_large.ensures s at) front (w.number-is ∙ omega arith)
        | else-is_large w ↦ larges_more s.large c.args.start n c.loop-place.number c.if-is_large.number false
            (sym w.if-is_large.false ∙ c.is_large.ensures s at) front (w.number-is ∙ omega arith)
      ];
  few = let few = c.loop-place.invariant.few in
      elim c.if-is_large.branch [
        | then-is_large w ↦ omega (arith, few, w.number-is)
        | else-is_large w ↦ omega (arith, few, w.number-is)
      ];
}

pub returns-clause-value : goal.returns-clause-value
returns-clause-value c = λ s at.
    c.loop-place.invariant.count s at
    ∙ ap (λ (n : ℕ). larges_from s.large c.args.start n) (omega (arith, c.loop-place-test.false, c.loop-place.auto.place-end))
