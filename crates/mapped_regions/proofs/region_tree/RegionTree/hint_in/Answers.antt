use Rattle.std.proofs.Common.{◌≡◌, true, subst, arith, List}
use Rattle.std.specs.List.{list_any}
use Rattle.machine_model.specs.declared.region.Region.{Region}
use Rattle.machine_model.specs.State.{is_within}
use Rattle.mapped_regions.proofs.region_tree.RegionTree.hint_in.Goals as goal

pub returns-then-base-self : goal.returns-then-base-self
returns-then-base-self c = record { from = omega arith; to = c.requires; held = λ address a b. absurd (omega (arith, a, b)) }

pub returns-then-self-end : goal.returns-then-self-end
returns-then-self-end c = record { from = omega arith; to = c.requires; held = λ address a b. absurd (omega (arith, a, b)) }

pub returns : goal.returns
returns c =
    let above = c.self.invariant.above in
    record {
      from = omega (arith, above, c.if-base-self.false);
      to = omega (arith, c.if-self-end.false);
      held = λ address a b. subst (λ (rs : List Region). list_any (is_within address) rs ≡ true) c.self.view_is
          (c.self.invariant.held address (omega (arith, a, c.if-base-self.false)) b);
    }
