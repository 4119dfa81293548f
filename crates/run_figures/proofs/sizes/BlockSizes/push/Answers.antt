use Rattle.std.proofs.Common.{◌≤◌, ◌*◌, ◌-◌, ◌^◌, length, arith}
use Rattle.std.specs.Prelude.{sum}
use Rattle.run_figures.proofs.Totals.{sum_few}
use Rattle.run_figures.proofs.sizes.BlockSizes.push.Goals as goal

pub overflow_add-self : goal.overflow_add-self
overflow_add-self c =
    let few : sum c.self.inside.sizes.items ≤ length c.self.inside.sizes.items * (2 ^ 64 - 1) = sum_few c.self.inside.sizes.items c.self.invariant.small in
    omega (arith, few, c.self.invariant.total_is, c.len-number.ensures, c.ranges.size, c.from.ensures)
