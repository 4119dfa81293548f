use Rattle.std.proofs.Common.{◌-◌, ◌*◌, ◌^◌, ◌≤◌}
use Rattle.meminterval.specs.Tree.{entries}
use Rattle.mapped_regions.specs.Pairs.{pair_regions}
use Rattle.mapped_regions.specs.Regions.{AreHeld}
use Rattle.mapped_regions.proofs.region_tree.run_end.Given as goal

abbrev pub invariant-loop-entry : goal.invariant-loop-entry
invariant-loop-entry l = record {
  above : l.fn.from ≤ l.at;
  held : AreHeld (4096 * l.fn.from) (4096 * l.at) (pair_regions (entries l.fn.tree));
}

abbrev pub decreases-loop-entry : goal.decreases-loop-entry
decreases-loop-entry l = 2 ^ 52 - l.at
