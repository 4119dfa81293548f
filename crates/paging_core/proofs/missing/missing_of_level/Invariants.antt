use Rattle.std.proofs.Common.{◌≡◌, ◌≤◌, ◌-◌, ◌+◌}
use Rattle.paging_core.proofs.Counts.{absent}
use Rattle.paging_core.proofs.missing.missing_of_level.Given as goal

abbrev pub invariant-loop-from : goal.invariant-loop-from
invariant-loop-from g l = record {
  low : l.first ≤ l.from;
  high : l.from ≤ l.last + 1;
  count : l.missing ≡ absent (g.M.PhysicalMemory.words l.frames) l.root l.level l.first (l.from - l.first);
  bounded : l.missing ≤ l.from - l.first;
}

abbrev pub decreases-loop-from : goal.decreases-loop-from
decreases-loop-from g l = l.last + 1 - l.from
