use Rattle.std.proofs.Common.{◌≡◌, ◌++◌, ◌-◌, get_or, drop}
use Rattle.heap_time.specs.Axis.{ranges_from, ranges_of}
use Rattle.heap_time.proofs.folding.ranges_of.Given as goal

abbrev pub invariant-loop-next : goal.invariant-loop-next
invariant-loop-next l = l.ranges.items ++ ranges_from (get_or l.edges (l.next - 1) 0) (drop l.next l.edges) ≡ ranges_of l.edges
