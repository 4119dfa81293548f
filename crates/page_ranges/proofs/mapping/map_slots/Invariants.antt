use Rattle.std.proofs.Common.{◌≤◌, ◌*◌}
use Rattle.page_ranges.specs.RangeMapping.{AreSlotsAdded}
use Rattle.page_ranges.proofs.mapping.map_slots.Given as goal

abbrev pub invariant-loop-slot : goal.invariant-loop-slot
invariant-loop-slot l = record {
  added : AreSlotsAdded l.fn.frames l.frames l.fn.pool l.pool l.root l.first l.pages l.slot l.rights;
  from : l.first ≤ 512 * l.slot;
}
