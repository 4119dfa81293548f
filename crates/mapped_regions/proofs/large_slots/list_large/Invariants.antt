use Rattle.std.proofs.Common.{◌+◌, ◌-◌, ◌*◌, ◌/◌, ◌<◌, ◌≤◌, ◌⊎◌}
use Rattle.std.specs.Prelude.{vec_len, vec_capacity}
use Rattle.machine_model.specs.Machine.{AreLargeSlots}
use Rattle.mapped_regions.proofs.large_slots.list_large.Given as goal

abbrev pub invariant-loop-slot : goal.invariant-loop-slot
invariant-loop-slot l = record {
  listed : AreLargeSlots l.frames l.root l.fn.region.start (512 * l.slot - l.fn.region.start / 4096) l.slots.items;
  from : l.fn.region.start / 4096 ≤ 512 * l.slot;
  within : (512 * l.slot < l.fn.region.start / 4096 + 512) ⊎ (512 * l.slot ≤ l.fn.region.start / 4096 + l.fn.region.pages);
  places : vec_len l.slots + (l.stop - l.slot) ≤ vec_capacity l.slots;
}
