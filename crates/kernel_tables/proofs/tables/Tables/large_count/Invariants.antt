use Rattle.std.proofs.Common.{◌-◌, ◌≡◌, ◌+◌, ◌/◌, ◌<◌, ◌≤◌}
use Rattle.paging_core.specs.Large.{slot_of}
use Rattle.paging_core.proofs.Counts.{absent}
use Rattle.kernel_tables.proofs.tables.Tables.large_count.Given as goal

abbrev pub invariant-loop-slot : goal.invariant-loop-slot
invariant-loop-slot l = record {
  from : (l.page + 511) / 512 ≤ l.slot;
  to : (l.page + 511) / 512 < l.end → l.slot ≤ l.end;
  still : l.end ≤ (l.page + 511) / 512 → l.slot ≡ (l.page + 511) / 512;
  counted : l.count ≡ absent l.self.words l.self.root 3 (slot_of ((l.page + 511) / 512)) (l.slot - (l.page + 511) / 512);
  few : l.count ≤ l.slot;
}

abbrev pub decreases-loop-slot : goal.decreases-loop-slot
decreases-loop-slot l = l.end - l.slot
