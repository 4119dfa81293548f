use Rattle.std.proofs.Common.{◌≡◌, ◌≤◌, ◌+◌, ◌-◌}
use Rattle.heap_tables.specs.Tables.{square_grown, square_frames}
use Rattle.heap_tables.proofs.tables.square_frames.Given as goal

abbrev pub invariant-loop-times : goal.invariant-loop-times
invariant-loop-times l = record {
  grown : square_grown (22 - l._times) l.of l.frames ≡ square_frames l.frames;
  some : 1 ≤ l.of;
  few : l.of ≤ l.frames + 1;
}
