use Rattle.std.proofs.Common.{◌≡◌, ◌≤◌, ◌*◌, ◌^◌, take}
use Rattle.heap_map.specs.Cells.{held_in}
use Rattle.heap_map.proofs.cells.held_in.Given as goal

abbrev pub invariant-loop-piece : goal.invariant-loop-piece
invariant-loop-piece l = record {
  sum : l.bytes ≡ held_in l.class l.low l.high (take l.piece-index l.line);
  few : l.bytes ≤ l.piece-index * 2 ^ 53;
}
