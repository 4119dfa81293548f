use Rattle.std.proofs.Common.{◌≡◌, take}
use Rattle.heap_map.specs.Pieces.{pieces_of}
use Rattle.heap_map.proofs.pieces.pieces_of.Given as goal

abbrev pub invariant-loop-extent : goal.invariant-loop-extent
invariant-loop-extent l = l.pieces.items ≡ pieces_of l.row (take l.extent-index l.extents)
