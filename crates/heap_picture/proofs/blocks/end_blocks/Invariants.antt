use Rattle.std.proofs.Common.{◌≡◌, ℕ, ◌-◌, drop, length}
use Rattle.heap_map.specs.Blocks.{named_at}
use Rattle.heap_picture.specs.Blocks.{block_at_end}
use Rattle.heap_picture.proofs.blocks.end_blocks.Given as goal

abbrev pub invariant-loop-place : goal.invariant-loop-place
invariant-loop-place l = (address : ℕ) → named_at l.blocks address ≡ block_at_end l.calls (drop (length l.stays - l.place) l.stays) address
