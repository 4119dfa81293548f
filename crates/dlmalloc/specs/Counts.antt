-- How many words a call loads and stores at most.
use Rattle.std.specs.Prelude.{ℕ, ◌*◌, length}
use Rattle.dlmalloc.specs.State.{HeapState}

-- in a release pass, which visits each segment after the head: its record, its first chunk, and that chunk's bin
abbrev pub pass_steps : HeapState → ℕ
pass_steps heap = 512 * length heap.segments
