-- When a heap over an arena has to refuse a request (own).
use Rattle.std.specs.Prelude.{◌≡◌, ℕ, ◌+◌, ◌-◌, ◌≤◌, ◌⊎◌, false, None}
use Rattle.std.specs.Int.{IsPowerOfTwo}
use Rattle.dlmalloc_chunks.specs.Request.{padded, limit, round_up}
use Rattle.dlmalloc.specs.Choice.{chosen}
use Rattle.dlmalloc.specs.Requested.{asked}
use Rattle.dlmalloc.specs.Resized.{in_place}
use Rattle.dlmalloc.specs.declared.heap.Dlmalloc.{Dlmalloc}
use Rattle.heap_arena.specs.Arena.{has_room}
use Rattle.heap_arena.specs.declared.arena.Arena.{Arena}
use Rattle.sound_heap.specs.Heap.{HasBlock}
use Rattle.checked_heap.specs.Checked.{arena_heap_state}

-- There is no room for a chunk of n bytes: no free extent serves it, and the arena has not n + 96 bytes in whole granularities
-- after its grants, or no place for another grant.
pub record HasNoRoom (heap : Dlmalloc Arena) (n : ℕ) : Type 0 where
  pub none_chosen : chosen (arena_heap_state heap) n ≡ None
  pub arena_full : has_room heap.system (round_up (n + 96) heap.granularity) ≡ false

-- A request for this many bytes at a multiple of an alignment is refused: the alignment is no power of two, the size is too large, or
-- there is no room.
abbrev pub IsRefused : Dlmalloc Arena → ℕ → ℕ → Type 0
IsRefused heap size align = (IsPowerOfTwo align → ⊥) ⊎ ((limit heap.granularity ≤ asked size align) ⊎ HasNoRoom heap (padded (asked size align)))

-- A request that the block at an address have this many bytes is refused: there is none, the size is too large, or it cannot have them
-- where it stands, and there is no room elsewhere.
abbrev pub IsRefusedResize : Dlmalloc Arena → ℕ → ℕ → Type 0
IsRefusedResize heap address size =
    (HasBlock (arena_heap_state heap) address → ⊥) ⊎ ((limit heap.granularity ≤ size) ⊎ ((in_place (arena_heap_state heap) (address - 16) (padded size) ≡ None) × HasNoRoom heap (padded size)))
