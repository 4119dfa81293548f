-- What the calls of a heap over arenas have done (own).
use Rattle.std.specs.Prelude.{◌≡◌, ℕ, ◌≤◌, Bool, true, List}
use Rattle.dlmalloc.specs.Outcome.{IsReallocated}
use Rattle.dlmalloc.specs.declared.heap.Dlmalloc.{Dlmalloc}
use Rattle.heap_arena.specs.Arena.{regions_of, word_of}
use Rattle.heap_arena.specs.Arenas.{IsNotAdded}
use Rattle.heap_arena.specs.declared.add_fault.AddFault.{AddFault}
use Rattle.heap_arena.specs.declared.arena.Arena.{Arena}
use Rattle.sound_heap.specs.Heap.{HasBlock, usable, IsBlockHandedOut}
use Rattle.checked_heap.specs.Checked.{arena_zeros, arena_follows, arena_heap_state, KeepsWordsOutside}

-- The block at the address is new, for a request of `size` bytes at a multiple of `align`; if `cleared`, its bytes
-- are 0.
abbrev pub IsBlockGiven : (old : Dlmalloc Arena) → (size align : ℕ) → (cleared : Bool) → (address : ℕ) → (new : Dlmalloc Arena) → Type 0
IsBlockGiven old size align cleared address new = IsBlockHandedOut regions_of word_of arena_zeros arena_follows old size align cleared address new

-- The block at `from` has this size, and stands at `to`.
pub record IsBlockResized (old : Dlmalloc Arena) (from size to : ℕ) (new : Dlmalloc Arena) : Type 0 where
  pub block : HasBlock (arena_heap_state old) from
  pub reallocated : IsReallocated regions_of word_of arena_zeros arena_follows true true 1 old from (usable (arena_heap_state old) from) 16 size to new
  pub enough : size ≤ usable (arena_heap_state new) to
  -- nothing changes outside of what is granted once there is room for the new size
  pub outside : KeepsWordsOutside (regions_of reallocated.given.middle.system) old.system new.system

-- An arena is not taken: a fault says why, the arena comes back as it was, and those of the system are as they were.
pub record IsArenaRefused (old : List Arena) (most : ℕ) (arena : Arena) (fault : AddFault) (back : Arena) (new : List Arena) : Type 0 where
  pub not_added : IsNotAdded old most arena fault
  pub back_is : back ≡ arena
  pub same : new ≡ old
