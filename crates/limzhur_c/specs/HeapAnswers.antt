-- What the calls for blocks answer to C (own): an address, or 0 for a refusal.
use Rattle.std.specs.Prelude.{◌≡◌, ◌≢◌, ◌↔◌, ℕ, Bool}
use Rattle.dlmalloc.specs.Blocks.{BlocksAreApart}
use Rattle.dlmalloc.specs.declared.heap.Dlmalloc.{Dlmalloc}
use Rattle.heap_arena.specs.Arena.{regions_of, word_of}
use Rattle.heap_arena.specs.declared.arena.Arena.{Arena}
use Rattle.sound_heap.specs.Heap.{IsRequestRefused}
use Rattle.sound_heap.specs.declared.heap_error.HeapError.{HeapError}
use Rattle.checked_heap.specs.Calls.{IsBlockGiven, IsBlockResized}
use Rattle.checked_heap.specs.Checked.{arena_follows, arena_refuses, arena_denies, arena_heap_state, KeepsWordsOutside}
use Rattle.checked_heap.specs.Library.{IsResizeRefused}
use Rattle.checked_heap.specs.Room.{IsRefused, IsRefusedResize}

-- C is told the address of a new block, or 0 if the request is refused: exactly if it has to be. Blocks stay apart.
pub record IsRequestTold (old : Dlmalloc Arena) (size align : ℕ) (cleared : Bool) (answer : ℕ) (new : Dlmalloc Arena) : Type 0 where
  pub given : answer ≢ 0 → IsBlockGiven old size align cleared answer new
  pub err : answer ≡ 0 → (error : HeapError) × IsRequestRefused regions_of word_of arena_follows arena_refuses arena_denies old size align error new
  pub refused : (answer ≡ 0) ↔ IsRefused old size align
  pub apart : BlocksAreApart (arena_heap_state new)
  -- nothing changes outside of what is granted then
  pub outside : KeepsWordsOutside (regions_of new.system) old.system new.system

-- C is told where the block at `from` is with its new size, or 0 if this is refused: exactly if it has to be. Blocks stay apart.
pub record IsResizeTold (old : Dlmalloc Arena) (from size answer : ℕ) (new : Dlmalloc Arena) : Type 0 where
  pub resized : answer ≢ 0 → IsBlockResized old from size answer new
  pub err : answer ≡ 0 → (error : HeapError) × IsResizeRefused regions_of word_of arena_follows arena_refuses arena_denies old from size error new
  pub refused : (answer ≡ 0) ↔ IsRefusedResize old from size
  -- the arena is then as it was
  pub same : answer ≡ 0 → new.system ≡ old.system
  pub apart : BlocksAreApart (arena_heap_state new)
