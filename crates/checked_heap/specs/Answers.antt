-- What the calls of a heap over arenas answer (own).
use Rattle.std.specs.Prelude.{◌≡◌, ◌↔◌, ℕ, Bool, List, OnOk, IfOk, IfErr, IsErr, Result}
use Rattle.dlmalloc.specs.Blocks.{BlocksAreApart}
use Rattle.dlmalloc.specs.Order.{KeepsIndex}
use Rattle.dlmalloc.specs.State.{HeapState}
use Rattle.dlmalloc.specs.declared.heap.Dlmalloc.{Dlmalloc}
use Rattle.heap_arena.specs.Arena.{regions_of, word_of}
use Rattle.heap_arena.specs.Arenas.{IsAdded}
use Rattle.heap_arena.specs.declared.add_fault.AddFault.{AddFault}
use Rattle.heap_arena.specs.declared.arena.Arena.{Arena}
use Rattle.sound_heap.specs.Heap.{IsRequestRefused}
use Rattle.sound_heap.specs.declared.heap_error.HeapError.{HeapError}
use Rattle.checked_heap.specs.Calls.{IsBlockGiven, IsBlockResized, IsArenaRefused}
use Rattle.checked_heap.specs.Checked.{arena_follows, arena_refuses, arena_denies, arena_heap_state, KeepsWordsOutside}
use Rattle.checked_heap.specs.Library.{IsResizeRefused}
use Rattle.checked_heap.specs.Room.{IsRefused, IsRefusedResize}

-- A request for a new block is answered by its address, or is refused for the reason that is told: exactly if it has to be. Blocks
-- stay apart.
pub record IsRequestAnswered (old : Dlmalloc Arena) (size align : ℕ) (cleared : Bool) (answer : Result ℕ HeapError) (new : Dlmalloc Arena) : Type 0 where
  pub given : IfOk answer (λ address. IsBlockGiven old size align cleared address new)
  pub err : IfErr answer (λ error. IsRequestRefused regions_of word_of arena_follows arena_refuses arena_denies old size align error new)
  pub refused : IsErr answer ↔ IsRefused old size align
  pub apart : BlocksAreApart (arena_heap_state new)
  -- nothing changes outside of what is granted then
  pub outside : KeepsWordsOutside (regions_of new.system) old.system new.system

-- A request that the block at `from` have another size is answered by where it is then, or is refused for the reason that is told:
-- exactly if it has to be. Blocks stay apart.
pub record IsResizeAnswered (old : Dlmalloc Arena) (from size : ℕ) (answer : Result ℕ HeapError) (new : Dlmalloc Arena) : Type 0 where
  pub resized : IfOk answer (λ to. IsBlockResized old from size to new)
  pub err : IfErr answer (λ error. IsResizeRefused regions_of word_of arena_follows arena_refuses arena_denies old from size error new)
  pub refused : IsErr answer ↔ IsRefusedResize old from size
  -- the arena is then as it was
  pub same : IsErr answer → new.system ≡ old.system
  pub apart : BlocksAreApart (arena_heap_state new)

-- The heap has this state, its arena is as it was, and so is the order of its free chunks.
pub record IsOnlySet (state : HeapState) (old new : Dlmalloc Arena) : Type 0 where
  pub state_is : arena_heap_state new ≡ state
  pub system : new.system ≡ old.system
  pub index : KeepsIndex regions_of word_of old new

-- A heap over several arenas, of which `arenas` tells, has taken a further one, or gives it back with the reason. All of the heap but
-- its arenas is as it was.
pub record IsArenaAnswered {A T : Type 0} (arenas : A → List Arena) (most : ℕ) (old : Dlmalloc A) (arena : Arena) (answer : Result T (AddFault × Arena)) (new : Dlmalloc A) : Type 0 where
  pub taken : OnOk answer (IsAdded (arenas old.system) arena (arenas new.system))
  pub err : IfErr answer (λ refusal. IsArenaRefused (arenas old.system) most arena refusal.0 refusal.1 (arenas new.system))
  pub others : new ≡ record old { system = new.system }
