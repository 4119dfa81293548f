-- The words of a block are written, and the heap is in the same state: `calloc` clears them.
use Rattle.std.specs.Prelude.{◌≡◌, ℕ, ◌/◌, Bool, List, []}
use Rattle.heap_memory.specs.declared.grant.Grant.{Grant}
use Rattle.heap_memory.specs.Events.{Event}
use Rattle.heap_memory.specs.Words.{AreFilled}
use Rattle.dlmalloc_chunks.specs.Request.{round_up}
use Rattle.dlmalloc.specs.Heap.{state_of, IsSound}
use Rattle.dlmalloc.specs.Requested.{IsServedAt, IsHandedOut}
use Rattle.dlmalloc.specs.Order.{KeepsIndex}
use Rattle.dlmalloc.specs.declared.heap.Dlmalloc.{Dlmalloc}

-- the words that hold n bytes
abbrev pub words_in : ℕ → ℕ
words_in n = round_up n 8 / 8

-- Since then, nothing but words of blocks changed.
pub record IsSameHeap {A : Type 0} (regions : A → List Grant) (word : A → ℕ → ℕ) (follows : A → List Event → A → Type 0) (old new : Dlmalloc A) : Type 0 where
  pub state : state_of word new ≡ state_of word old
  pub sound : IsSound regions word new
  pub regions_same : regions new.system ≡ regions old.system
  pub followed : follows old.system [] new.system

-- A block of `size` bytes at a multiple of an alignment was handed out at an address, and then the words that hold them
-- were cleared.
pub record IsServedCleared {A : Type 0} (regions : A → List Grant) (word : A → ℕ → ℕ) (zeros : A → Bool) (follows : A → List Event → A → Type 0) (old : Dlmalloc A) (size align address : ℕ) (new : Dlmalloc A) : Type 0 where
  pub middle : Dlmalloc A
  pub served : IsServedAt regions word zeros follows old size align address middle
  pub handed : IsHandedOut regions word follows old size align address middle
  pub cleared : AreFilled (regions middle.system) (word middle.system) address (words_in size) 0 (word new.system)
  pub same : IsSameHeap regions word follows middle new
  pub index : KeepsIndex regions word middle new
