-- Blocks that are handed out cleared (own).
use Rattle.std.specs.Prelude.{ℕ, Bool, List}
use Rattle.heap_memory.specs.declared.grant.Grant.{Grant}
use Rattle.heap_memory.specs.declared.grant.GrantFault.{GrantFault}
use Rattle.heap_memory.specs.Events.{Event}
use Rattle.heap_memory.specs.Words.{AreFilled}
use Rattle.dlmalloc.specs.Written.{words_in}
use Rattle.dlmalloc.specs.declared.heap.Dlmalloc.{Dlmalloc}
use Rattle.sound_heap.specs.Heap.{AreZero, StaysInState}
use Rattle.heap_cache.specs.Served.{IsServed}

-- The words that hold `size` bytes from an address on are 0. No other word changed, and the heap is in its state.
pub record IsCleared {A : Type 0} (regions : A → List Grant) (word : A → ℕ → ℕ) (follows : A → List Event → A → Type 0) (old : Dlmalloc A) (size address : ℕ) (new : Dlmalloc A) : Type 0 where
  pub filled : AreFilled (regions old.system) (word old.system) address (words_in size) 0 (word new.system)
  pub zero : AreZero (word new.system) address size
  pub stays : StaysInState regions word follows old new

-- A block was handed out, and then its bytes were cleared.
abbrev pub IsServedCleared : {A : Type 0} → (A → List Grant) → (A → ℕ → ℕ) → (A → Bool) → (A → List Event → A → Type 0) → (A → A → Type 0) → (A → ℕ → GrantFault → Type 0) →
    (A → Bool) → (A → Bool) → (A → ℕ) → Dlmalloc A → List ℕ → ℕ → ℕ → Dlmalloc A → List ℕ → Type 0
IsServedCleared {A = A} regions word zeros follows refuses denies frees parts unit old rows size address new rows' =
    (middle : Dlmalloc A) × IsServed regions word zeros follows refuses denies frees parts unit old rows size address middle rows'
    × IsCleared regions word follows middle size address new
