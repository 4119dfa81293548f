-- What stays as blocks on stacks are freed by the heap (own).
use Rattle.std.specs.Prelude.{◌≡◌, ℕ, ◌+◌, ◌<◌, Bool, List, [], ◌∷◌, Some}
use Rattle.heap_memory.specs.declared.grant.Grant.{Grant}
use Rattle.heap_memory.specs.Events.{Event}
use Rattle.dlmalloc_chunks.specs.declared.extent.Extent.{Extent}
use Rattle.dlmalloc_chunks.specs.declared.extent.Kind.TheVariants.{Used}
use Rattle.dlmalloc.specs.Extents.{extent_at}
use Rattle.dlmalloc.specs.State.{extents_in}
use Rattle.dlmalloc.specs.Heap.{state_of}
use Rattle.dlmalloc.specs.Blocks.{KeepsBlocks}
use Rattle.dlmalloc.specs.AfterFree.{IsFreed}
use Rattle.dlmalloc.specs.declared.heap.Dlmalloc.{Dlmalloc}
use Rattle.heap_cache.specs.Stacks.{height}
use Rattle.heap_cache.specs.Held.{IsHeld}

-- nothing lies on a stack
abbrev pub AreEmpty : List ℕ → Type 0
AreEmpty rows = (class : ℕ) → class < 66 → height rows class ≡ 0

-- The heap freed the blocks at these addresses in turn, the first of the list last. Each lay on a stack.
abbrev pub AreFreed : {A : Type 0} → (A → List Grant) → (A → ℕ → ℕ) → (A → List Event → A → Type 0) → (A → Bool) → (A → Bool) → (A → ℕ) → List ℕ → Dlmalloc A → List ℕ → Dlmalloc A → Type 0
AreFreed regions word follows frees parts unit rows old [] new = new ≡ old
AreFreed {A = A} regions word follows frees parts unit rows old (address ∷ addresses) new = (before : Dlmalloc A) × AreFreed regions word follows frees parts unit rows old addresses before
    × IsHeld rows address × IsFreed regions word follows (frees before.system) (parts before.system) (unit before.system) before address new

-- What callers have stays: the extents in use that are on no stack are the same before and after, and blocks that stay have their bytes.
pub record KeepsLive {A : Type 0} (word : A → ℕ → ℕ) (old : Dlmalloc A) (rows : List ℕ) (new : Dlmalloc A) (rows' : List ℕ) : Type 0 where
  pub stays : (used : Extent) → used.kind ≡ Used → extent_at used.at (extents_in (state_of word old)) ≡ Some used → (IsHeld rows (used.at + 16) → ⊥) → extent_at used.at (extents_in (state_of word new)) ≡ Some used
  pub were : (used : Extent) → used.kind ≡ Used → extent_at used.at (extents_in (state_of word new)) ≡ Some used → extent_at used.at (extents_in (state_of word old)) ≡ Some used
  pub only : (used : Extent) → used.kind ≡ Used → extent_at used.at (extents_in (state_of word new)) ≡ Some used → (IsHeld rows' (used.at + 16) → ⊥) → IsHeld rows (used.at + 16) → ⊥
  pub held : (address : ℕ) → IsHeld rows' address → IsHeld rows address
  pub bytes : KeepsBlocks (extents_in (state_of word new)) (word old.system) (word new.system)

-- The heap freed blocks that lay on stacks, and nothing else.
pub record HasLetGo {A : Type 0} (regions : A → List Grant) (word : A → ℕ → ℕ) (follows : A → List Event → A → Type 0) (frees parts : A → Bool) (unit : A → ℕ) (old : Dlmalloc A) (rows : List ℕ) (new : Dlmalloc A) (rows' : List ℕ) : Type 0 where
  pub addresses : List ℕ
  pub freed : AreFreed regions word follows frees parts unit rows old addresses new
  pub live : KeepsLive word old rows new rows'
