-- Blocks that get another size (own).
use Rattle.std.specs.Prelude.{◌≡◌, ◌≢◌, ℕ, ◌+◌, ◌/◌, ◌%◌, ◌<◌, ◌≤◌, ◌⊎◌, min, Bool, List}
use Rattle.heap_memory.specs.declared.grant.Grant.{Grant}
use Rattle.heap_memory.specs.declared.grant.GrantFault.{GrantFault}
use Rattle.heap_memory.specs.Events.{Event}
use Rattle.heap_memory.specs.Words.{AreCopied}
use Rattle.dlmalloc.specs.Heap.{state_of}
use Rattle.dlmalloc.specs.Blocks.{usable}
use Rattle.dlmalloc.specs.Written.{words_in}
use Rattle.dlmalloc.specs.declared.heap.Dlmalloc.{Dlmalloc}
use Rattle.sound_heap.specs.Heap.{StaysInState}
use Rattle.heap_cache.specs.Held.{IsLive, IsGivenBack}
use Rattle.heap_cache.specs.Served.{IsServed}
use Rattle.heap_cache.specs.Live.{KeepBytes, IsGivenUp}

-- a block of so many bytes stays where it is for a size: it has room for it, and it is at least half of the block
abbrev pub StaysInPlace : ℕ → ℕ → Type 0
StaysInPlace bytes size = (size ≤ bytes) × (bytes / 2 ≤ size)

-- The words that hold `count` bytes of one block were copied into another. No other word changed, and the heap is in its state.
pub record IsCopied {A : Type 0} (regions : A → List Grant) (word : A → ℕ → ℕ) (follows : A → List Event → A → Type 0) (old : Dlmalloc A) (from to count : ℕ) (new : Dlmalloc A) : Type 0 where
  pub copied : AreCopied (regions old.system) (word old.system) from to (words_in count) (word new.system)
  pub stays : StaysInState regions word follows old new

-- The first bytes of a block were copied into another, and then the block was given back. All others keep their bytes.
pub record HasMovedOut {A : Type 0} (regions : A → List Grant) (word : A → ℕ → ℕ) (follows : A → List Event → A → Type 0) (frees parts : A → Bool) (unit : A → ℕ) (old : Dlmalloc A) (rows : List ℕ) (from to count : ℕ) (new : Dlmalloc A) (rows' : List ℕ) : Type 0 where
  pub middle : Dlmalloc A
  pub copied : IsCopied regions word follows old from to count middle
  pub others : KeepBytes word old middle (λ block. IsLive (state_of word old) rows block × (block ≢ to))
  pub freed : IsGivenBack regions word follows (frees middle.system) (parts middle.system) (unit middle.system) middle rows from new rows'
  pub given_up : IsGivenUp word middle rows from new rows'

-- A block of `size` bytes was handed out, as for any request; it got the bytes that both have, and the old block was given back.
pub record IsMoved {A : Type 0} (regions : A → List Grant) (word : A → ℕ → ℕ) (zeros : A → Bool) (follows : A → List Event → A → Type 0) (refuses : A → A → Type 0) (denies : A → ℕ → GrantFault → Type 0)
    (frees parts : A → Bool) (unit : A → ℕ) (old : Dlmalloc A) (rows : List ℕ) (from size to : ℕ) (new : Dlmalloc A) (rows' : List ℕ) : Type 0 where
  pub middle : Dlmalloc A
  pub between : List ℕ
  pub served : IsServed regions word zeros follows refuses denies frees parts unit old rows size to middle between
  pub moved : HasMovedOut regions word follows frees parts unit middle between from to (min (usable (state_of word old) from) size) new rows'

-- The block stays where it is, and nothing changed; or it was moved.
abbrev pub IsResized : {A : Type 0} → (A → List Grant) → (A → ℕ → ℕ) → (A → Bool) → (A → List Event → A → Type 0) → (A → A → Type 0) → (A → ℕ → GrantFault → Type 0) →
    (A → Bool) → (A → Bool) → (A → ℕ) → Dlmalloc A → List ℕ → ℕ → ℕ → ℕ → Dlmalloc A → List ℕ → Type 0
IsResized regions word zeros follows refuses denies frees parts unit old rows from size to new rows' =
    (StaysInPlace (usable (state_of word old) from) size × (to ≡ from) × (new ≡ old) × (rows' ≡ rows))
    ⊎ ((StaysInPlace (usable (state_of word old) from) size → ⊥) × IsMoved regions word zeros follows refuses denies frees parts unit old rows from size to new rows')

-- Callers have the block at another place than before, or at the same, with room for `size` bytes, and as many of its bytes as both
-- sizes have. They have all others still, with their bytes.
pub record IsResizedForCallers {A : Type 0} (word : A → ℕ → ℕ) (old : Dlmalloc A) (rows : List ℕ) (from size to : ℕ) (new : Dlmalloc A) (rows' : List ℕ) : Type 0 where
  pub here : IsLive (state_of word new) rows' to
  pub enough : size ≤ usable (state_of word new) to
  pub copied : (k : ℕ) → k < min (usable (state_of word old) from) size → k % 8 ≡ 0 → word new.system (to + k) ≡ word old.system (from + k)
  pub gone : to ≢ from → IsLive (state_of word new) rows' from → ⊥
  pub came : to ≢ from → IsLive (state_of word old) rows to → ⊥
  pub kept : (other : ℕ) → other ≢ from → IsLive (state_of word old) rows other → IsLive (state_of word new) rows' other
  pub only : (other : ℕ) → other ≢ to → IsLive (state_of word new) rows' other → IsLive (state_of word old) rows other
  pub bytes : KeepBytes word old new (λ block. IsLive (state_of word old) rows block × (block ≢ from))
