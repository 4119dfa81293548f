-- How the blocks that callers have change (own).
use Rattle.std.specs.Prelude.{◌≡◌, ◌≢◌, ℕ, ◌+◌, ◌%◌, ◌<◌, ◌≤◌, List}
use Rattle.dlmalloc.specs.State.{HeapState}
use Rattle.dlmalloc.specs.Heap.{state_of}
use Rattle.dlmalloc.specs.Blocks.{HasBlock, usable}
use Rattle.dlmalloc.specs.declared.heap.Dlmalloc.{Dlmalloc}
use Rattle.heap_cache.specs.Held.{IsLive}

-- callers have the same blocks before and after
abbrev pub HasSameLive : HeapState → List ℕ → HeapState → List ℕ → Type 0
HasSameLive old rows new rows' = (address : ℕ) → (IsLive old rows address → IsLive new rows' address) × (IsLive new rows' address → IsLive old rows address)

-- Callers have one block more, the one at an address, and else the same.
pub record HasOneMoreLive (less : HeapState) (rows : List ℕ) (more : HeapState) (rows' : List ℕ) (address : ℕ) : Type 0 where
  pub new : IsLive less rows address → ⊥
  pub here : IsLive more rows' address
  pub kept : (other : ℕ) → IsLive less rows other → IsLive more rows' other
  pub only : (other : ℕ) → IsLive more rows' other → other ≢ address → IsLive less rows other

-- Each of some blocks has as many bytes as before, with the same values.
pub record KeepBytes {A : Type 0} (word : A → ℕ → ℕ) (old new : Dlmalloc A) (These : ℕ → Type 0) : Type 0 where
  pub sizes : (block : ℕ) → These block → usable (state_of word new) block ≡ usable (state_of word old) block
  pub words : (block k : ℕ) → These block → block ≤ k → k < block + usable (state_of word old) block → k % 8 ≡ 0 → word new.system k ≡ word old.system k

-- a block of the heap that is not the one at an address
abbrev pub IsOtherBlock : HeapState → ℕ → ℕ → Type 0
IsOtherBlock heap address block = HasBlock heap block × (block ≢ address)

-- Callers got the block at an address. Those that they had they have still, with their bytes.
pub record IsGained {A : Type 0} (word : A → ℕ → ℕ) (old : Dlmalloc A) (rows : List ℕ) (address : ℕ) (new : Dlmalloc A) (rows' : List ℕ) : Type 0 where
  pub live : HasOneMoreLive (state_of word old) rows (state_of word new) rows' address
  pub bytes : KeepBytes word old new (IsLive (state_of word old) rows)

-- Callers no longer have the block at an address. They have all others still, with their bytes.
pub record IsGivenUp {A : Type 0} (word : A → ℕ → ℕ) (old : Dlmalloc A) (rows : List ℕ) (address : ℕ) (new : Dlmalloc A) (rows' : List ℕ) : Type 0 where
  pub live : HasOneMoreLive (state_of word new) rows' (state_of word old) rows address
  pub bytes : KeepBytes word old new (IsLive (state_of word new) rows')

-- Callers have the blocks that they had, with their bytes.
pub record StaysForCallers {A : Type 0} (word : A → ℕ → ℕ) (old : Dlmalloc A) (rows : List ℕ) (new : Dlmalloc A) (rows' : List ℕ) : Type 0 where
  pub live : HasSameLive (state_of word old) rows (state_of word new) rows'
  pub bytes : KeepBytes word old new (IsLive (state_of word old) rows)
