-- What callers know of a heap that looks at addresses (own).
use Rattle.std.specs.Prelude.{◌≡◌, ◌≢◌, ℕ, ◌+◌, ◌-◌, ◌%◌, ◌≤◌, List, None}
use Rattle.heap_memory.specs.declared.grant.Grant.{Grant}
use Rattle.heap_memory.specs.declared.grant.GrantFault.{GrantFault}
use Rattle.heap_memory.specs.Events.{Event}
use Rattle.dlmalloc_chunks.specs.Request.{padded}
use Rattle.dlmalloc.specs.State.{HeapState}
use Rattle.dlmalloc.specs.Resized.{in_place}
use Rattle.dlmalloc.specs.Heap.{state_of}
use Rattle.dlmalloc.specs.Served.{IsRefusedWith}
use Rattle.dlmalloc.specs.declared.heap.Dlmalloc.{Dlmalloc}
use Rattle.dlmalloc.specs.declared.malloc_error.MallocError.TheVariants.{TooLarge}
use Rattle.sound_heap.specs.Heap.{HasBlock, usable}
use Rattle.sound_heap.specs.declared.heap_error.HeapError.{HeapError}
use Rattle.sound_heap.specs.declared.heap_error.HeapError.TheVariants.{BadAlign, NoBlock, Refused}

-- the block at an address has a whole word at an offset
pub record HasWord (heap : HeapState) (address offset : ℕ) : Type 0 where
  pub block : HasBlock heap address
  pub within : offset + 8 ≤ usable heap address
  pub aligned : offset % 8 ≡ 0

-- Why the block at an address does not get this many bytes, and that all is as it was: there is none; or there is one, but a new
-- block for them is refused, and if they are not too many, it cannot have them where it stands either.
abbrev pub IsResizeRefused : {A : Type 0} → (A → List Grant) → (A → ℕ → ℕ) → (A → List Event → A → Type 0) → (A → A → Type 0) → (A → ℕ → GrantFault → Type 0) → Dlmalloc A → ℕ → ℕ → HeapError → Dlmalloc A → Type 0
IsResizeRefused regions word follows refuses denies old address size BadAlign new = ⊥
IsResizeRefused regions word follows refuses denies old address size NoBlock new = (HasBlock (state_of word old) address → ⊥) × (new ≡ old)
IsResizeRefused regions word follows refuses denies old address size (Refused error) new =
    HasBlock (state_of word old) address
    × IsRefusedWith regions word follows refuses denies old size error new
    × (error ≢ TooLarge → in_place (state_of word old) (address - 16) (padded size) ≡ None)
