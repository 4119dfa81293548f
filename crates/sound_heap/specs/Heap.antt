-- What callers know of a heap (own).
use Rattle.std.specs.Prelude.{◌≡◌, ℕ, ◌+◌, ◌%◌, ◌<◌, ◌≤◌, Bool, true, false, List, []}
use Rattle.std.specs.Int.{IsPowerOfTwo}
use Rattle.heap_memory.specs.declared.grant.Grant.{Grant}
use Rattle.heap_memory.specs.declared.grant.GrantFault.{GrantFault}
use Rattle.heap_memory.specs.Events.{Event}
use Rattle.dlmalloc.specs.State.{HeapState, new_heap, countdown_from}
use Rattle.dlmalloc.specs.Heap.{state_of}
pub use Rattle.dlmalloc.specs.Blocks.{HasBlock, usable}
use Rattle.dlmalloc.specs.Blocks.{IsBlock, BlocksAreApart}
use Rattle.dlmalloc.specs.Requested.{asked, IsServedAt, IsHandedOut, IsMemberServed}
use Rattle.dlmalloc.specs.Written.{IsServedCleared}
use Rattle.dlmalloc.specs.Order.{KeepsIndex}
pub use Rattle.dlmalloc.specs.Binned.{IsIntact}
use Rattle.dlmalloc.specs.Served.{IsRefusedWith}
use Rattle.dlmalloc.specs.declared.heap.Dlmalloc.{Dlmalloc}
use Rattle.sound_heap.specs.declared.heap_error.HeapError.{HeapError}
use Rattle.sound_heap.specs.declared.heap_error.HeapError.TheVariants.{BadAlign, NoBlock, Refused}

-- a heap without blocks, with a granularity and a rate
abbrev pub fresh_heap : ℕ → ℕ → HeapState
fresh_heap granularity rate = record new_heap { granularity = granularity; rate = rate; countdown = countdown_from rate }

-- two blocks of a heap have no byte in common, with one byte for a block that has none
abbrev pub AreBlocksApart : {A : Type 0} → (A → ℕ → ℕ) → Dlmalloc A → Type 0
AreBlocksApart word heap = BlocksAreApart (state_of word heap)

-- this many bytes from an address on lie in one block
pub record AreInBlock (heap : HeapState) (address count : ℕ) : Type 0 where
  pub block : ℕ
  pub size : ℕ
  pub is : IsBlock heap block size
  pub low : block ≤ address
  pub within : address + count ≤ block + size

-- the words that hold this many bytes from an address on are 0
abbrev pub AreZero : (ℕ → ℕ) → ℕ → ℕ → Type 0
AreZero words address size = (k : ℕ) → address ≤ k → k < address + size → k % 8 ≡ 0 → words k ≡ 0

-- A block of `size` bytes was handed out, at a multiple of an alignment. If `cleared`, its bytes are 0.
pub record IsBlockHandedOut {A : Type 0} (regions : A → List Grant) (word : A → ℕ → ℕ) (zeros : A → Bool) (follows : A → List Event → A → Type 0) (old : Dlmalloc A) (size align : ℕ) (cleared : Bool) (address : ℕ) (new : Dlmalloc A) : Type 0 where
  -- what holds of each block that is handed out
  pub handed : IsHandedOut regions word follows old size align address new
  -- where it was cut from; and if it is cleared, that nothing but its words was written then
  pub served : cleared ≡ false → IsServedAt regions word zeros follows old size align address new
  pub served_cleared : cleared ≡ true → IsServedCleared regions word zeros follows old size align address new
  pub are_zero : cleared ≡ true → AreZero (word new.system) address size
  -- which of the chunks of its bin it was
  pub member : IsMemberServed regions word old size align address
  pub enough : size ≤ usable (state_of word new) address
  pub power : IsPowerOfTwo align

-- The heap is in its state, its bins have their chunks in their order, and its system was asked for nothing: at most bytes of
-- blocks were written.
pub record StaysInState {A : Type 0} (regions : A → List Grant) (word : A → ℕ → ℕ) (follows : A → List Event → A → Type 0) (old new : Dlmalloc A) : Type 0 where
  pub state : state_of word new ≡ state_of word old
  pub regions_same : regions new.system ≡ regions old.system
  pub followed : follows old.system [] new.system
  pub index : KeepsIndex regions word old new

-- Why a request for this many bytes at a multiple of an alignment is refused, and that all is as it was.
abbrev pub IsRequestRefused : {A : Type 0} → (A → List Grant) → (A → ℕ → ℕ) → (A → List Event → A → Type 0) → (A → A → Type 0) → (A → ℕ → GrantFault → Type 0) → Dlmalloc A → ℕ → ℕ → HeapError → Dlmalloc A → Type 0
IsRequestRefused regions word follows refuses denies old size align BadAlign new = (IsPowerOfTwo align → ⊥) × (new ≡ old)
IsRequestRefused regions word follows refuses denies old size align NoBlock new = ⊥
IsRequestRefused regions word follows refuses denies old size align (Refused error) new = IsPowerOfTwo align × IsRefusedWith regions word follows refuses denies old (asked size align) error new
