-- A heap, and the blocks of it that lie on stacks (own).
use Rattle.std.specs.Prelude.{◌≡◌, ℕ, ◌+◌, ◌-◌, ◌*◌, ◌/◌, ◌<◌, ◌≤◌, ◌⊎◌, Bool, false, List, Some}
use Rattle.heap_memory.specs.declared.grant.Grant.{Grant}
use Rattle.heap_memory.specs.Events.{Event}
use Rattle.dlmalloc_chunks.specs.declared.extent.Extent.{Extent}
use Rattle.dlmalloc_chunks.specs.declared.extent.Kind.TheVariants.{Used}
use Rattle.dlmalloc_chunks.specs.Request.{padded}
use Rattle.dlmalloc.specs.Extents.{extent_at}
use Rattle.dlmalloc.specs.State.{HeapState, extents_in}
use Rattle.dlmalloc.specs.Heap.{state_of}
use Rattle.dlmalloc.specs.Blocks.{IsBlock, HasBlock, usable}
use Rattle.dlmalloc.specs.AfterFree.{IsFreed}
use Rattle.dlmalloc.specs.declared.heap.Dlmalloc.{Dlmalloc}
use Rattle.sound_heap.specs.Heap.{IsBlockHandedOut}
use Rattle.heap_cache.specs.Stacks.{height, LiesOn, IsPushed, IsPopped}

-- an address lies on some stack
abbrev pub IsHeld : List ℕ → ℕ → Type 0
IsHeld rows address = (class : ℕ) × (class < 66) × LiesOn rows class address

-- a block of the heap that lies on no stack: one that a caller has
abbrev pub IsLive : HeapState → List ℕ → ℕ → Type 0
IsLive heap rows address = HasBlock heap address × (IsHeld rows address → ⊥)

-- the chunk of a block has the size of a stack, or up to 15 bytes more
pub record IsOfClass (heap : HeapState) (class address : ℕ) : Type 0 where
  pub extent : Extent
  pub there : extent_at (address - 16) (extents_in heap) ≡ Some extent
  pub low : 16 ≤ address
  pub used : extent.kind ≡ Used
  pub head : 8 ≤ extent.size
  pub holds : class * 16 ≤ extent.size
  pub little : extent.size ≤ class * 16 + 15

-- What lies on a stack is a block of its size, and lies there once.
pub record AreHeld (heap : HeapState) (rows : List ℕ) : Type 0 where
  pub blocks : (class address : ℕ) → class < 66 → LiesOn rows class address → IsOfClass heap class address
  pub once : (one other address : ℕ) → one < 66 → other < 66 → (a : LiesOn rows one address) → (b : LiesOn rows other address) → (one ≡ other) × (a.place ≡ b.place)

-- An address was taken off the stack for a request.
pub record IsTakenFor (old : List ℕ) (size address : ℕ) (new : List ℕ) : Type 0 where
  pub low : padded size / 16 < 66
  pub popped : IsPopped old (padded size / 16) address new
  pub holds : size + 8 ≤ padded size / 16 * 16
  pub near : padded size / 16 * 16 ≤ size + 32

-- No stack has a block for a request: it is too large for them, or the stack of its size is empty.
abbrev pub HasNoneFor : List ℕ → ℕ → Type 0
HasNoneFor rows size = (1024 ≤ size) ⊎ (height rows (padded size / 16) ≡ 0)

-- No stack has room for a block of so many bytes: it is too large for them, or the stack of its size is full.
abbrev pub HasNoRoom : List ℕ → ℕ → Type 0
HasNoRoom rows bytes = (1048 ≤ bytes) ⊎ (height rows ((bytes + 8) / 16) ≡ 15)

-- A block of `size` bytes was taken off the stack of its chunk's size. The heap is as it was.
pub record IsReused {A : Type 0} (word : A → ℕ → ℕ) (old : Dlmalloc A) (rows : List ℕ) (size address : ℕ) (new : Dlmalloc A) (rows' : List ℕ) : Type 0 where
  pub same : new ≡ old
  pub low : padded size / 16 < 66
  pub popped : IsPopped rows (padded size / 16) address rows'
  pub block : IsBlock (state_of word new) address size
  pub held : IsHeld rows address
  pub gone : IsHeld rows' address → ⊥

-- A block of `size` bytes at a multiple of 16 was handed out: one that lay on a stack, or, if no stack has one for it, a new one,
-- beside what lies on stacks.
abbrev pub IsGiven : {A : Type 0} → (A → List Grant) → (A → ℕ → ℕ) → (A → Bool) → (A → List Event → A → Type 0) → Dlmalloc A → List ℕ → ℕ → ℕ → Dlmalloc A → List ℕ → Type 0
IsGiven regions word zeros follows old rows size address new rows' =
    IsReused word old rows size address new rows'
    ⊎ (HasNoneFor rows size × IsBlockHandedOut regions word zeros follows old size 16 false address new × (rows' ≡ rows) × (IsHeld rows' address → ⊥))

-- The block at an address was given back: it lies on the stack of its chunk's size, and the heap is as it was; or, if no stack has room
-- for it, the heap freed it.
abbrev pub IsGivenBack : {A : Type 0} → (A → List Grant) → (A → ℕ → ℕ) → (A → List Event → A → Type 0) → Bool → Bool → ℕ → Dlmalloc A → List ℕ → ℕ → Dlmalloc A → List ℕ → Type 0
IsGivenBack regions word follows frees parts unit old rows address new rows' =
    (((usable (state_of word old) address + 8) / 16 < 66) × IsPushed rows ((usable (state_of word old) address + 8) / 16) address rows' × (new ≡ old))
    ⊎ (HasNoRoom rows (usable (state_of word old) address) × IsFreed regions word follows frees parts unit old address new × (rows' ≡ rows))
