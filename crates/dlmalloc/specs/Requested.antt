-- A block at a multiple of an alignment (dlmalloc: `memalign`).
use Rattle.std.specs.Prelude.{◌≡◌, ℕ, ◌+◌, ◌-◌, ◌%◌, ◌<◌, ◌≤◌, ◌⊎◌, max, nat_le, if◌then◌else◌, Bool, true, List, [], ◌∷◌, map, None, Some, IsTrue}
use Rattle.heap_memory.specs.declared.grant.Grant.{Grant}
use Rattle.heap_memory.specs.Events.{Event, Granted}
use Rattle.heap_memory.specs.Regions.{is_granted, with_grant, IsWordOf}
use Rattle.dlmalloc_chunks.specs.Request.{padded, enlarged, limit, round_up}
use Rattle.dlmalloc.specs.State.{HeapState, Segment, extents_in}
use Rattle.dlmalloc.specs.Choice.{OfBins, chosen}
use Rattle.dlmalloc.specs.Granted.{granted}
use Rattle.dlmalloc.specs.Aligned.{aligned_place, lead_freed, aligned}
use Rattle.dlmalloc.specs.Blocks.{IsBlock, HasOneMore, IsFull, KeepsBlocks}
use Rattle.dlmalloc.specs.Boundaries.{IsOwn}
use Rattle.dlmalloc.specs.Binned.{IsMember}
use Rattle.dlmalloc.specs.Heap.{state_of, IsSound}
use Rattle.dlmalloc.specs.Served.{IsServed}
use Rattle.dlmalloc.specs.Order.{KeepsOrderThrough}
use Rattle.dlmalloc.specs.declared.heap.Dlmalloc.{Dlmalloc}

-- what is asked of the heap for n bytes at an alignment: above 16 the enlarged form
abbrev pub asked : ℕ → ℕ → ℕ
asked n align = if nat_le align 16 then n else enlarged n align

-- A word is none of a heap's own: neither after a greater block was cut from it, nor after the lead was freed, nor in
-- the end.
abbrev pub IsPassedOver : HeapState → HeapState → HeapState → ℕ → Type 0
IsPassedOver cut lead end k = (IsOwn cut k → ⊥) × (IsOwn lead k → ⊥) × (IsOwn end k → ⊥)

-- A greater block was handed out, and of it a block of `size` bytes at a multiple of an alignment above 16 is left.
pub record IsServedAligned {A : Type 0} (regions : A → List Grant) (word : A → ℕ → ℕ) (zeros : A → Bool) (follows : A → List Event → A → Type 0) (old : Dlmalloc A) (size align address : ℕ) (new : Dlmalloc A) : Type 0 where
  pub middle : Dlmalloc A
  pub greater : ℕ
  pub served : IsServed regions word zeros follows old (enlarged size align) greater middle
  pub place : address ≡ aligned_place (greater - 16) align + 16
  pub state : state_of word new ≡ aligned (state_of word middle) (greater - 16) align (padded size)
  pub low : 16 ≤ address
  pub block : IsBlock (state_of word new) address size
  pub multiple : address % align ≡ 0
  pub aligned_at_16 : address % 16 ≡ 0
  pub granted : (k : ℕ) → address ≤ k → k < address + max size 1 → IsTrue (is_granted (regions new.system) k)
  pub more : HasOneMore (state_of word old) (state_of word new) (address - 16)
  pub kept : KeepsBlocks (extents_in (state_of word old)) (word old.system) (word new.system)
  -- of the granted words only own ones changed
  pub words : (k : ℕ) → IsWordOf (regions middle.system) k → IsPassedOver (state_of word middle) (lead_freed (state_of word middle) (greater - 16) (address - 16)) (state_of word new) k → word new.system k ≡ word middle.system k
  pub new_words : zeros old.system ≡ true → (k : ℕ) → IsWordOf (regions new.system) k → (IsWordOf (regions old.system) k → ⊥) →
      IsPassedOver (state_of word middle) (lead_freed (state_of word middle) (greater - 16) (address - 16)) (state_of word new) k → word new.system k ≡ 0
  pub sound : IsSound regions word new
  pub regions_same : regions new.system ≡ regions middle.system
  pub followed : follows middle.system [] new.system
  pub order : KeepsOrderThrough regions word (lead_freed (state_of word middle) (greater - 16) (address - 16)) middle new

-- A block of `size` bytes at a multiple of an alignment was handed out at an address.
abbrev pub IsServedAt : {A : Type 0} → (A → List Grant) → (A → ℕ → ℕ) → (A → Bool) → (A → List Event → A → Type 0) → Dlmalloc A → ℕ → ℕ → ℕ → Dlmalloc A → Type 0
IsServedAt regions word zeros follows old size align address new =
    ((align ≤ 16) × IsServed regions word zeros follows old size address new)
    ⊎ ((16 < align) × IsServedAligned regions word zeros follows old size align address new)

-- If a binned extent is chosen for a block, it is the one that each linked index names, and the block is in it: above
-- alignment 16 at the aligned place.
abbrev pub IsMemberServed : {A : Type 0} → (A → List Grant) → (A → ℕ → ℕ) → Dlmalloc A → ℕ → ℕ → ℕ → Type 0
IsMemberServed regions word old size align address =
    (fit : ℕ) → chosen (state_of word old) (padded (asked size align)) ≡ Some (OfBins fit) → (at : ℕ) × IsMember regions word old (padded (asked size align)) at × (address ≡ aligned_place at align + 16)

-- where the segments of a heap are, and with what flags
abbrev pub spans : HeapState → List Segment
spans heap = map {B = Segment} (λ segment. record segment { extents = [] }) heap.segments

-- A chunk of n bytes was found in the heap's segments; or none was, and so blocks leave no run of n + 256 bytes, and a region
-- was granted to them.
abbrev pub IsFound : {A : Type 0} → (A → List Event → A → Type 0) → (A → List Grant) → A → HeapState → ℕ → A → HeapState → Type 0
IsFound follows regions system old n system' new =
    ((spans new ≡ spans old) × follows system [] system' × (regions system' ≡ regions system))
    ⊎ ((grant : Grant) × (chosen old n ≡ None) × IsFull old (n + 256) × (spans new ≡ spans (granted grant n old))
    × follows system (Granted (round_up (n + 96) old.granularity) grant ∷ []) system' × (regions system' ≡ with_grant grant (regions system)))

-- What holds of each block that is handed out, at whatever alignment.
pub record IsHandedOut {A : Type 0} (regions : A → List Grant) (word : A → ℕ → ℕ) (follows : A → List Event → A → Type 0) (old : Dlmalloc A) (size align address : ℕ) (new : Dlmalloc A) : Type 0 where
  pub found : IsFound follows regions old.system (state_of word old) (padded (asked size align)) new.system (state_of word new)
  pub granularity : new.granularity ≡ old.granularity
  pub small : asked size align < limit old.granularity
  pub low : 16 ≤ address
  pub block : IsBlock (state_of word new) address size
  pub multiple : address % align ≡ 0
  pub aligned : address % 16 ≡ 0
  pub granted : (k : ℕ) → address ≤ k → k < address + max size 1 → IsTrue (is_granted (regions new.system) k)
  pub more : HasOneMore (state_of word old) (state_of word new) (address - 16)
  pub kept : KeepsBlocks (extents_in (state_of word old)) (word old.system) (word new.system)
  pub sound : IsSound regions word new
