-- A block that is resized, where it stands or elsewhere (dlmalloc: `realloc`).
use Rattle.std.specs.Prelude.{◌≡◌, ◌≢◌, ℕ, ◌+◌, ◌-◌, ◌%◌, ◌<◌, ◌≤◌, ◌⊎◌, ◌==◌, min, max, Bool, not, List, [], filter, None, Some, IsTrue}
use Rattle.heap_memory.specs.declared.grant.Grant.{Grant}
use Rattle.heap_memory.specs.Events.{Event}
use Rattle.heap_memory.specs.Words.{AreCopied}
use Rattle.heap_memory.specs.Regions.{is_granted, with_grant}
use Rattle.dlmalloc_chunks.specs.Request.{padded, limit}
use Rattle.dlmalloc_chunks.specs.declared.extent.Extent.{Extent}
use Rattle.dlmalloc.specs.Resized.{in_place, HasSameOthers}
use Rattle.dlmalloc.specs.Aligned.{HasOneMoved}
use Rattle.dlmalloc.specs.Blocks.{IsBlock, KeepsBlocks}
use Rattle.dlmalloc.specs.State.{extents_in}
use Rattle.dlmalloc.specs.Heap.{state_of, IsSound}
use Rattle.dlmalloc.specs.Turned.{IsTurned}
use Rattle.dlmalloc.specs.AfterFree.{IsFreed}
use Rattle.dlmalloc.specs.Requested.{asked, IsFound, IsServedAt}
use Rattle.dlmalloc.specs.Written.{words_in, IsSameHeap}
use Rattle.dlmalloc.specs.Order.{KeepsIndex, KeepsOrder}
use Rattle.dlmalloc.specs.declared.heap.Dlmalloc.{Dlmalloc}

-- the extents but for those at an address
abbrev pub others_at : ℕ → List Extent → List Extent
others_at at extents = filter (λ extent. not (extent.at == at)) extents

-- A block was resized where it stands: it still has its bytes, as many as are asked for, and nothing else changed but
-- own words.
pub record IsInPlace {A : Type 0} (regions : A → List Grant) (word : A → ℕ → ℕ) (follows : A → List Event → A → Type 0) (old : Dlmalloc A) (address old_size size : ℕ) (new : Dlmalloc A) : Type 0 where
  pub small : size < limit old.granularity
  pub state : in_place (state_of word old) (address - 16) (padded size) ≡ Some (state_of word new)
  pub block : IsBlock (state_of word new) address size
  pub others : HasSameOthers (state_of word old) (state_of word new) (address - 16) (address - 16)
  pub contents : (k : ℕ) → k < min old_size size → k % 8 ≡ 0 → word new.system (address + k) ≡ word old.system (address + k)
  pub kept : KeepsBlocks (others_at (address - 16) (extents_in (state_of word old))) (word old.system) (word new.system)
  pub moved : IsTurned regions word follows old new
  pub order : KeepsOrder regions word old new

-- A block was handed out elsewhere, the first `held` bytes of the old one or the size asked for, whichever is less, were
-- copied by whole words, and the old one was freed. So it has those bytes, and every other block keeps its own.
pub record IsElsewhere {A : Type 0} (regions : A → List Grant) (word : A → ℕ → ℕ) (zeros : A → Bool) (follows : A → List Event → A → Type 0) (frees parts : Bool) (unit : ℕ) (old : Dlmalloc A) (from held align size address : ℕ) (new : Dlmalloc A) : Type 0 where
  pub middle : Dlmalloc A
  pub served : IsServedAt regions word zeros follows old size align address middle
  pub filled : Dlmalloc A
  pub copied : AreCopied (regions middle.system) (word middle.system) from address (words_in (min held size)) (word filled.system)
  pub same : IsSameHeap regions word follows middle filled
  pub index : KeepsIndex regions word middle filled
  pub freed : IsFreed regions word follows frees parts unit filled from new
  pub block : IsBlock (state_of word new) address size
  pub contents : (k : ℕ) → k < min held size → k % 8 ≡ 0 → word new.system (address + k) ≡ word old.system (from + k)
  pub kept : KeepsBlocks (others_at (from - 16) (extents_in (state_of word old))) (word old.system) (word new.system)

-- A block of which `held` bytes are held got another size at an alignment: where it stands if that can be, and never
-- there above alignment 16.
abbrev pub IsResized : {A : Type 0} → (A → List Grant) → (A → ℕ → ℕ) → (A → Bool) → (A → List Event → A → Type 0) → Bool → Bool → ℕ → Dlmalloc A → ℕ → ℕ → ℕ → ℕ → ℕ → Dlmalloc A → Type 0
IsResized regions word zeros follows frees parts unit old from held align size address new =
    ((align ≤ 16) × (address ≡ from) × IsInPlace regions word follows old from held size new)
    ⊎ ((align ≤ 16 → in_place (state_of word old) (from - 16) (padded size) ≡ None) × IsElsewhere regions word zeros follows frees parts unit old from held align size address new)

-- a byte of a grant is granted
abbrev pub HasByteOf : Grant → List Grant → Type 0
HasByteOf grant regions = (byte : ℕ) × (grant.base ≤ byte) × (byte < grant.base + grant.size) × IsTrue (is_granted regions byte)

-- What holds of each block that gets another size, wherever it is then. `from` was its place, and `held` of its bytes
-- were held. If it moved, the old one was freed after the moment at which there was room for the new one.
pub record IsGivenSize {A : Type 0} (regions : A → List Grant) (word : A → ℕ → ℕ) (follows : A → List Event → A → Type 0) (frees parts : Bool) (unit : ℕ) (old : Dlmalloc A) (from held align size address : ℕ) (new : Dlmalloc A) : Type 0 where
  pub middle : Dlmalloc A
  pub found : IsFound follows regions old.system (state_of word old) (padded (asked size align)) middle.system (state_of word middle)
  pub between : IsSound regions word middle
  -- of a region that was granted for it, some byte is still granted
  pub still : (grant : Grant) → regions middle.system ≡ with_grant grant (regions old.system) → HasByteOf grant (regions new.system)
  pub here : address ≡ from → (new ≡ middle) × follows old.system [] new.system
  pub elsewhere : address ≢ from → IsFreed regions word follows frees parts unit middle from new
  pub granularity : new.granularity ≡ old.granularity
  pub small : asked size align < limit old.granularity
  pub low : 16 ≤ address
  pub block : IsBlock (state_of word new) address size
  pub multiple : from % align ≡ 0 → address % align ≡ 0
  pub aligned : address % 16 ≡ 0
  pub granted : (k : ℕ) → address ≤ k → k < address + max size 1 → IsTrue (is_granted (regions new.system) k)
  pub moved : HasOneMoved (state_of word old) (state_of word new) (from - 16) (address - 16)
  pub kept : KeepsBlocks (others_at (from - 16) (extents_in (state_of word old))) (word old.system) (word new.system)
  pub contents : (k : ℕ) → k < min held size → k % 8 ≡ 0 → word new.system (address + k) ≡ word old.system (from + k)
  pub sound : IsSound regions word new
