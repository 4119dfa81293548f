-- What a pool keeps, and when it stands for lists.
use Rattle.std.specs.Prelude.{◌≡◌, ◌≢◌, ℕ, zero, suc, ◌+◌, ◌-◌, ◌*◌, ◌/◌, ◌%◌, ◌^◌, ◌<◌, ◌≤◌, ◌⊎◌, if◌then◌else◌, List, [], ◌∷◌, ◌++◌, length, slice_index, Some, None}
use Rattle.heap_memory.specs.declared.grant.Grant.{Grant}
use Rattle.heap_memory.specs.declared.grant.GrantFault.{GrantFault}
use Rattle.heap_memory.specs.Events.{Event}
use Rattle.dlmalloc_chunks.specs.Request.{padded}
use Rattle.dlmalloc.specs.declared.heap.Dlmalloc.{Dlmalloc}
use Rattle.dlmalloc.specs.Heap.{state_of}
use Rattle.dlmalloc.specs.Blocks.{IsBlock}
use Rattle.dlmalloc.specs.Grown.{IsAsItWas}
use Rattle.dlmalloc.specs.declared.malloc_error.MallocError.TheVariants.{System}
use Rattle.dlmalloc.specs.Order.{KeepsOrder}
use Rattle.dlmalloc.specs.Requested.{IsMemberServed}
use Rattle.dlmalloc.specs.Served.{IsDenied, IsObtained, refused_events}
use Rattle.sound_heap.specs.Heap.{StaysInState}
use Rattle.object_pool.specs.declared.pool_fault.PoolFault.{PoolFault}
use Rattle.object_pool.specs.declared.pool_fault.PoolFault.TheVariants.{Full, Heap, OutOfMemory}
use Rattle.object_pool.specs.declared.slots.Slot.{Slot}
use Rattle.object_pool.specs.Bytes.{byte_in, bytes_at}
use Rattle.object_pool.specs.Lists.{Entry, Lists, entries_at, index_count, object_count, slab_count, AreFreeAgain, LacksSlot, HasAllSlots}
use Rattle.object_pool.specs.Pooled.{Pooled}
use Rattle.object_pool.specs.Slots.{slot_at, used_count}

-- ---- where objects lie

-- the place of a slot: 64 slots stand in a slab, one after the other
abbrev pub slot_address : List ℕ → ℕ → ℕ → ℕ
slot_address slabs size index = slice_index slabs (index / 64) + size * (index % 64)

-- the bytes at the place of a slot
abbrev pub object_bytes_at : {A : Type 0} → (A → ℕ → ℕ) → Dlmalloc A → List ℕ → ℕ → ℕ → List ℕ
object_bytes_at word heap slabs size index = bytes_at (word heap.system) (slot_address slabs size index) size

-- no slab begins at an address
abbrev pub IsNoSlab : List ℕ → ℕ → Type 0
IsNoSlab slabs address = (i : ℕ) → i < length slabs → slice_index slabs i ≢ address

-- Each slab is a block of the heap, which has room for 64 objects; no two slabs are one block.
pub record AreSlabsLaidOut {A : Type 0} (regions : A → List Grant) (word : A → ℕ → ℕ) (heap : Dlmalloc A) (size : ℕ) (slabs : List ℕ) : Type 0 where
  pub some : 0 < size
  pub small : size ≤ 4096
  pub blocks : (i : ℕ) → i < length slabs → IsBlock (state_of word heap) (slice_index slabs i) (64 * size)
  pub distinct : (i j : ℕ) → i < length slabs → j < length slabs → i ≢ j → slice_index slabs i ≢ slice_index slabs j

-- The slabs are laid out, and a slot stands in one of them.
pub record IsSlotThere {A : Type 0} (regions : A → List Grant) (word : A → ℕ → ℕ) (heap : Dlmalloc A) (size : ℕ) (slabs : List ℕ) (index : ℕ) : Type 0 where
  pub laid : AreSlabsLaidOut regions word heap size slabs
  pub there : index < 64 * length slabs

-- the objects of two slots have no byte in common
abbrev pub PlacesAreApart : List ℕ → ℕ → Type 0
PlacesAreApart slabs size = (i j : ℕ) → i < 64 * length slabs → j < 64 * length slabs → i ≢ j →
    (slot_address slabs size i + size ≤ slot_address slabs size j) ⊎ (slot_address slabs size j + size ≤ slot_address slabs size i)

-- ---- what stays of a heap

-- a block of a heap is one of another, with the bytes that it had
pub record IsBlockKept {A : Type 0} (word : A → ℕ → ℕ) (old : Dlmalloc A) (address size : ℕ) (new : Dlmalloc A) : Type 0 where
  pub block : IsBlock (state_of word new) address size
  pub bytes : (k : ℕ) → k < size → byte_in (word new.system) (address + k) ≡ byte_in (word old.system) (address + k)

-- so is each block
abbrev pub KeepsAll : {A : Type 0} → (A → ℕ → ℕ) → Dlmalloc A → Dlmalloc A → Type 0
KeepsAll word old new = (address size : ℕ) → IsBlock (state_of word old) address size → IsBlockKept word old address size new

-- so is each block that is no slab
abbrev pub KeepsOtherBlocks : {A : Type 0} → (A → ℕ → ℕ) → List ℕ → Dlmalloc A → Dlmalloc A → Type 0
KeepsOtherBlocks word slabs old new = (address size : ℕ) → IsBlock (state_of word old) address size → IsNoSlab slabs address → IsBlockKept word old address size new

-- The bytes of an object were put at the place of a slot. The heap stays in its state, and no byte changed of any other slot,
-- nor of a block that is no slab.
pub record IsObjectPut {A : Type 0} (regions : A → List Grant) (word : A → ℕ → ℕ) (follows : A → List Event → A → Type 0) (old : Dlmalloc A) (slabs : List ℕ) (size index : ℕ) (bytes : List ℕ) (new : Dlmalloc A) : Type 0 where
  pub stays : StaysInState regions word follows old new
  pub here : object_bytes_at word new slabs size index ≡ bytes
  pub others : (other : ℕ) → other < 64 * length slabs → other ≢ index → object_bytes_at word new slabs size other ≡ object_bytes_at word old slabs size other
  pub kept : KeepsOtherBlocks word slabs old new

-- The heap served one request, for the slab at an address: it was cut from what the heap had, or from a region of its system
-- if it had no room.
unfoldable pub HasServed : {A : Type 0} → (A → List Grant) → (A → ℕ → ℕ) → (A → List Event → A → Type 0) → Dlmalloc A → ℕ → ℕ → Dlmalloc A → Type 0
HasServed regions word follows old size address new = IsObtained follows regions old.system (state_of word old) (padded (64 * size)) (address - 16) new.system (state_of word new)

-- A slab more was taken, which was no block before. It is the one block that came: the heap served one request, for it, of chunks
-- of one size from the one whose turn it was, and left the others in order.
pub record IsSlabAdded {A : Type 0} (regions : A → List Grant) (word : A → ℕ → ℕ) (follows : A → List Event → A → Type 0) (old : Dlmalloc A) (size : ℕ) (slabs : List ℕ) (new : Dlmalloc A) (new_slabs : List ℕ) : Type 0 where
  pub address : ℕ
  pub is : new_slabs ≡ slabs ++ address ∷ []
  pub fresh : (n : ℕ) → IsBlock (state_of word old) address n → ⊥
  pub only : (at n : ℕ) → IsBlock (state_of word new) at n → IsBlock (state_of word old) at n ⊎ (at ≡ address)
  pub served : HasServed regions word follows old size address new
  pub member : IsMemberServed regions word old (64 * size) 16 address
  pub order : KeepsOrder regions word old new

-- ---- what a pool keeps

-- Its slabs are laid out, and each slot has a place in one of them; the slots of all slabs have places in the lists.
pub record IsPool {A : Type 0} (regions : A → List Grant) (word : A → ℕ → ℕ) (heap : Dlmalloc A) (size : ℕ) (slabs : List ℕ) (slots : List Slot) (places freed_places : ℕ) : Type 0 where
  pub laid : AreSlabsLaidOut regions word heap size slabs
  pub within : length slots ≤ 64 * length slabs
  pub most : 64 * length slabs ≤ 2 ^ 32 - 64
  pub room : 64 * length slabs ≤ places
  pub freed_room : 64 * length slabs ≤ freed_places

-- ---- which lists a pool stands for

-- the entries of the objects that were removed from a slot: their generations are 0 and up
abbrev pub past_entries : ℕ → ℕ → List Entry
past_entries index zero = []
past_entries index (suc generation) = past_entries index generation ++ (record { key = record { index = index; generation = generation }; bytes = None }) ∷ []

-- the entry of the object that is in a slot, if there is one
abbrev pub present : ℕ → Slot → List ℕ → List Entry
present index slot bytes = if slot.used then (record { key = record { index = index; generation = slot.generation }; bytes = Some bytes }) ∷ [] else []

-- Slots hold the entries, if an object at a slot has these bytes.
pub record Holds (slots : List Slot) (freed : List ℕ) (bytes : ℕ → List ℕ) (lists : Lists) : Type 0 where
  -- the entries of an index, in the order inserted, are those of the objects that were removed from its slot, and then that of
  -- the object in it
  pub entries : (index : ℕ) → entries_at index lists.entries ≡ past_entries index (slot_at slots index).generation ++ present index (slot_at slots index) (bytes index)
  -- the indexes are 0 and up without a gap
  pub indexes : index_count lists.entries ≡ length slots
  pub whole : (index : ℕ) → index < length slots → 0 < length (entries_at index lists.entries)
  pub freed_are : lists.freed ≡ freed
  pub objects : object_count lists.entries ≡ used_count slots

-- A pool stands for the lists: its slots hold their entries, with the bytes that stand in its heap, and those that may be used
-- again are the freed ones. There are as many slabs as the slots need.
pub record StandsForLists {A : Type 0} (word : A → ℕ → ℕ) (pool : Pooled A) (lists : Lists) : Type 0 where
  pub holds : Holds pool.slots pool.freed (object_bytes_at word pool.heap pool.slabs pool.size) lists
  pub freed : AreFreeAgain lists
  pub slabs : slab_count lists.entries ≡ length pool.slabs

-- ---- what the calls leave

-- the size of objects stays, and so does each block that is no slab, with the bytes that it had
pub record Keeps {A : Type 0} (word : A → ℕ → ℕ) (old new : Pooled A) : Type 0 where
  pub size : new.size ≡ old.size
  pub blocks : KeepsOtherBlocks word old.slabs old.heap new.heap

-- A slab was taken, if no slot was free; or the slabs are the same, and the heap stays in its state.
abbrev pub TakesSlabIfNeeded : {A : Type 0} → (A → List Grant) → (A → ℕ → ℕ) → (A → List Event → A → Type 0) → Pooled A → Lists → Pooled A → Type 0
TakesSlabIfNeeded regions word follows old lists new =
    (LacksSlot lists × IsSlabAdded regions word follows old.heap old.size old.slabs new.heap new.slabs)
    ⊎ ((new.slabs ≡ old.slabs) × StaysInState regions word follows old.heap new.heap)

-- no slot may be used again, and each place of the slabs has one
abbrev pub LacksFreeSlot : {A : Type 0} → Pooled A → Type 0
LacksFreeSlot pool = (pool.freed ≡ []) × (length pool.slots ≡ 64 * length pool.slabs)

-- The slabs of a pool are laid out, and each slot has a place in one of them.
pub record HasSlotsInSlabs {A : Type 0} (regions : A → List Grant) (word : A → ℕ → ℕ) (pool : Pooled A) : Type 0 where
  pub laid : AreSlabsLaidOut regions word pool.heap pool.size pool.slabs
  pub within : length pool.slots ≤ 64 * length pool.slabs

-- At most the heap and the slabs changed, and each block is there still, with the bytes that it had.
pub record ChangesSlabsAlone {A : Type 0} (word : A → ℕ → ℕ) (old new : Pooled A) : Type 0 where
  pub kept : KeepsAll word old.heap new.heap
  pub others : new ≡ record old { heap = new.heap; slabs = new.slabs }

-- A slot is free: if none was, a slab was taken, and else all is as it was.
pub record HasFreeSlot {A : Type 0} (regions : A → List Grant) (word : A → ℕ → ℕ) (follows : A → List Event → A → Type 0) (old new : Pooled A) : Type 0 where
  pub kept : KeepsAll word old.heap new.heap
  pub others : new ≡ record old { heap = new.heap; slabs = new.slabs }
  pub slab : (((old.freed ≡ []) × (length old.slots ≡ 64 * length old.slabs) × (length old.slots < 2 ^ 32 - 64)) × IsSlabAdded regions word follows old.heap old.size old.slabs new.heap new.slabs)
      ⊎ (((old.freed ≡ []) × (length old.slots ≡ 64 * length old.slabs) → ⊥) × (new ≡ old))

-- Why an insert is refused. Want of memory is free.
abbrev pub IsPoolRefused : {A : Type 0} → (A → ℕ → ℕ) → (A → ℕ → GrantFault → Type 0) → Pooled A → Lists → PoolFault → Type 0
IsPoolRefused word denies pool lists Full = HasAllSlots lists
IsPoolRefused word denies pool lists (Heap fault) = LacksSlot lists × (index_count lists.entries < 2 ^ 32 - 64) × IsDenied denies pool.heap.system (state_of word pool.heap) (padded (64 * pool.size)) fault
IsPoolRefused word denies pool lists OutOfMemory = LacksSlot lists × (index_count lists.entries < 2 ^ 32 - 64)

-- why a slab is refused
abbrev pub IsRefusedBy : {A : Type 0} → (A → ℕ → ℕ) → (A → ℕ → GrantFault → Type 0) → Pooled A → PoolFault → Type 0
IsRefusedBy word denies pool Full = length pool.slots ≡ 2 ^ 32 - 64
IsRefusedBy word denies pool (Heap fault) = (length pool.slots < 2 ^ 32 - 64) × IsDenied denies pool.heap.system (state_of word pool.heap) (padded (64 * pool.size)) fault
IsRefusedBy word denies pool OutOfMemory = length pool.slots < 2 ^ 32 - 64

-- A refused insert leaves all as it was. Where the heap's system denied a region, it was asked for that one alone, and what it
-- denies next may be other.
abbrev pub IsUnchanged : {A : Type 0} → (A → List Grant) → (A → ℕ → ℕ) → (A → List Event → A → Type 0) → (A → A → Type 0) → Pooled A → PoolFault → Pooled A → Type 0
IsUnchanged regions word follows refuses old Full new = new ≡ old
IsUnchanged regions word follows refuses old (Heap fault) new =
    IsAsItWas regions word follows refuses (refused_events (state_of word old.heap) (64 * old.size) (System fault)) old.heap new.heap × (new ≡ record old { heap = new.heap })
IsUnchanged regions word follows refuses old OutOfMemory new = new ≡ old

-- Why no slab was taken, and that all is as it was.
pub record IsSlabRefused {A : Type 0} (regions : A → List Grant) (word : A → ℕ → ℕ) (follows : A → List Event → A → Type 0) (refuses : A → A → Type 0) (denies : A → ℕ → GrantFault → Type 0) (old : Pooled A) (fault : PoolFault) (new : Pooled A) : Type 0 where
  pub cause : IsRefusedBy word denies old fault
  pub unchanged : IsUnchanged regions word follows refuses old fault new
