-- A pool that stands for lists, before and after its calls.
use Rattle.std.proofs.Common.{◌≡◌, ◌≢◌, ℕ, ◌+◌, ◌-◌, ◌*◌, ◌/◌, ◌%◌, ◌<◌, ◌≤◌, inl, inr, true, List, [], ◌∷◌, ◌++◌, length, length-append, slice_index, refl, sym, ap, ◌∙◌, subst, arith, Option, Some, None, is_some, Result, Ok, Err, OnErr, IsSome}
use Rattle.std.proofs.lemmas.List.{get_or_append_left}
use Rattle.std.proofs.Math.Seq.{get_or-append_seam}
use Rattle.heap_memory.specs.declared.grant.Grant.{Grant}
use Rattle.heap_memory.specs.declared.grant.GrantFault.{GrantFault}
use Rattle.heap_memory.specs.Events.{Event, Granted}
use Rattle.dlmalloc_chunks.specs.Request.{padded, round_up}
use Rattle.dlmalloc.specs.State.{HeapState}
use Rattle.dlmalloc.specs.Order.{IsInOrder}
use Rattle.dlmalloc.specs.Served.{IsTakenFromExtent, IsTakenFromGrant, IsObtained}
use Rattle.dlmalloc.specs.Blocks.{IsBlock}
use Rattle.dlmalloc.specs.Heap.{state_of}
use Rattle.dlmalloc.specs.declared.heap.Dlmalloc.{Dlmalloc}
use Rattle.object_pool.specs.declared.key.Key.{Key}
use Rattle.object_pool.specs.declared.slots.Slot.{Slot}
use Rattle.object_pool.specs.Lists.{Lists, empty, index_count, object_of, IsNewKey, inserted, with_new_bytes, without_object, LacksSlot, HasAllSlots}
use Rattle.object_pool.specs.Slots.{AreFreed, IsKeyLive, IsNextSlot, IsTaken, IsReleased}
use Rattle.object_pool.specs.Pooled.{Pooled}
use Rattle.object_pool.specs.Bytes.{byte_in, bytes_at}
use Rattle.sound_heap.specs.Heap.{StaysInState}
use Rattle.object_pool.specs.Pool.{slot_address, object_bytes_at, StandsForLists, AreSlabsLaidOut, IsNoSlab, KeepsOtherBlocks, Keeps, HasServed, IsSlabAdded, HasFreeSlot, IsPoolRefused, IsRefusedBy, TakesSlabIfNeeded}
use Rattle.object_pool.specs.declared.pool_fault.PoolFault.{PoolFault}
use Rattle.object_pool.specs.declared.pool_fault.PoolFault.TheVariants.{Full, Heap, OutOfMemory}
use Rattle.object_pool.proofs.ByteRuns.{bytes_same}
use Rattle.object_pool.proofs.Numbers.{lt_or_le, same_or_other}
use Rattle.object_pool.proofs.SlabPlaces.{place_ends}
use Rattle.object_pool.proofs.Histories.{holds_none, object_is, object_none, key_new, holds_inserted, holds_replaced, holds_removed}
use Rattle.object_pool.proofs.SlotLists.{used_there}
use Rattle.object_pool.proofs.FreeAgain.{free_again}

pub on_err : {A B : Type 0} (r : Result A B) (P : Type 0) → P → OnErr r P
on_err (Ok a) P p = tt
on_err (Err e) P p = p

pub is_some_by : {A : Type 0} (o : Option A) (x : A) → o ≡ Some x → IsSome o
is_some_by o x is = subst (λ one. IsSome one) (sym is) refl

pub is_none_by : {A : Type 0} (o : Option A) → o ≡ None → IsSome o → ⊥
is_none_by {A = A} o is some = absurd (let gone : is_some {T = A} None ≡ true = subst (λ (one : Option A). is_some one ≡ true) is some in cc)

-- the parts of a pool that contracts see
abbrev pub pooled : {A : Type 0} → Dlmalloc A → ℕ → List ℕ → List Slot → List ℕ → Pooled A
pooled heap size slabs slots freed = record { heap = heap; size = size; slabs = slabs; slots = slots; freed = freed }

module _ {A : Type 0} (word : A → ℕ → ℕ) where
  pub stands_none : (heap : Dlmalloc A) (size : ℕ) → StandsForLists word (pooled heap size [] [] []) empty
  stands_none heap size = record {
    holds = holds_none (object_bytes_at word heap [] size);
    freed = λ index. refl;
    slabs =
        refl;
  }

  module _ (heap : Dlmalloc A) (size : ℕ) (slabs : List ℕ) (slots : List Slot) (freed : List ℕ) (lists : Lists)
      (stands : StandsForLists word (pooled heap size slabs slots freed) lists) where
    pub stands_object : (key : Key) → IsKeyLive slots key → object_of key lists.entries ≡ Some (object_bytes_at word heap slabs size key.index)
    stands_object key is = object_is slots freed (object_bytes_at word heap slabs size) lists stands.holds key is

    pub stands_nothing : (key : Key) → (IsKeyLive slots key → ⊥) → object_of key lists.entries ≡ None
    stands_nothing key none = object_none slots freed (object_bytes_at word heap slabs size) lists stands.holds key none

    -- there are as many slabs as before where there are as many indexes
    slabs_same : (indexes : ℕ) → indexes ≡ length slots → (indexes + 63) / 64 ≡ length slabs
    slabs_same indexes is = ap (λ n. (n + 63) / 64) (is ∙ sym stands.holds.indexes) ∙ stands.slabs

    pub stands_replaced : (new : Dlmalloc A) (size' : ℕ) (slabs' : List ℕ) (key : Key) (bytes : List ℕ) → size' ≡ size →
        slabs' ≡ slabs → length slots ≤ 64 * length slabs → AreFreed slots freed → IsKeyLive slots key →
        object_bytes_at word new slabs size key.index ≡ bytes → ((other : ℕ) → other < 64 * length slabs →
        other ≢ key.index →
        object_bytes_at word new slabs size other ≡ object_bytes_at word heap slabs size other) →
        StandsForLists word (pooled new size' slabs' slots freed) (with_new_bytes key bytes lists)
    stands_replaced new size' slabs' key bytes same_size same_slabs within are is here others =
        subst (λ n. StandsForLists word (pooled new n slabs' slots freed) (with_new_bytes key bytes lists)) (sym same_size)
        (subst (λ (list : List ℕ). StandsForLists word (pooled new size list slots freed) (with_new_bytes key bytes lists)) (sym same_slabs)
        (let holds = holds_replaced slots freed (object_bytes_at word heap slabs size) lists stands.holds key is bytes
        (object_bytes_at word new slabs size) here
        (λ other differ used. others other (let there = used_there slots other used in omega (arith, there, within)) differ) in
        record {
          holds = holds;
          freed = free_again slots freed (object_bytes_at word new slabs size) (with_new_bytes key bytes lists)
              holds are;
          slabs = slabs_same (index_count (with_new_bytes key bytes lists).entries) holds.indexes;
        }))

    pub stands_removed : (key : Key) (new : List Slot) (new_freed : List ℕ) → IsKeyLive slots key →
        IsReleased slots freed key new new_freed → AreFreed new new_freed →
        StandsForLists word (pooled heap size slabs new new_freed) (without_object key lists)
    stands_removed key new new_freed is released are =
        let holds = holds_removed slots freed (object_bytes_at word heap slabs size) lists stands.holds key is new new_freed released in
        record {
          holds = holds;
          freed = free_again new new_freed (object_bytes_at word heap slabs size) (without_object key lists) holds
              are;
          slabs = slabs_same (index_count (without_object key lists).entries) (holds.indexes ∙ released.same);
        }

    -- ---- an insert

    pub stands_key : (key : Key) (new : List Slot) (new_freed : List ℕ) → IsNextSlot slots freed key.index new new_freed →
        IsTaken slots key new → IsNewKey lists key
    stands_key key new new_freed next taken = key_new slots freed (object_bytes_at word heap slabs size) lists stands.holds key new new_freed next taken

    pub stands_inserted : (new : Dlmalloc A) (size' : ℕ) (slabs' : List ℕ) (key : Key) (bytes : List ℕ)
        (new_slots : List Slot) (new_freed : List ℕ) → size' ≡ size → length slots ≤ 64 * length slabs →
        IsNextSlot slots freed key.index new_slots new_freed → IsTaken slots key new_slots → AreFreed new_slots new_freed →
        object_bytes_at word new slabs' size key.index ≡ bytes → ((other : ℕ) → other < 64 * length slabs →
        other ≢ key.index →
        object_bytes_at word new slabs' size other ≡ object_bytes_at word heap slabs size other) →
        (length new_slots + 63) / 64 ≡ length slabs' →
        StandsForLists word (pooled new size' slabs' new_slots new_freed) (inserted bytes lists)
    stands_inserted new size' slabs' key bytes new_slots new_freed same_size within next taken are here others many =
        subst (λ n. StandsForLists word (pooled new n slabs' new_slots new_freed) (inserted bytes lists)) (sym same_size)
        (let holds = holds_inserted slots freed (object_bytes_at word heap slabs size) lists stands.holds key new_slots
        new_freed
        next taken bytes (object_bytes_at word new slabs' size) here
        (λ other differ used. others other (let there = used_there slots other used in omega (arith, there, within)) differ) in
        record {
          holds = holds;
          freed = free_again new_slots new_freed (object_bytes_at word new slabs' size)
              (inserted bytes lists) holds are;
          slabs = ap (λ n. (n + 63) / 64) holds.indexes ∙ many;
        })

    -- ---- what is free

    pub slots_lacking : (freed ≡ []) × (length slots ≡ 64 * length slabs) → LacksSlot lists
    slots_lacking lacks = (stands.holds.freed_are ∙ lacks.0, stands.holds.indexes ∙ (lacks.1 ∙ ap (λ n. 64 * n) (sym stands.slabs)))

    pub lacking_slots : LacksSlot lists → (freed ≡ []) × (length slots ≡ 64 * length slabs)
    lacking_slots lacks = (sym stands.holds.freed_are ∙ lacks.0, sym stands.holds.indexes ∙ (lacks.1 ∙ ap (λ n. 64 * n) stands.slabs))

    -- why an insert is refused, by the slots and by the lists
    pub refused_lists : (denies : A → ℕ → GrantFault → Type 0) (fault : PoolFault) →
        (freed ≡ []) × (length slots ≡ 64 * length slabs) → IsRefusedBy word denies (pooled heap size slabs slots freed)
        fault →
        IsPoolRefused word denies (pooled heap size slabs slots freed) lists fault
    refused_lists denies Full lacks why = (slots_lacking lacks, stands.holds.indexes ∙ why)
    refused_lists denies (Heap fault) lacks why = (
      slots_lacking lacks,
      (let indexes = stands.holds.indexes in let few = why.0 in omega (arith, indexes, few)),
      why.1,
    )
    refused_lists denies OutOfMemory lacks why = (slots_lacking lacks, (let indexes = stands.holds.indexes in omega (arith, indexes, why)))

    -- where there is no slot at all, the fault says so
    pub full_fault : (denies : A → ℕ → GrantFault → Type 0) (fault : PoolFault) → HasAllSlots lists →
        IsRefusedBy word denies (pooled heap size slabs slots freed) fault → fault ≡ Full
    full_fault denies Full full why = refl
    full_fault denies (Heap fault) full why = absurd (let indexes = stands.holds.indexes in let all = full.1 in let few =
        why.0 in omega (arith, indexes, all, few))
    full_fault denies OutOfMemory full why = absurd (let indexes = stands.holds.indexes in let all = full.1 in omega (arith, indexes, all, why))

-- ---- bytes are written into a heap that served a request

module _ {A : Type 0} (regions : A → List Grant) (word : A → ℕ → ℕ) (follows : A → List Event → A → Type 0)
    (follows_on : (x y z : A) (a b c : List Event) → follows x a y → follows y b z → a ++ b ≡ c → follows x c z)
    (old heap new : Dlmalloc A) (stays : StaysInState regions word follows heap new) where
  cut_stays : (n at : ℕ) → IsObtained follows regions old.system (state_of word old) n at heap.system (state_of word heap) →
      IsObtained follows regions old.system (state_of word old) n at new.system (state_of word new)
  cut_stays n at (inl taken) = inl (
    subst (λ (h : HeapState). IsTakenFromExtent (state_of word old) n at h) (sym stays.state) taken.0,
    follows_on old.system heap.system new.system [] [] [] taken.1 stays.followed refl,
    stays.regions_same ∙ taken.2,
  )
  cut_stays n at (inr cut) = inr (
    cut.0,
    subst (λ (h : HeapState). IsTakenFromGrant (state_of word old) n at cut.0 h) (sym stays.state) cut.1,
    follows_on old.system heap.system new.system (Granted (round_up (n + 96) old.granularity) cut.0 ∷ []) []
        (Granted (round_up (n + 96) old.granularity) cut.0 ∷ []) cut.2 stays.followed refl,
    stays.regions_same ∙ cut.3,
    cut.4,
  )

  served_stays : (size address : ℕ) → HasServed regions word follows old size address heap → HasServed regions word follows old size address new
  unfolding HasServed
  served_stays size address served = cut_stays (padded (64 * size)) (address - 16) served

  pub added_stays : (size : ℕ) (slabs new_slabs : List ℕ) → IsSlabAdded regions word follows old size slabs heap new_slabs →
      IsSlabAdded regions word follows old size slabs new new_slabs
  added_stays size slabs new_slabs added = record {
    address = added.address;
    is = added.is;
    fresh = added.fresh;
    only = λ at n block. added.only at n (subst (λ (h : HeapState). IsBlock h at n) stays.state block);
    served = served_stays size added.address added.served;
    member = added.member;
    order = λ before.
        let first = added.order before in
        let second = stays.index first.0 in
        (second.0, λ n. subst (λ (chunks : List ℕ). IsInOrder (before.index n) chunks) (sym (second.1 n)) (first.1 n));
  }

-- ---- a slot is made free, and used

module _ {A : Type 0} (regions : A → List Grant) (word : A → ℕ → ℕ) (follows : A → List Event → A → Type 0) (old : Pooled A)
    (heap : Dlmalloc A) (size : ℕ) (slabs : List ℕ) (slots : List Slot) (freed : List ℕ)
    (laid_old : AreSlabsLaidOut regions word old.heap old.size old.slabs) (room : HasFreeSlot regions word follows old
    (pooled heap size slabs slots freed)) (within : length slots ≤ 64 * length slabs) where
  size_is : size ≡ old.size
  size_is = ap (λ p. p.size) room.others

  slots_are : slots ≡ old.slots
  slots_are = ap (λ p. p.slots) room.others

  freed_are : freed ≡ old.freed
  freed_are = ap (λ p. p.freed) room.others

  -- there is a slab with a slot that was never used, where none was freed
  pub has_place : freed ≡ [] → length slots < 64 * length slabs
  has_place none = elim room.slab [
    | inl taken ↦ (let many : length slabs ≡ length old.slabs + 1 = ap length taken.1.is
        ∙ length-append old.slabs (taken.1.address ∷ []) in let same = ap length slots_are in
        omega (arith, many, same, taken.0.1))
    | inr kept ↦ elim (same_or_other (length slots) (64 * length slabs)) [
      | inl all ↦ absurd (kept.0 (sym freed_are ∙ none, ap length (sym slots_are) ∙ (all ∙ ap (λ p. 64 * length p.slabs) kept.1)))
      | inr other ↦ omega (arith, within, other)
    ]
  ]

  -- the slabs that were there are there still
  slab_stays : (i : ℕ) → i < length old.slabs → slice_index slabs i ≡ slice_index old.slabs i
  slab_stays i less = elim room.slab [
    | inl taken ↦ ap (λ list. slice_index list i) taken.1.is ∙ get_or_append_left old.slabs (taken.1.address ∷ []) 0 i less
    | inr kept ↦ ap (λ p. slice_index p.slabs i) kept.1
  ]

  fewer : length old.slabs ≤ length slabs
  fewer = elim room.slab [
    | inl taken ↦ (let many : length slabs ≡ length old.slabs + 1 = ap length taken.1.is
        ∙ length-append old.slabs (taken.1.address ∷ []) in omega (arith, many))
    | inr kept ↦ (let same = ap (λ p. length p.slabs) kept.1 in omega (arith, same))
  ]

  -- a block that was no slab is none
  none_more : (address n : ℕ) → IsBlock (state_of word old.heap) address n → IsNoSlab old.slabs address → IsNoSlab slabs address
  none_more address n block none i less = elim (lt_or_le i (length old.slabs)) [
    | inl before ↦ (λ e. none i before (sym (slab_stays i before) ∙ e))
    | inr past ↦ elim room.slab [
      | inl taken ↦ (
          let many : length slabs ≡ length old.slabs + 1 = ap length taken.1.is ∙ length-append old.slabs (taken.1.address ∷ []) in
          let last : length old.slabs ≡ i = omega (arith, many, past, less) in
          let at : slice_index slabs i ≡ taken.1.address = ap (slice_index slabs) (sym last)
          ∙ (ap (λ list. slice_index list (length old.slabs)) taken.1.is
          ∙ get_or-append_seam old.slabs taken.1.address [] 0) in
          λ e. taken.1.fresh n (subst (λ a. IsBlock (state_of word old.heap) a n) (sym e ∙ at) block))
      | inr kept ↦ absurd (let same = ap (λ p. length p.slabs) kept.1 in omega (arith, same, past, less))
    ]
  ]

  -- the objects that were there have their bytes
  object_stays : (index : ℕ) → index < 64 * length old.slabs → object_bytes_at word heap slabs size index ≡ object_bytes_at
      word old.heap old.slabs old.size index
  object_stays index less =
      let there : index / 64 < length old.slabs = omega (arith, less) in
      let kept = room.kept (slice_index old.slabs (index / 64)) (64 * old.size) (laid_old.blocks (index / 64) there) in
      let end = place_ends regions word old.heap old.size old.slabs laid_old index in
      ap (λ n. object_bytes_at word heap slabs n index) size_is
      ∙ (ap (λ a. bytes_at (word heap.system) (a + old.size * (index % 64)) old.size) (slab_stays (index / 64) there)
      ∙ bytes_same (word old.heap.system) (word heap.system) (slot_address old.slabs old.size index) old.size (λ k below.
      (let place : slice_index old.slabs (index / 64) + (old.size * (index % 64) + k) ≡ slot_address old.slabs old.size index + k = omega arith in
      subst (λ a. byte_in (word heap.system) a ≡ byte_in (word old.heap.system) a) place
      (kept.bytes (old.size * (index % 64) + k) (omega (arith, end, below))))))

  module _ (key : Key) (new_slots : List Slot) (new_freed : List ℕ) (next : IsNextSlot slots freed key.index new_slots
      new_freed) (taken : IsTaken slots key new_slots) where
    pub key_there : key.index < 64 * length slabs
    key_there = elim next [
      | inl again ↦ omega (arith, again.1, within)
      | inr fresh ↦ (let place = has_place fresh.0 in omega (arith, place, fresh.2))
    ]

    pub slots_within : length new_slots ≤ 64 * length slabs
    slots_within = elim next [
      | inl again ↦ omega (arith, again.2, within)
      | inr fresh ↦ (let place = has_place fresh.0 in omega (arith, place, fresh.3))
    ]

    pub made_key : (lists : Lists) → StandsForLists word old lists → IsNewKey lists key
    made_key lists stands = stands_key word old.heap old.size old.slabs old.slots old.freed lists stands key new_slots new_freed
        (subst (λ list. IsNextSlot list old.freed key.index new_slots new_freed) slots_are
        (subst (λ list. IsNextSlot slots list key.index new_slots new_freed) freed_are next))
        (subst (λ list. IsTaken list key new_slots) slots_are taken)

    -- there are as many slabs as the slots need
    slabs_needed : (length old.slots + 63) / 64 ≡ length old.slabs → (length new_slots + 63) / 64 ≡ length slabs
    slabs_needed before = elim room.slab [
      | inl taken_slab ↦ (
          let many : length slabs ≡ length old.slabs + 1 = ap length taken_slab.1.is ∙ length-append old.slabs (taken_slab.1.address ∷ []) in
          let same = ap length slots_are in
          elim next [
            | inl again ↦ absurd (let none : length freed ≡ 0 = ap length (freed_are ∙ taken_slab.0.0) in
                let some : length freed ≡ length new_freed + 1 = ap length again.0
                ∙ length-append new_freed (key.index ∷ []) in omega (arith, none, some))
            | inr fresh ↦ omega (arith, many, same, fresh.3, taken_slab.0.1)
          ])
      | inr kept ↦ (
          let many = ap (λ p. length p.slabs) kept.1 in
          let same = ap length slots_are in
          elim next [
            | inl again ↦ omega (arith, many, same, before, again.2)
            | inr fresh ↦ (let place = has_place fresh.0 in omega (arith, many, same, before, place, fresh.3))
          ])
    ]

    module _ (new : Dlmalloc A) (new_size : ℕ) (new_slabs : List ℕ) (bytes : List ℕ) (same_size : new_size ≡ size) (same_slabs : new_slabs ≡ slabs) where
      pub made_stands : (lists : Lists) → StandsForLists word old lists → length old.slots ≤ 64 * length old.slabs →
          AreFreed new_slots new_freed → object_bytes_at word new slabs size key.index ≡ bytes →
          ((other : ℕ) → other < 64 * length slabs → other ≢ key.index → object_bytes_at word new slabs size
          other ≡ object_bytes_at word heap slabs size other) →
          StandsForLists word (pooled new new_size new_slabs new_slots new_freed) (inserted bytes lists)
      made_stands lists stands within_old are here others =
          subst (λ list. StandsForLists word (pooled new new_size list new_slots new_freed) (inserted bytes lists))
          (sym same_slabs)
          (stands_inserted word old.heap old.size old.slabs old.slots old.freed lists stands new new_size slabs key bytes
          new_slots new_freed (same_size ∙ size_is) within_old
          (subst (λ list. IsNextSlot list old.freed key.index new_slots new_freed) slots_are
          (subst (λ list. IsNextSlot slots list key.index new_slots new_freed) freed_are next))
          (subst (λ list. IsTaken list key new_slots) slots_are taken)
          are
          (ap (λ n. object_bytes_at word new slabs n key.index) (sym size_is) ∙ here)
          (λ other less differ. ap (λ n. object_bytes_at word new slabs n other) (sym size_is)
          ∙ (others other (let more = fewer in omega (arith, less, more)) differ ∙ object_stays other less))
          (slabs_needed (ap (λ n. (n + 63) / 64) (sym stands.holds.indexes) ∙ stands.slabs)))

      pub made_keeps : KeepsOtherBlocks word slabs heap new → Keeps word old
          (pooled new new_size new_slabs new_slots new_freed)
      made_keeps kept = record {
        size = same_size ∙ size_is;
        blocks = λ address n block none. (
            let before = room.kept address n block in
            let after = kept address n before.block (none_more address n block none) in
            record { block = after.block; bytes = λ k less. after.bytes k less ∙ before.bytes k less });
      }

      pub made_slab : (follows_on : (x y z : A) (a b c : List Event) → follows x a y → follows y b z → a ++ b ≡ c →
          follows x c z) → StaysInState regions word follows heap new → (lists : Lists) → StandsForLists word old lists →
          TakesSlabIfNeeded regions word follows old lists (pooled new new_size new_slabs new_slots new_freed)
      made_slab follows_on stays lists stands = elim room.slab [
        | inl taken_slab ↦ inl (
          slots_lacking word old.heap old.size old.slabs old.slots old.freed lists stands (taken_slab.0.0, taken_slab.0.1),
          added_stays regions word follows follows_on old.heap heap new stays old.size old.slabs new_slabs
              (subst (λ (list : List ℕ). IsSlabAdded regions word follows old.heap old.size old.slabs heap list) (sym same_slabs) taken_slab.1),
        )
        | inr kept ↦ inr (
          same_slabs ∙ ap (λ p. p.slabs) kept.1,
          subst (λ (h : Dlmalloc A). StaysInState regions word follows h new) (ap (λ p. p.heap) kept.1) stays,
        )
      ]

    -- so there was a slot
    pub never_full : (lists : Lists) → StandsForLists word old lists → HasAllSlots lists → ⊥
    never_full lists stands full = elim room.slab [
      | inl taken_slab ↦ (let indexes = stands.holds.indexes in let all = full.1 in omega (arith, indexes, all, taken_slab.0.2))
      | inr kept ↦ kept.0 (lacking_slots word old.heap old.size old.slabs old.slots old.freed lists stands full.0)
    ]
