-- Slots that are used and freed, and the list of those that may be used again.
use Rattle.std.proofs.Common.{◌≡◌, ℕ, ◌+◌, ◌-◌, ◌^◌, ◌<◌, ◌≤◌, inl, inr, Bool, true, false, ◌==◌, if◌then◌else◌, cond, List, [], ◌∷◌, ◌++◌, length, length-append, slice_set, refl, sym, ap, ◌∙◌, subst, arith, count_by}
use Rattle.std.proofs.lemmas.Bool.Decides.{nat_tests}
use Rattle.std.proofs.lemmas.List.{get_or_append_left, get_or_past, get_or-set_same, get_or-set_other}
use Rattle.std.proofs.lemmas.List.Sums.{sum_by_push, sum_by-set}
use Rattle.std.proofs.Math.Seq.{get_or-append_seam}
use Rattle.object_pool.specs.declared.slots.Slot.{Slot}
use Rattle.object_pool.specs.Slots.{slot_at, is_reusable, AreFreed, AreYoung, used_count, IsChanged}
use Rattle.object_pool.proofs.Numbers.{lt_or_le, same_or_other}

-- no slot
abbrev pub none : Slot
none = record { generation = 0; used = false }

-- what a slot is that may be used again
pub free_is : (slot : Slot) → is_reusable slot ≡ true → (slot.used ≡ false) × (0 < slot.generation) × (slot.generation < 2 ^ 32 - 1)
free_is slot is = grind (arith, nat_tests)

pub past_is_none : (slots : List Slot) (index : ℕ) → length slots ≤ index → slot_at slots index ≡ none
past_is_none slots index past = get_or_past slots index none past

pub free_there : (slots : List Slot) (index : ℕ) → is_reusable (slot_at slots index) ≡ true → index < length slots
free_there slots index is = elim (lt_or_le index (length slots)) [
  | inl less ↦ less
  | inr past ↦ absurd (let gone : is_reusable none ≡ true = subst (λ slot. is_reusable slot ≡ true) (past_is_none slots index past) is in cc)
]

-- a slot that has an object is there
pub used_there : (slots : List Slot) (index : ℕ) → (slot_at slots index).used ≡ true → index < length slots
used_there slots index is = elim (lt_or_le index (length slots)) [
  | inl less ↦ less
  | inr past ↦ absurd (let gone : none.used ≡ true = subst (λ (slot : Slot). slot.used ≡ true) (past_is_none slots index past) is in cc)
]

-- ---- a slot is another

pub changed_set : (slots : List Slot) (index : ℕ) (slot : Slot) → index < length slots → IsChanged slots index slot (slice_set slots index slot)
changed_set slots index slot less other = elim (same_or_other other index) [
  | inl same ↦ (let test : (other == index) ≡ true = grind (arith, nat_tests) in
      rw test (ap (slot_at (slice_set slots index slot)) same ∙ get_or-set_same slots index slot none less))
  | inr differ ↦ (let test : (other == index) ≡ false = grind (arith, nat_tests) in
      rw test (get_or-set_other slots index other slot none differ))
]

pub changed_push : (slots : List Slot) (slot : Slot) → IsChanged slots (length slots) slot (slots ++ slot ∷ [])
changed_push slots slot other = elim (same_or_other other (length slots)) [
  | inl same ↦ (let test : (other == length slots) ≡ true = grind (arith, nat_tests) in
      rw test (ap (slot_at (slots ++ slot ∷ [])) same ∙ get_or-append_seam slots slot [] none))
  | inr differ ↦ (let test : (other == length slots) ≡ false = grind (arith, nat_tests) in
      rw test (elim (lt_or_le other (length slots)) [
        | inl less ↦ get_or_append_left slots (slot ∷ []) none other less
        | inr past ↦ past_is_none (slots ++ slot ∷ []) other (let many = length-append slots (slot ∷ []) in omega arith) ∙ sym (past_is_none slots other past)
      ]))
]

-- ---- the freed slots

-- how often an index is in a list
abbrev pub times : ℕ → List ℕ → ℕ
times index list = count_by (λ one. one == index) list

times_push : (index : ℕ) (list : List ℕ) (last : ℕ) → times index (list ++ last ∷ []) ≡ times index list + cond (last == index) 1 0
times_push index list last = sum_by_push (λ one. cond (one == index) 1 0) list last

abbrev once : Bool → ℕ
once b = if b then 1 else 0

once_small : (b : Bool) → once b ≤ 1
once_small true = omega arith
once_small false = omega arith

-- the slot freed last may be used again
pub freed_last : (slots : List Slot) (freed rest : List ℕ) (index : ℕ) → AreFreed slots freed → freed ≡ rest ++ index ∷ [] →
    is_reusable (slot_at slots index) ≡ true
freed_last slots freed rest index are is = go (is_reusable (slot_at slots index)) refl
  where
    go : (b : Bool) → is_reusable (slot_at slots index) ≡ b → is_reusable (slot_at slots index) ≡ true
    go true test = test
    go false test = absurd (
        let self : (index == index) ≡ true = grind (arith, nat_tests) in
        let count : times index freed ≡ 0 = are index ∙ ap once test in
        let more : times index freed ≡ times index rest + 1 = ap (times index) is
        ∙ (times_push index rest index ∙ ap (λ b. times index rest + cond b 1 0) self) in
        omega arith)

-- the slot freed last is used
pub freed_taken : (slots new : List Slot) (freed rest : List ℕ) (index generation : ℕ) → AreFreed slots freed → freed ≡ rest ++ index ∷ [] →
    IsChanged slots index (record { generation = generation; used = true }) new → AreFreed new rest
freed_taken slots new freed rest index generation are is changed other = elim (same_or_other other index) [
  | inl same ↦ (
      let test : (other == index) ≡ true = grind (arith, nat_tests) in
      let test' : (index == other) ≡ true = grind (arith, nat_tests) in
      let slot : slot_at new other ≡ record { generation = generation; used = true } = changed other
      ∙ ap (λ b. if b then record { generation = generation; used = true } else slot_at slots other) test in
      let count : times other freed ≡ times other rest + 1 = ap (times other) is
      ∙ (times_push other rest index ∙ ap (λ b. times other rest + cond b 1 0) test') in
      let few = once_small (is_reusable (slot_at slots other)) in
      let was = are other in
      let zero : times other rest ≡ 0 = omega arith in
      zero ∙ sym (ap (λ s. once (is_reusable s)) slot))
  | inr differ ↦ (
      let test : (other == index) ≡ false = grind (arith, nat_tests) in
      let test' : (index == other) ≡ false = grind (arith, nat_tests) in
      let slot : slot_at new other ≡ slot_at slots other = changed other
      ∙ ap (λ b. if b then record { generation = generation; used = true } else slot_at slots other) test in
      let count : times other freed ≡ times other rest + 0 = ap (times other) is
      ∙ (times_push other rest index ∙ ap (λ b. times other rest + cond b 1 0) test') in
      let same : times other rest ≡ times other freed = omega arith in
      same ∙ (are other ∙ sym (ap (λ s. once (is_reusable s)) slot)))
]

-- a slot that is not freed is another, which may not be used again
pub freed_same : (slots new : List Slot) (freed : List ℕ) (index : ℕ) (slot : Slot) → AreFreed slots freed →
    is_reusable (slot_at slots index) ≡ false → is_reusable slot ≡ false → IsChanged slots index slot new →
    AreFreed new freed
freed_same slots new freed index slot are before after changed other = elim (same_or_other other index) [
  | inl same ↦ (
      let test : (other == index) ≡ true = grind (arith, nat_tests) in
      let is : slot_at new other ≡ slot = changed other ∙ ap (λ b. if b then slot else slot_at slots other) test in
      are other ∙ (ap once (ap (λ i. is_reusable (slot_at slots i)) same ∙ before)
      ∙ sym (ap once (ap is_reusable is ∙ after))))
  | inr differ ↦ (
      let test : (other == index) ≡ false = grind (arith, nat_tests) in
      let is : slot_at new other ≡ slot_at slots other = changed other ∙ ap (λ b. if b then slot else slot_at slots other) test in
      are other ∙ sym (ap (λ s. once (is_reusable s)) is))
]

-- it is one that may be used again
pub freed_more : (slots new : List Slot) (freed : List ℕ) (index : ℕ) (slot : Slot) → AreFreed slots freed →
    is_reusable (slot_at slots index) ≡ false → is_reusable slot ≡ true → IsChanged slots index slot new →
    AreFreed new (freed ++ index ∷ [])
freed_more slots new freed index slot are before after changed other = elim (same_or_other other index) [
  | inl same ↦ (
      let test : (other == index) ≡ true = grind (arith, nat_tests) in
      let test' : (index == other) ≡ true = grind (arith, nat_tests) in
      let is : slot_at new other ≡ slot = changed other ∙ ap (λ b. if b then slot else slot_at slots other) test in
      let was : times other freed ≡ 0 = are other ∙ ap once (ap (λ i. is_reusable (slot_at slots i)) same ∙ before) in
      let count : times other (freed ++ index ∷ []) ≡ times other freed + 1 = times_push other freed index ∙ ap (λ b. times other freed + cond b 1 0) test' in
      let one : times other (freed ++ index ∷ []) ≡ 1 = omega arith in
      one ∙ sym (ap once (ap is_reusable is ∙ after)))
  | inr differ ↦ (
      let test : (other == index) ≡ false = grind (arith, nat_tests) in
      let test' : (index == other) ≡ false = grind (arith, nat_tests) in
      let is : slot_at new other ≡ slot_at slots other = changed other ∙ ap (λ b. if b then slot else slot_at slots other) test in
      let count : times other (freed ++ index ∷ []) ≡ times other freed + 0 = times_push other freed index ∙ ap (λ b. times other freed + cond b 1 0) test' in
      let same : times other (freed ++ index ∷ []) ≡ times other freed = omega arith in
      same ∙ (are other ∙ sym (ap (λ s. once (is_reusable s)) is)))
]

-- ---- generations

pub young_changed : (slots new : List Slot) (index : ℕ) (slot : Slot) → AreYoung slots →
    (slot.used ≡ true → slot.generation < 2 ^ 32 - 1) → IsChanged slots index slot new → AreYoung new
young_changed slots new index slot young fits changed other = go (other == index) refl
  where
    go : (b : Bool) → (other == index) ≡ b → (slot_at new other).used ≡ true → (slot_at new other).generation < 2 ^ 32 - 1
    go true test = let is : slot ≡ slot_at new other = sym (changed other ∙ ap (λ b. if b then slot else slot_at slots other) test) in
        subst (λ (s : Slot). s.used ≡ true → s.generation < 2 ^ 32 - 1) is fits
    go false test = let is : slot_at slots other ≡ slot_at new other = sym (changed other ∙ ap (λ b. if b then slot else slot_at slots other) test) in
        subst (λ (s : Slot). s.used ≡ true → s.generation < 2 ^ 32 - 1) is (young other)

-- ---- how many have an object

abbrev pub one_used : Slot → ℕ
one_used slot = cond slot.used 1 0

pub used_set : (slots : List Slot) (index : ℕ) (slot : Slot) → index < length slots →
    used_count (slice_set slots index slot) + one_used (slot_at slots index) ≡ used_count slots + one_used slot
used_set slots index slot less = sum_by-set one_used slots index slot none less

pub used_push : (slots : List Slot) (slot : Slot) → used_count (slots ++ slot ∷ []) ≡ used_count slots + one_used slot
used_push slots slot = sum_by_push one_used slots slot
