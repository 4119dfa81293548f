-- The lists that slots hold, before and after an insert, a change and a removal.
use Rattle.std.proofs.Common.{◌≡◌, ◌≢◌, ℕ, zero, suc, ◌+◌, ◌-◌, ◌^◌, ◌<◌, inl, inr, Bool, true, false, ◌==◌, if◌then◌else◌, List, [], ◌∷◌, ◌++◌, length, length-append, take, slice_get, unwrap_or, filter, refl, sym, ap, ◌∙◌, subst, arith, Option, Some, None}
use Rattle.std.proofs.lemmas.Bool.Decides.{nat_tests}
use Rattle.std.proofs.lemmas.List.{append-nil}
use Rattle.object_pool.specs.declared.key.Key.{Key}
use Rattle.object_pool.specs.declared.slots.Slot.{Slot}
use Rattle.object_pool.specs.Lists.{Entry, Lists, empty, is_of, object_of, entries_at, index_count, with_entry_bytes, next_index, next_key, IsNewKey, inserted, with_new_bytes, without_object, object_count}
use Rattle.object_pool.specs.Slots.{slot_at, IsChanged, IsTaken, IsNextSlot, IsReleased, IsKeyLive}
use Rattle.object_pool.specs.Pool.{past_entries, present, Holds}
use Rattle.object_pool.proofs.Entries.{entry_at, history, at_append, object_at, of_at, at_with, other_with, length_with, indexes_with, indexes_append, count_append, count_with, length_past, of_past, object_in, object_out, filter_in, with_in}
use Rattle.object_pool.proofs.Numbers.{same_or_other}

-- ---- the last of a list

last_get : (list : List ℕ) (last n : ℕ) → n ≡ length list → slice_get (list ++ last ∷ []) n ≡ Some last
last_get [] last n is = ap (slice_get (last ∷ [])) is
last_get (first ∷ list) last zero is = absurd (omega (arith, is))
last_get (first ∷ list) last (suc n) is = last_get list last n (omega (arith, is))

front_take : (list : List ℕ) (last n : ℕ) → n ≡ length list → take n (list ++ last ∷ []) ≡ list
front_take [] last n is = ap (λ k. take k (last ∷ [])) is
front_take (first ∷ list) last zero is = absurd (omega (arith, is))
front_take (first ∷ list) last (suc n) is = ap (λ (xs : List ℕ). first ∷ xs) (front_take list last n (omega (arith, is)))

pub holds_none : (bytes : ℕ → List ℕ) → Holds [] [] bytes empty
holds_none bytes = record {
  entries = λ index. refl;
  indexes = refl;
  whole = λ index less. absurd (omega (arith, less));
  freed_are = refl;
  objects = refl;
}

-- a slot that is another
changed_here : (old new : List Slot) (index other : ℕ) (slot : Slot) → IsChanged old index slot new → other ≡ index → slot_at new other ≡ slot
changed_here old new index other slot changed same =
    let test : (other == index) ≡ true = grind (arith, nat_tests) in
    changed other ∙ ap (λ b. if b then slot else slot_at old other) test

changed_other : (old new : List Slot) (index other : ℕ) (slot : Slot) → IsChanged old index slot new → other ≢ index → slot_at new other ≡ slot_at old other
changed_other old new index other slot changed differ =
    let test : (other == index) ≡ false = grind (arith, nat_tests) in
    changed other ∙ ap (λ b. if b then slot else slot_at old other) test

-- the history of a slot is that of the same slot with the same bytes, where it has an object
history_same : (index : ℕ) (slot new : Slot) (bytes new_bytes : List ℕ) → new ≡ slot →
    (slot.used ≡ true → new_bytes ≡ bytes) → history index slot bytes ≡ history index new new_bytes
history_same index slot new bytes new_bytes same alike = go slot.used refl ∙ ap (λ s. history index s new_bytes) (sym same)
  where
    go : (b : Bool) → slot.used ≡ b → past_entries index slot.generation ++ present index slot bytes ≡ past_entries index
        slot.generation ++ present index slot new_bytes
    go true is = ap (λ xs. past_entries index slot.generation ++ present index slot xs) (sym (alike is))
    go false is = ap (λ b. past_entries index slot.generation ++ (if b then entry_at index slot.generation (Some bytes) ∷ []
        else [])) is ∙ sym (ap (λ b. past_entries index slot.generation ++ (if b then entry_at index slot.generation
        (Some new_bytes) ∷ [] else [])) is)

module _ (slots : List Slot) (freed : List ℕ) (bytes : ℕ → List ℕ) (lists : Lists) (h : Holds slots freed bytes lists) where
  -- ---- which keys have an object

  pub object_is : (key : Key) → IsKeyLive slots key → object_of key lists.entries ≡ Some (bytes key.index)
  object_is key is =
      object_at key lists.entries ∙ (ap (object_of key) (h.entries key.index
      ∙ ap (λ s. history key.index s (bytes key.index)) is) ∙ object_in key.index key.generation (bytes key.index))

  pub object_none : (key : Key) → (IsKeyLive slots key → ⊥) → object_of key lists.entries ≡ None
  object_none key none =
      object_at key lists.entries ∙ (ap (object_of key) (h.entries key.index)
      ∙ object_out key.index key.generation (slot_at slots key.index) (bytes key.index) none)

  -- the key of an object has one entry
  one_entry : (key : Key) → IsKeyLive slots key → filter (is_of key) lists.entries ≡ entry_at key.index key.generation (Some (bytes key.index)) ∷ []
  one_entry key is =
      of_at key lists.entries ∙ (ap (filter (is_of key)) (h.entries key.index
      ∙ ap (λ s. history key.index s (bytes key.index)) is) ∙ filter_in key.index key.generation (bytes key.index))

  -- ---- an insert

  module _ (key : Key) (new : List Slot) (new_freed : List ℕ) (next : IsNextSlot slots freed key.index new new_freed) (taken : IsTaken slots key new) where
    index_is : next_index lists ≡ key.index
    index_is = elim next [
      | inl again ↦ (
          let many : length lists.freed ≡ length new_freed + 1 = ap length (h.freed_are ∙ again.0) ∙ length-append new_freed (key.index ∷ []) in
          let last : slice_get lists.freed (length lists.freed - 1) ≡ Some key.index =
          ap (λ (list : List ℕ). slice_get list (length lists.freed - 1)) (h.freed_are ∙ again.0)
          ∙ last_get new_freed key.index (length lists.freed - 1) (omega (arith, many)) in
          ap (λ found. unwrap_or found (index_count lists.entries)) last)
      | inr fresh ↦ (
          let none : lists.freed ≡ [] = h.freed_are ∙ fresh.0 in
          ap (λ (list : List ℕ). unwrap_or (slice_get list (length list - 1)) (index_count lists.entries)) none ∙ (h.indexes ∙ sym fresh.2))
    ]

    freed_is : take (length lists.freed - 1) lists.freed ≡ new_freed
    freed_is = elim next [
      | inl again ↦ (
          let many : length lists.freed ≡ length new_freed + 1 = ap length (h.freed_are ∙ again.0) ∙ length-append new_freed (key.index ∷ []) in
          ap (λ (list : List ℕ). take (length lists.freed - 1) list) (h.freed_are ∙ again.0)
          ∙ front_take new_freed key.index (length lists.freed - 1) (omega (arith, many)))
      | inr fresh ↦ (
          let none : lists.freed ≡ [] = h.freed_are ∙ fresh.0 in
          ap (λ (list : List ℕ). take (length list - 1) list) none ∙ sym fresh.1)
    ]

    -- the entries that the index had
    before : entries_at key.index lists.entries ≡ past_entries key.index key.generation ++ []
    before = h.entries key.index ∙ ap (λ s. history key.index s (bytes key.index)) taken.before

    generation_is : length (entries_at (next_index lists) lists.entries) ≡ key.generation
    generation_is = ap (λ i. length (entries_at i lists.entries)) index_is
        ∙ (ap length (before ∙ append-nil (past_entries key.index key.generation)) ∙ length_past key.index key.generation)

    key_is : next_key lists ≡ key
    key_is i = record { index = index_is i; generation = generation_is i }

    pub key_new : IsNewKey lists key
    key_new = record {
      next = sym key_is;
      never = of_at key lists.entries
          ∙ (ap (filter (is_of key)) (before ∙ append-nil (past_entries key.index key.generation))
          ∙ of_past key.index key.generation key.generation (omega arith));
    }

    module _ (object : List ℕ) (new_bytes : ℕ → List ℕ) (here : new_bytes key.index ≡ object)
        (others : (other : ℕ) → other ≢ key.index → (slot_at slots other).used ≡ true → new_bytes other ≡ bytes other) where
      abbrev entry : Entry
      entry = entry_at key.index key.generation (Some object)

      after : Lists
      after = record { entries = lists.entries ++ entry ∷ []; freed = take (length lists.freed - 1) lists.freed }

      holds_after : Holds new new_freed new_bytes (record { entries = lists.entries ++ entry ∷ []; freed = take (length lists.freed - 1) lists.freed })
      holds_after = record {
        entries = λ other. at_append other lists.entries entry ∙ elim (same_or_other other key.index) [
          | inl same ↦ (
              let test : (key.index == other) ≡ true = grind (arith, nat_tests) in
              ap (λ b. entries_at other lists.entries ++ (if b then entry ∷ [] else [])) test
              ∙ (ap (λ i. entries_at i lists.entries ++ entry ∷ []) same
              ∙ (ap (λ (list : List Entry). list ++ entry ∷ []) (before ∙ append-nil
              (past_entries key.index key.generation))
              ∙ (ap (λ xs. past_entries key.index key.generation ++ entry_at key.index key.generation (Some xs) ∷ [])
              (sym here)
              ∙ (ap (λ i. history i (record { generation = key.generation; used = true }) (new_bytes i)) (sym same)
              ∙ sym (ap (λ s. history other s (new_bytes other)) (changed_here slots new key.index other _ taken.after same)))))))
          | inr differ ↦ (
              let test : (key.index == other) ≡ false = grind (arith, nat_tests) in
              ap (λ b. entries_at other lists.entries ++ (if b then entry ∷ [] else [])) test
              ∙ (append-nil (entries_at other lists.entries)
              ∙ (h.entries other ∙ history_same other (slot_at slots other) (slot_at new other) (bytes other)
              (new_bytes other) (changed_other slots new key.index other _ taken.after differ) (others other differ))))
        ];
        indexes = indexes_append lists.entries entry ∙ elim next [
          | inl again ↦ (let indexes = h.indexes in omega (arith, indexes, again.1, again.2))
          | inr fresh ↦ (let indexes = h.indexes in omega (arith, indexes, fresh.2, fresh.3))
        ];
        whole = λ other less.
            let grown : length (entries_at other (lists.entries ++ entry ∷ [])) ≡ length
            (entries_at other lists.entries) + length {A = Entry} (if key.index == other then entry ∷ [] else []) =
            ap length (at_append other lists.entries entry) ∙ length-append (entries_at other lists.entries) (if key.index == other then entry ∷ [] else []) in
            elim (same_or_other other key.index) [
              | inl same ↦ (
                  let test : (key.index == other) ≡ true = grind (arith, nat_tests) in
                  let one : length {A = Entry} (if key.index == other then entry ∷ [] else []) ≡ 1 =
                  ap (λ b. length {A = Entry} (if b then entry ∷ [] else [])) test in
                  omega (arith, grown, one))
              | inr differ ↦ (
                  let fewer : other < length slots = elim next [
                    | inl again ↦ omega (arith, less, again.2)
                    | inr fresh ↦
                        omega (arith, less, differ, fresh.2, fresh.3)
                  ] in
                  let some = h.whole other fewer in
                  omega (arith, grown, some))
            ];
        freed_are = freed_is;
        objects = count_append lists.entries entry ∙ (let objects = h.objects in let used = taken.used in omega (arith, objects, used));
      }

      pub holds_inserted : Holds new new_freed new_bytes (inserted object lists)
      holds_inserted = subst (λ k. Holds new new_freed new_bytes (record {
        entries =
            lists.entries ++ (record { key = k; bytes = Some object }) ∷ [];
        freed =
            take (length lists.freed - 1) lists.freed;
      })) (sym key_is) holds_after

  -- ---- an object gets other bytes

  module _ (key : Key) (is : IsKeyLive slots key) where
    -- the entries of the index of an object's key
    there : (new : Option (List ℕ)) (other : ℕ) → other ≡ key.index → entries_at other
        (with_entry_bytes key new lists.entries) ≡ past_entries key.index key.generation ++ entry_at key.index
        key.generation new ∷ []
    there new other same =
        ap (λ i. entries_at i (with_entry_bytes key new lists.entries)) same
        ∙ (at_with key.index key new lists.entries
        ∙ (ap (with_entry_bytes key new) (h.entries key.index ∙ ap (λ s. history key.index s (bytes key.index)) is)
        ∙ with_in key.index key.generation (bytes key.index) new))

    elsewhere : (new : Option (List ℕ)) (other : ℕ) → other ≢ key.index →
        entries_at other (with_entry_bytes key new lists.entries) ≡ entries_at other lists.entries
    elsewhere new other differ = at_with other key new lists.entries ∙ other_with other key new lists.entries differ

    many_same : (new : Option (List ℕ)) (other : ℕ) → length (entries_at other
        (with_entry_bytes key new lists.entries)) ≡ length (entries_at other lists.entries)
    many_same new other = ap length (at_with other key new lists.entries) ∙ length_with key new (entries_at other lists.entries)

    pub holds_replaced : (object : List ℕ) (new_bytes : ℕ → List ℕ) → new_bytes key.index ≡ object →
        ((other : ℕ) → other ≢ key.index → (slot_at slots other).used ≡ true → new_bytes other ≡ bytes other) →
        Holds slots freed new_bytes (with_new_bytes key object lists)
    holds_replaced object new_bytes here others = record {
      entries = λ other. elim (same_or_other other key.index) [
        | inl same ↦ there (Some object) other same
            ∙ (ap (λ xs. past_entries key.index key.generation ++ entry_at key.index key.generation (Some xs) ∷ [])
            (sym here)
            ∙ (sym (ap (λ s. history key.index s (new_bytes key.index)) is) ∙ ap (λ i. history i (slot_at slots i) (new_bytes i)) (sym same)))
        | inr differ ↦ elsewhere (Some object) other differ
            ∙ (h.entries other ∙ history_same other (slot_at slots other) (slot_at slots other) (bytes other) (new_bytes other) refl (others other differ))
      ];
      indexes = indexes_with key (Some object) lists.entries ∙ h.indexes;
      whole = λ other less. (let same = many_same (Some object) other in let some = h.whole other less in omega (arith, same, some));
      freed_are = h.freed_are;
      objects = (
          let count = count_with key (Some object) lists.entries in
          let one = ap object_count (one_entry key is) in
          let len = ap length (one_entry key is) in
          let objects = h.objects in
          omega (arith, count, one, len, objects));
    }

    -- ---- a removal

    pub holds_removed : (new : List Slot) (new_freed : List ℕ) → IsReleased slots freed key new new_freed → Holds new new_freed bytes (without_object key lists)
    holds_removed new new_freed released =
        let next : suc key.generation ≡ key.generation + 1 = omega arith in
        record {
          entries = λ other. elim (same_or_other other key.index) [
            | inl same ↦ there None other same
                ∙ (sym (append-nil (past_entries key.index key.generation ++ entry_at key.index key.generation None ∷ []))
                ∙ (ap (λ i. history i (record { generation = suc key.generation; used = false }) (bytes i)) (sym same)
                ∙ (ap (λ n. history other (record { generation = n; used = false }) (bytes other)) next
                ∙ sym (ap (λ s. history other s (bytes other)) (changed_here slots new key.index other _ released.after same)))))
            | inr differ ↦ elsewhere None other differ
                ∙ (h.entries other ∙ history_same other (slot_at slots other) (slot_at new other) (bytes other)
                (bytes other) (changed_other slots new key.index other _ released.after differ) (λ used. refl))
          ];
          indexes = indexes_with key None lists.entries ∙ (h.indexes ∙ sym released.same);
          whole = λ other less. (let same = many_same None other in let some =
              h.whole other (let s = released.same in omega (arith, less, s)) in omega (arith, same, some));
          freed_are = (
              let many : length (entries_at key.index lists.entries) ≡ key.generation + 1 =
              ap length (h.entries key.index ∙ ap (λ s. history key.index s (bytes key.index)) is)
              ∙ (length-append (past_entries key.index key.generation) (entry_at key.index key.generation
              (Some (bytes key.index)) ∷ []) ∙ (let n = length_past key.index key.generation in omega (arith, n))) in
              ap (λ n. if n == 2 ^ 32 - 1 then lists.freed else lists.freed ++ key.index ∷ []) many
              ∙ (ap (λ (list : List ℕ). if key.generation + 1 == 2 ^ 32 - 1 then list else list ++ key.index ∷ []) h.freed_are ∙ sym released.freed));
          objects = (
              let count = count_with key None lists.entries in
              let one = ap object_count (one_entry key is) in
              let objects = h.objects in
              let used = released.used in
              omega (arith, count, one, objects, used));
        }
