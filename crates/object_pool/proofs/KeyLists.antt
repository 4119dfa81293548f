-- The keys of a pool's objects, by its slots and by its lists.
use Rattle.std.proofs.Common.{◌≡◌, ℕ, zero, suc, ◌+◌, Bool, true, false, if◌then◌else◌, List, [], ◌∷◌, ◌++◌, length, map, filter, is_some, refl, sym, ap, ◌∙◌, subst, arith, Some, None}
use Rattle.std.proofs.lemmas.List.Elements.{filter-append}
use Rattle.object_pool.specs.declared.key.Key.{Key}
use Rattle.object_pool.specs.declared.slots.Slot.{Slot}
use Rattle.object_pool.specs.Lists.{Entry, Lists, entries_at, keys_at, keys_of}
use Rattle.object_pool.specs.Slots.{slot_at, keys_from}
use Rattle.object_pool.specs.Pool.{past_entries, present, Holds}
use Rattle.object_pool.proofs.Entries.{history, entry_at}

abbrev pub objects : List Entry → List Entry
objects entries = filter (λ (entry : Entry). is_some entry.bytes) entries

-- what was removed is no object
pub none_past : (index generation : ℕ) → objects (past_entries index generation) ≡ []
none_past index zero = refl
none_past index (suc generation) =
    filter-append (λ (entry : Entry). is_some entry.bytes) (past_entries index generation)
    (entry_at index generation None ∷ [])
    ∙ ap (λ (list : List Entry). list ++ []) (none_past index generation)

-- the keys of the objects of a slot
abbrev keys_here : ℕ → Slot → List Key
keys_here index slot = if slot.used then (record { index = index; generation = slot.generation }) ∷ [] else []

keys_in : (index : ℕ) (slot : Slot) (bytes : List ℕ) → map (λ (entry : Entry). entry.key) (objects (history index slot bytes)) ≡ keys_here index slot
keys_in index slot bytes =
    ap (map (λ (entry : Entry). entry.key)) (filter-append (λ (entry : Entry). is_some entry.bytes)
    (past_entries index slot.generation) (present index slot bytes) ∙ ap (λ (list : List Entry).
    list ++ objects (present index slot bytes)) (none_past index slot.generation))
    ∙ go slot.used
  where
    go : (b : Bool) → map (λ (entry : Entry). entry.key) (objects (if b then entry_at index slot.generation
        (Some bytes) ∷ [] else [])) ≡ (if b then (record { index = index; generation = slot.generation }) ∷ [] else [])
    go true = refl
    go false = refl

keys_split : (index : ℕ) (slot : Slot) (slots : List Slot) → keys_from index (slot ∷ slots) ≡ keys_here index slot ++ keys_from (index + 1) slots
keys_split index slot slots = go slot.used
  where
    go : (b : Bool) → (if b then (record { index = index; generation = slot.generation }) ∷ keys_from (index + 1) slots
        else keys_from (index + 1) slots) ≡ (if b then (record { index = index; generation = slot.generation }) ∷ []
        else []) ++ keys_from (index + 1) slots
    go true = refl
    go false = refl

-- slots that hold the entries of the indexes from one on
keys_alike : (index : ℕ) (slots : List Slot) (bytes : ℕ → List ℕ) (entries : List Entry) →
    ((k : ℕ) → entries_at (index + k) entries ≡ history (index + k) (slot_at slots k) (bytes (index + k))) →
    keys_at index (length slots) entries ≡ keys_from index slots
keys_alike index [] bytes entries hold = refl
keys_alike index (slot ∷ slots) bytes entries hold =
    let here : entries_at index entries ≡ history index slot (bytes index) =
    subst (λ i. entries_at i entries ≡ history i slot (bytes i)) (omega arith) (hold 0) in
    let rest : keys_at (index + 1) (length slots) entries ≡ keys_from (index + 1) slots =
    keys_alike (index + 1) slots bytes entries (λ k. subst (λ i. entries_at i entries ≡ history i (slot_at slots k) (bytes i)) (omega arith) (hold (suc k))) in
    ap (λ (list : List Entry). map (λ (entry : Entry). entry.key) (objects list) ++ keys_at (index + 1) (length slots) entries) here
    ∙ (ap (λ (list : List Key). list ++ keys_at (index + 1) (length slots) entries) (keys_in index slot (bytes index))
    ∙ (ap (λ (list : List Key). keys_here index slot ++ list) rest ∙ sym (keys_split index slot slots)))

-- so the keys of the slots are those of the objects
pub keys_are : (slots : List Slot) (freed : List ℕ) (bytes : ℕ → List ℕ) (lists : Lists) → Holds slots freed bytes lists →
    keys_from 0 slots ≡ keys_of lists.entries
keys_are slots freed bytes lists holds =
    sym (keys_alike 0 slots bytes lists.entries (λ k. (let at : k ≡ 0 + k = omega arith in
    subst (λ i. entries_at i lists.entries ≡ history i (slot_at slots k) (bytes i)) at (holds.entries k))))
    ∙ sym (ap (λ n. keys_at 0 n lists.entries) holds.indexes)
