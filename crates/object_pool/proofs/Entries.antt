-- The lists of a pool: what inserts, changes and removals do to the entries of each index.
use Rattle.std.proofs.Common.{◌≡◌, ◌≢◌, ℕ, zero, suc, ◌+◌, ◌<◌, ◌≤◌, inl, inr, max, Bool, true, false, ◌&&◌, ◌==◌, if◌then◌else◌, is_some, List, [], ◌∷◌, ◌++◌, length, length-append, filter, refl, ap, ◌∙◌, arith, Option, Some, None}
use Rattle.std.proofs.lemmas.Bool.Decides.{nat_tests}
use Rattle.std.proofs.lemmas.List.{append_assoc, map-append}
use Rattle.std.proofs.lemmas.List.Elements.{filter-append}
use Rattle.object_pool.specs.declared.key.Key.{Key}
use Rattle.object_pool.specs.declared.slots.Slot.{Slot}
use Rattle.object_pool.specs.Lists.{Entry, is_of, object_of, entries_at, index_count, with_entry_bytes, object_count}
use Rattle.object_pool.specs.Pool.{past_entries, present}
use Rattle.object_pool.proofs.Numbers.{lt_or_le, same_or_other}

abbrev pub key_at : ℕ → ℕ → Key
key_at index generation = record { index = index; generation = generation }

abbrev pub entry_at : ℕ → ℕ → Option (List ℕ) → Entry
entry_at index generation bytes = record { key = key_at index generation; bytes = bytes }

-- ---- the entries of an index

pub at_append : (index : ℕ) (entries : List Entry) (entry : Entry) → entries_at index (entries ++ entry ∷ []) ≡ entries_at
    index entries ++ (if entry.key.index == index then entry ∷ [] else [])
at_append index entries entry = filter-append (λ (one : Entry). one.key.index == index) entries (entry ∷ [])

-- what looks at the entries of a key looks at those of its index
pub object_at : (key : Key) (entries : List Entry) → object_of key entries ≡ object_of key (entries_at key.index entries)
object_at key [] = refl
object_at key (entry ∷ entries) = go (entry.key.index == key.index) refl (object_at key entries)
  where
    go : (b : Bool) → (entry.key.index == key.index) ≡ b → object_of key entries ≡ object_of key (entries_at key.index entries) →
        (if b && entry.key.generation == key.generation then entry.bytes else object_of key entries) ≡ object_of key
        (if b then entry ∷ entries_at key.index entries else entries_at key.index entries)
    go true test rest = inner (entry.key.generation == key.generation) refl
      where
        inner : (d : Bool) → (entry.key.generation == key.generation) ≡ d →
            (if d then entry.bytes else object_of key entries) ≡ object_of key (entry ∷ entries_at key.index entries)
        inner true is = rw (test, is) refl
        inner false is = rw (test, is) rest
    go false test rest = rest

pub of_at : (key : Key) (entries : List Entry) → filter (is_of key) entries ≡ filter (is_of key) (entries_at key.index entries)
of_at key [] = refl
of_at key (entry ∷ entries) = go (entry.key.index == key.index) refl (of_at key entries)
  where
    go : (b : Bool) → (entry.key.index == key.index) ≡ b → filter (is_of key) entries ≡ filter (is_of key) (entries_at key.index entries) →
        (if b && entry.key.generation == key.generation then entry ∷ filter (is_of key) entries else filter (is_of key)
        entries) ≡ filter (is_of key) (if b then entry ∷ entries_at key.index entries else entries_at key.index entries)
    go true test rest = inner (entry.key.generation == key.generation) refl
      where
        inner : (d : Bool) → (entry.key.generation == key.generation) ≡ d →
            (if d then entry ∷ filter (is_of key) entries else filter (is_of key) entries) ≡ filter (is_of key)
            (entry ∷ entries_at key.index entries)
        inner true is = rw (test, is) (ap (λ (list : List Entry). entry ∷ list) rest)
        inner false is = rw (test, is) rest
    go false test rest = rest

-- ---- an entry gets other bytes

abbrev change : Key → Option (List ℕ) → Entry → Entry
change key bytes entry = if is_of key entry then record entry { bytes = bytes } else entry

key_stays : (key : Key) (bytes : Option (List ℕ)) (entry : Entry) → (change key bytes entry).key ≡ entry.key
key_stays key bytes entry = go (is_of key entry)
  where
    go : (b : Bool) → (if b then record entry { bytes = bytes } else entry).key ≡ entry.key
    go true = refl
    go false = refl

pub at_with : (index : ℕ) (key : Key) (bytes : Option (List ℕ)) (entries : List Entry) →
    entries_at index (with_entry_bytes key bytes entries) ≡ with_entry_bytes key bytes (entries_at index entries)
at_with index key bytes [] = refl
at_with index key bytes (entry ∷ entries) =
    ap (λ (k : Key). if k.index == index then change key bytes entry ∷ entries_at index (with_entry_bytes key bytes entries)
    else entries_at index (with_entry_bytes key bytes entries)) (key_stays key bytes entry)
    ∙ go (entry.key.index == index) (at_with index key bytes entries)
  where
    go : (b : Bool) → entries_at index (with_entry_bytes key bytes entries) ≡ with_entry_bytes key bytes
        (entries_at index entries) →
        (if b then change key bytes entry ∷ entries_at index (with_entry_bytes key bytes entries) else entries_at index
        (with_entry_bytes key bytes entries)) ≡ with_entry_bytes key bytes (if b then entry ∷ entries_at index entries
        else entries_at index entries)
    go true rest = ap (λ (list : List Entry). change key bytes entry ∷ list) rest
    go false rest = rest

-- the entries of another index stay
pub other_with : (index : ℕ) (key : Key) (bytes : Option (List ℕ)) (entries : List Entry) → index ≢ key.index →
    with_entry_bytes key bytes (entries_at index entries) ≡ entries_at index entries
other_with index key bytes [] differ = refl
other_with index key bytes (entry ∷ entries) differ = go (entry.key.index == index) refl (other_with index key bytes entries differ)
  where
    go : (b : Bool) → (entry.key.index == index) ≡ b → with_entry_bytes key bytes (entries_at index entries) ≡ entries_at index entries →
        with_entry_bytes key bytes (if b then entry ∷ entries_at index entries else entries_at index entries) ≡ (if b
        then entry ∷ entries_at index entries else entries_at index entries)
    go true test rest =
        let no : (entry.key.index == key.index) ≡ false = grind (arith, nat_tests) in
        rw no (ap (λ (list : List Entry). entry ∷ list) rest)
    go false test rest = rest

pub length_with : (key : Key) (bytes : Option (List ℕ)) (entries : List Entry) → length (with_entry_bytes key bytes entries) ≡ length entries
length_with key bytes [] = refl
length_with key bytes (entry ∷ entries) = ap suc (length_with key bytes entries)

pub indexes_with : (key : Key) (bytes : Option (List ℕ)) (entries : List Entry) → index_count (with_entry_bytes key bytes entries) ≡ index_count entries
indexes_with key bytes [] = refl
indexes_with key bytes (entry ∷ entries) =
    ap (λ (k : Key). max (k.index + 1) (index_count (with_entry_bytes key bytes entries))) (key_stays key bytes entry)
    ∙ ap (max (entry.key.index + 1)) (indexes_with key bytes entries)

pub indexes_append : (entries : List Entry) (entry : Entry) → index_count (entries ++ entry ∷ []) ≡ max (index_count entries) (entry.key.index + 1)
indexes_append [] entry = omega arith
indexes_append (first ∷ entries) entry = let rest = indexes_append entries entry in omega (arith, rest)

-- ---- how many objects there are

abbrev one : Bool → ℕ
one b = if b then 1 else 0

counted : (entry : Entry) (entries : List Entry) → object_count (entry ∷ entries) ≡ one (is_some entry.bytes) + object_count entries
counted entry entries = go (is_some entry.bytes)
  where
    go : (b : Bool) → length (if b then entry ∷ filter (λ (e : Entry). is_some e.bytes) entries else filter
        (λ (e : Entry). is_some e.bytes) entries) ≡ one b + object_count entries
    go true = omega arith
    go false = omega arith

pub count_append : (entries : List Entry) (entry : Entry) → object_count (entries ++ entry ∷ []) ≡ object_count entries + one (is_some entry.bytes)
count_append [] entry = counted entry [] ∙ omega arith
count_append (first ∷ entries) entry =
    let rest = count_append entries entry in
    let more = counted first (entries ++ entry ∷ []) in
    let fewer = counted first entries in
    omega (arith, rest, more, fewer)

-- of those of a key, each has the new bytes
pub count_with : (key : Key) (bytes : Option (List ℕ)) (entries : List Entry) →
    object_count (with_entry_bytes key bytes entries) + object_count (filter (is_of key) entries) ≡ object_count
    entries + (if is_some bytes then length (filter (is_of key) entries) else 0)
count_with key bytes [] = go (is_some bytes)
  where
    go : (b : Bool) → 0 + 0 ≡ 0 + (if b then 0 else 0)
    go true = refl
    go false = refl
count_with key bytes (entry ∷ entries) = go (is_of key entry) (is_some bytes) refl (count_with key bytes entries)
  where
    go : (b s : Bool) → is_some bytes ≡ s →
        object_count (with_entry_bytes key bytes entries) + object_count (filter (is_of key) entries) ≡ object_count
        entries + (if is_some bytes then length (filter (is_of key) entries) else 0) →
        object_count ((if b then record entry { bytes = bytes } else entry) ∷ with_entry_bytes key bytes
        entries) + object_count
        (if b then entry ∷ filter (is_of key) entries else filter (is_of key) entries)
        ≡ object_count (entry ∷ entries) + (if is_some bytes then length (if b then entry ∷ filter (is_of key) entries else filter (is_of key) entries) else 0)
    go true true is rest =
        let new : object_count (record entry { bytes = bytes } ∷ with_entry_bytes key bytes entries) ≡ 1 + object_count
        (with_entry_bytes key bytes entries) = counted (record entry { bytes = bytes }) (with_entry_bytes key bytes entries)
        ∙ ap (λ b. one b + object_count (with_entry_bytes key bytes entries)) is in
        let old = counted entry entries in
        let kept = counted entry (filter (is_of key) entries) in
        let rest' : object_count (with_entry_bytes key bytes entries) + object_count
        (filter (is_of key) entries) ≡ object_count
        entries + length (filter (is_of key) entries) = rest ∙ ap (λ b.
        object_count entries + (if b then length (filter (is_of key) entries) else 0)) is in
        rw is (omega (arith, new, old, kept, rest'))
    go true false is rest =
        let new : object_count (record entry { bytes = bytes } ∷ with_entry_bytes key bytes entries) ≡ 0 + object_count
        (with_entry_bytes key bytes entries) = counted (record entry { bytes = bytes }) (with_entry_bytes key bytes entries)
        ∙ ap (λ b. one b + object_count (with_entry_bytes key bytes entries)) is in
        let old = counted entry entries in
        let kept = counted entry (filter (is_of key) entries) in
        let rest' : object_count (with_entry_bytes key bytes entries) + object_count
        (filter (is_of key) entries) ≡ object_count
        entries + 0 = rest ∙ ap (λ b. object_count entries + (if b then length (filter (is_of key) entries) else 0)) is
        in
        rw is (omega (arith, new, old, kept, rest'))
    go false s is rest =
        let new = counted entry (with_entry_bytes key bytes entries) in
        let old = counted entry entries in
        omega (arith, new, old, rest)

-- ---- a slot's history

pub length_past : (index generation : ℕ) → length (past_entries index generation) ≡ generation
length_past index zero = refl
length_past index (suc generation) = length-append (past_entries index generation) (entry_at index generation None ∷ [])
    ∙ (let rest = length_past index generation in omega (arith, rest))

-- no entry of the past has a later key, and none an object
pub of_past : (index generation n : ℕ) → n ≤ generation → filter (is_of (key_at index generation)) (past_entries index n) ≡ []
of_past index generation zero few = refl
of_past index generation (suc n) few =
    let no : (index == index && n == generation) ≡ false = grind (arith, nat_tests) in
    filter-append (is_of (key_at index generation)) (past_entries index n) (entry_at index n None ∷ [])
    ∙ (ap (λ (list : List Entry). list ++ filter (is_of (key_at index generation)) (entry_at index n None ∷ []))
    (of_past index generation n (omega (arith, few)))
    ∙ ap (λ b. if b then entry_at index n None ∷ [] else []) no)

pub with_past : (index generation n : ℕ) (bytes : Option (List ℕ)) → n ≤ generation →
    with_entry_bytes (key_at index generation) bytes (past_entries index n) ≡ past_entries index n
with_past index generation zero bytes few = refl
with_past index generation (suc n) bytes few =
    let no : (index == index && n == generation) ≡ false = grind (arith, nat_tests) in
    map-append (change (key_at index generation) bytes) (past_entries index n) (entry_at index n None ∷ [])
    ∙ (ap (λ (list : List Entry). list ++ change (key_at index generation) bytes (entry_at index n None) ∷ [])
    (with_past index generation n bytes (omega (arith, few)))
    ∙ ap (λ b. past_entries index n ++ (if b then entry_at index n bytes else entry_at index n None) ∷ []) no)

-- a later key has no entry there
object_later : (index generation n : ℕ) (rest : List Entry) → n ≤ generation →
    object_of (key_at index generation) (past_entries index n ++ rest) ≡ object_of (key_at index generation) rest
object_later index generation zero rest few = refl
object_later index generation (suc n) rest few =
    let no : (index == index && n == generation) ≡ false = grind (arith, nat_tests) in
    ap (object_of (key_at index generation)) (append_assoc (past_entries index n) (entry_at index n None ∷ []) rest)
    ∙ (object_later index generation n (entry_at index n None ∷ rest) (omega (arith, few))
    ∙ ap (λ b. if b then None else object_of (key_at index generation) rest) no)

-- an earlier key has no object
object_earlier : (index generation n : ℕ) (rest : List Entry) → generation < n → object_of (key_at index generation) (past_entries index n ++ rest) ≡ None
object_earlier index generation zero rest less = absurd (omega (arith, less))
object_earlier index generation (suc n) rest less = elim (same_or_other generation n) [
  | inl same ↦ (
      let yes : (index == index && n == generation) ≡ true = grind (arith, nat_tests) in
      ap (object_of (key_at index generation)) (append_assoc (past_entries index n) (entry_at index n None ∷ []) rest)
      ∙ (object_later index generation n (entry_at index n None ∷ rest) (omega (arith, same))
      ∙ ap (λ b. if b then None else object_of (key_at index generation) rest) yes))
  | inr other ↦ (
      ap (object_of (key_at index generation)) (append_assoc (past_entries index n) (entry_at index n None ∷ []) rest)
      ∙ object_earlier index generation n (entry_at index n None ∷ rest) (omega (arith, less, other)))
]

-- the entries of a slot
abbrev pub history : ℕ → Slot → List ℕ → List Entry
history index slot bytes = past_entries index slot.generation ++ present index slot bytes

-- the object in a slot is that of its key
pub object_in : (index generation : ℕ) (bytes : List ℕ) → object_of (key_at index generation)
    (history index (record { generation = generation; used = true }) bytes) ≡ Some bytes
object_in index generation bytes =
    let yes : (index == index && generation == generation) ≡ true = grind (arith, nat_tests) in
    object_later index generation generation (entry_at index generation (Some bytes) ∷ []) (omega arith)
    ∙ ap (λ b. if b then Some bytes else None) yes

-- and of no other
pub object_out : (index generation : ℕ) (slot : Slot) (bytes : List ℕ) →
    slot ≢ record { generation = generation; used = true } → object_of (key_at index generation)
    (history index slot bytes) ≡ None
object_out index generation slot bytes other = elim (lt_or_le generation slot.generation) [
  | inl earlier ↦ object_earlier index generation slot.generation (present index slot bytes) earlier
  | inr later ↦ object_later index generation slot.generation (present index slot bytes) later ∙ go slot.used refl
]
  where
    go : (b : Bool) → slot.used ≡ b → object_of (key_at index generation) (if b then entry_at index slot.generation (Some bytes) ∷ [] else []) ≡ None
    go false is = refl
    go true is = elim (same_or_other slot.generation generation) [
      | inl same ↦ absurd (other (λ j. record { generation = same j; used = is j }))
      | inr differ ↦ (let no : (index == index && slot.generation == generation) ≡ false = grind (arith, nat_tests) in
          ap (λ b. if b then Some bytes else None) no)
    ]

-- a key has one entry where its object is
pub filter_in : (index generation : ℕ) (bytes : List ℕ) → filter (is_of (key_at index generation))
    (history index (record { generation = generation; used = true }) bytes) ≡ entry_at index generation (Some bytes) ∷ []
filter_in index generation bytes =
    let yes : (index == index && generation == generation) ≡ true = grind (arith, nat_tests) in
    filter-append (is_of (key_at index generation)) (past_entries index generation)
    (entry_at index generation (Some bytes) ∷ [])
    ∙ (ap (λ (list : List Entry). list ++ filter (is_of (key_at index generation))
    (entry_at index generation (Some bytes) ∷ [])) (of_past index generation generation (omega arith))
    ∙ ap (λ b. if b then entry_at index generation (Some bytes) ∷ [] else []) yes)

-- it gets other bytes
pub with_in : (index generation : ℕ) (bytes : List ℕ) (new : Option (List ℕ)) →
    with_entry_bytes (key_at index generation) new (history index (record { generation = generation; used = true })
    bytes) ≡ past_entries
    index generation ++ entry_at index generation new ∷ []
with_in index generation bytes new =
    let yes : (index == index && generation == generation) ≡ true = grind (arith, nat_tests) in
    map-append (change (key_at index generation) new) (past_entries index generation)
    (entry_at index generation (Some bytes) ∷ [])
    ∙ (ap (λ (list : List Entry). list ++ change (key_at index generation) new
    (entry_at index generation (Some bytes)) ∷ []) (with_past index generation generation new (omega arith))
    ∙ ap (λ b. past_entries index generation ++ (if b then entry_at index generation new else entry_at index generation (Some bytes)) ∷ []) yes)
