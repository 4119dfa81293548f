-- The lists of a pool, computed.
use Rattle.std.proofs.Common.{◌≡◌, ℕ, zero, suc, ◌+◌, ◌-◌, ◌^◌, List, [], ◌∷◌, ◌++◌, length, Some, None, refl, arith}
use Rattle.object_pool.specs.declared.key.Key.{Key}
use Rattle.object_pool.specs.Lists.{Entry, Lists, empty, object_of, entries_at, index_count, keys_of, object_count, slab_count, next_key, inserted, without_object, with_new_bytes, LacksSlot, HasAllSlots}
use Rattle.object_pool.proofs.Entries.{key_at, entry_at}

-- ---- a slot is used again

abbrev two : Lists
two = inserted (2 ∷ []) (inserted (1 ∷ []) empty)

abbrev again : Lists
again = without_object (key_at 0 0) two

abbrev three : Lists
three = inserted (3 ∷ []) again

first_key : next_key empty ≡ key_at 0 0
first_key = refl

second_key : next_key (inserted (1 ∷ []) empty) ≡ key_at 1 0
second_key = refl

third_key : next_key again ≡ key_at 0 1
third_key = refl

gone : object_of (key_at 0 0) three.entries ≡ None
gone = refl

there : object_of (key_at 0 1) three.entries ≡ Some (3 ∷ [])
there = refl

beside : object_of (key_at 1 0) three.entries ≡ Some (2 ∷ [])
beside = refl

changed : object_of (key_at 1 0) (with_new_bytes (key_at 1 0) (9 ∷ []) three).entries ≡ Some (9 ∷ [])
changed = refl

one_slab : slab_count three.entries ≡ 1
one_slab = refl

two_objects : object_count three.entries ≡ 2
two_objects = refl

by_index : keys_of three.entries ≡ key_at 0 1 ∷ key_at 1 0 ∷ []
by_index = refl

no_more : keys_of again.entries ≡ key_at 1 0 ∷ []
no_more = refl

-- the slot freed last goes first
last_first : next_key (without_object (key_at 0 0) (without_object (key_at 1 0) two)) ≡ key_at 0 1
last_first = refl

-- ---- 128 objects fill two slabs

abbrev rows : ℕ → ℕ → List Entry
rows index zero = []
rows index (suc n) = entry_at index 0 (Some []) ∷ rows (index + 1) n

-- the lists of a pool in which so many objects were inserted
abbrev filled : ℕ → Lists
filled n = record { entries = rows 0 n; freed = [] }

one_more : inserted [] (filled 2) ≡ filled 3
one_more = refl

two_slabs : slab_count (filled 128).entries ≡ 2
two_slabs = refl

three_slabs : slab_count (filled 129).entries ≡ 3
three_slabs = refl

no_slot : LacksSlot (filled 128)
no_slot = (refl, refl)

one_slot : next_key (without_object (key_at 77 0) (filled 128)) ≡ key_at 77 1
one_slot = refl

-- ---- the end of generations

-- a slot is free again behind its object of generation 2 ^ 32 - 3, and not behind that of generation 2 ^ 32 - 2
before_last : (key : Key) (lists : Lists) → length (entries_at key.index lists.entries) ≡ 2 ^ 32 - 2 →
    (without_object key lists).freed ≡ lists.freed ++ key.index ∷ []
before_last key lists many = rw many refl

behind_last : (key : Key) (lists : Lists) → length (entries_at key.index lists.entries) ≡ 2 ^ 32 - 1 → (without_object key lists).freed ≡ lists.freed
behind_last key lists many = rw many refl

-- ---- the end of slots

-- a pool is full at 2 ^ 32 - 64 slots, where none is free, and not a slab before
full : (lists : Lists) → lists.freed ≡ [] → index_count lists.entries ≡ 2 ^ 32 - 64 → HasAllSlots lists
full lists none many = ((none, omega (arith, many)), many)

not_full : (lists : Lists) → index_count lists.entries ≡ 2 ^ 32 - 128 → HasAllSlots lists → ⊥
not_full lists many is = absurd (let all = is.1 in omega (arith, many, all))
