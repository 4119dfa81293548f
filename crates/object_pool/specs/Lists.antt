-- The plain model of a pool: what was inserted, in order, and which slots are free again.
use Rattle.std.specs.Prelude.{◌≡◌, ℕ, zero, suc, ◌+◌, ◌-◌, ◌*◌, ◌/◌, ◌^◌, max, Bool, ◌&&◌, ◌==◌, nat_lt, if◌then◌else◌, List, [], ◌∷◌, ◌++◌, length, map, filter, take, slice_get, is_some, unwrap_or, Option, Some, None}
use Rattle.std.specs.List.{count_by}
use Rattle.object_pool.specs.declared.key.Key.{Key}

-- what was inserted once
pub record Entry : Type 0 where
  pub key : Key
  -- the object's bytes; None from its removal on
  pub bytes : Option (List ℕ)

-- a pool as a plain list: all objects that were ever inserted, and the slots to use again
pub record Lists : Type 0 where
  -- in the order inserted
  pub entries : List Entry
  -- the slots that are free again, the one freed last at the end
  pub freed : List ℕ

-- the lists of a new pool
abbrev pub empty : Lists
empty = record { entries = []; freed = [] }

-- whether an entry has a key
abbrev pub is_of : Key → Entry → Bool
is_of key entry = entry.key.index == key.index && entry.key.generation == key.generation

-- the bytes of the object that a key names, if there is one
abbrev pub object_of : Key → List Entry → Option (List ℕ)
object_of key [] = None
object_of key (entry ∷ entries) = if is_of key entry then entry.bytes else object_of key entries

-- the entries that an index had, in their order
abbrev pub entries_at : ℕ → List Entry → List Entry
entries_at index entries = filter (λ entry. entry.key.index == index) entries

-- How many indexes entries have. They are 0 and up without a gap, so this is the least index that no entry has.
abbrev pub index_count : List Entry → ℕ
index_count [] = 0
index_count (entry ∷ entries) = max (entry.key.index + 1) (index_count entries)

-- the entries, if that of a key has other bytes or none
abbrev pub with_entry_bytes : Key → Option (List ℕ) → List Entry → List Entry
with_entry_bytes key bytes entries = map (λ entry. if is_of key entry then record entry { bytes = bytes } else entry) entries

-- the slot of the next insert: the one freed last, else the lowest that was never used
abbrev pub next_index : Lists → ℕ
next_index lists = unwrap_or (slice_get lists.freed (length lists.freed - 1)) (index_count lists.entries)

-- the key of the next insert: its generation is the number of entries that the index had
abbrev pub next_key : Lists → Key
next_key lists = record { index = next_index lists; generation = length (entries_at (next_index lists) lists.entries) }

-- It is the key of the next insert. No entry has it, so no object ever had it.
pub record IsNewKey (lists : Lists) (key : Key) : Type 0 where
  pub next : key ≡ next_key lists
  pub never : filter (is_of key) lists.entries ≡ []

-- ---- what the calls do to the lists

-- an object comes last, with the next key, and takes the slot freed last if there is one
abbrev pub inserted : List ℕ → Lists → Lists
inserted bytes lists = record {
  entries = lists.entries ++ (record { key = next_key lists; bytes = Some bytes }) ∷ [];
  freed = take (length lists.freed - 1) lists.freed;
}

-- the object of a key has other bytes
abbrev pub with_new_bytes : Key → List ℕ → Lists → Lists
with_new_bytes key bytes lists = record lists { entries = with_entry_bytes key (Some bytes) lists.entries }

-- a slot is not used again if its index had 2 ^ 32 - 1 entries
abbrev pub without_object : Key → Lists → Lists
without_object key lists = record {
  entries = with_entry_bytes key None lists.entries;
  freed = if length (entries_at key.index lists.entries) == 2 ^ 32 - 1 then lists.freed else lists.freed ++ key.index ∷ [];
}

-- ---- what the calls answer

-- how many objects there are
abbrev pub object_count : List Entry → ℕ
object_count entries = length (filter (λ entry. is_some entry.bytes) entries)

-- the keys of the objects at this many indexes from one on, in the order of the indexes
abbrev pub keys_at : ℕ → ℕ → List Entry → List Key
keys_at index zero entries = []
keys_at index (suc count) entries = map (λ (entry : Entry). entry.key) (filter (λ (entry : Entry). is_some entry.bytes) (entries_at index entries)) ++ keys_at (index + 1) count entries

-- the keys of all objects, by index
abbrev pub keys_of : List Entry → List Key
keys_of entries = keys_at 0 (index_count entries) entries

-- how many slabs of 64 slots there are: as many as the indexes need
abbrev pub slab_count : List Entry → ℕ
slab_count entries = (index_count entries + 63) / 64

-- whether the slot of an index may be used again: there were objects in it, each was removed, and they were fewer than
-- 2 ^ 32 - 1
abbrev pub may_be_used_again : ℕ → List Entry → Bool
may_be_used_again index entries =
    object_count (entries_at index entries) == 0 && nat_lt 0 (length (entries_at index entries)) && nat_lt (length (entries_at index entries)) (2 ^ 32 - 1)

-- the slots that are free again are, each once, those that may be used again
abbrev pub AreFreeAgain : Lists → Type 0
AreFreeAgain lists = (index : ℕ) → count_by (λ one. one == index) lists.freed ≡ (if may_be_used_again index lists.entries then 1 else 0)

-- no slot is free: none was freed that may be used again, and each slot of the slabs was used
abbrev pub LacksSlot : Lists → Type 0
LacksSlot lists = (lists.freed ≡ []) × (index_count lists.entries ≡ 64 * slab_count lists.entries)

-- there are as many slots as there can be
abbrev pub HasAllSlots : Lists → Type 0
HasAllSlots lists = LacksSlot lists × (index_count lists.entries ≡ 2 ^ 32 - 64)
