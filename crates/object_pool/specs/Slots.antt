-- The slots of a pool, as it keeps them.
use Rattle.std.specs.Prelude.{◌≡◌, ℕ, ◌+◌, ◌-◌, ◌^◌, ◌<◌, ◌⊎◌, Bool, true, false, not, ◌&&◌, ◌==◌, nat_lt, if◌then◌else◌, List, [], ◌∷◌, ◌++◌, length, slice_index_or}
use Rattle.std.specs.List.{count_by}
use Rattle.object_pool.specs.declared.key.Key.{Key}
use Rattle.object_pool.specs.declared.slots.Slot.{Slot}

-- the slot of an index: one that was never used if there is none
abbrev pub slot_at : List Slot → ℕ → Slot
slot_at slots index = slice_index_or slots index (record { generation = 0; used = false })

-- whether a slot may be used again
abbrev pub is_reusable : Slot → Bool
is_reusable slot = not slot.used && nat_lt 0 slot.generation && nat_lt slot.generation (2 ^ 32 - 1)

-- the freed slots are, each once, those that may be used again
abbrev pub AreFreed : List Slot → List ℕ → Type 0
AreFreed slots freed = (index : ℕ) → count_by (λ one. one == index) freed ≡ (if is_reusable (slot_at slots index) then 1 else 0)

-- how many slots have an object
abbrev pub used_count : List Slot → ℕ
used_count slots = count_by (λ (slot : Slot). slot.used) slots

-- a slot with an object is before its last generation
abbrev pub AreYoung : List Slot → Type 0
AreYoung slots = (index : ℕ) → (slot_at slots index).used ≡ true → (slot_at slots index).generation < 2 ^ 32 - 1

-- one slot is another, and the others are as they were
abbrev pub IsChanged : List Slot → ℕ → Slot → List Slot → Type 0
IsChanged old index slot new = (other : ℕ) → slot_at new other ≡ (if other == index then slot else slot_at old other)

-- A slot is used for the object of a key.
pub record IsTaken (old : List Slot) (key : Key) (new : List Slot) : Type 0 where
  pub before : slot_at old key.index ≡ record { generation = key.generation; used = false }
  pub after : IsChanged old key.index (record { generation = key.generation; used = true }) new
  pub used : used_count new ≡ used_count old + 1

-- It is the one freed last; else it is a new one, which is the last.
abbrev pub IsNextSlot : List Slot → List ℕ → ℕ → List Slot → List ℕ → Type 0
IsNextSlot slots freed index slots' freed' =
    ((freed ≡ freed' ++ index ∷ []) × (index < length slots) × (length slots' ≡ length slots))
    ⊎ ((freed ≡ []) × (freed' ≡ []) × (index ≡ length slots) × (length slots' ≡ length slots + 1))

-- The slot of a key's object is free, and may be used again unless that was its last generation.
pub record IsReleased (old : List Slot) (old_freed : List ℕ) (key : Key) (new : List Slot) (new_freed : List ℕ) : Type 0 where
  pub after : IsChanged old key.index (record { generation = key.generation + 1; used = false }) new
  pub used : used_count new + 1 ≡ used_count old
  pub same : length new ≡ length old
  pub freed : new_freed ≡ (if key.generation + 1 == 2 ^ 32 - 1 then old_freed else old_freed ++ key.index ∷ [])

-- a key's object is in its slot
abbrev pub IsKeyLive : List Slot → Key → Type 0
IsKeyLive slots key = slot_at slots key.index ≡ record { generation = key.generation; used = true }

-- the keys of the objects in slots, the first of which has an index
abbrev pub keys_from : ℕ → List Slot → List Key
keys_from index [] = []
keys_from index (slot ∷ slots) = if slot.used then (record { index = index; generation = slot.generation }) ∷ keys_from (index + 1) slots else keys_from (index + 1) slots
