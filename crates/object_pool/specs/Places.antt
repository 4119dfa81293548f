-- The places that the lists of slots have.
use Rattle.std.specs.Prelude.{◌≡◌, ℕ, ◌+◌, ◌≤◌, length, vec_capacity}
use Rattle.object_pool.specs.declared.slots.Slots.{Slots}

-- The lists have as many places as before.
pub record KeepsPlaces (old new : Slots) : Type 0 where
  pub room : vec_capacity new.slots ≡ vec_capacity old.slots
  pub freed_room : vec_capacity new.freed ≡ vec_capacity old.freed

-- No slot changed, and no place was lost.
pub record KeepsSlots (old new : Slots) : Type 0 where
  pub slots : new.slots.items ≡ old.slots.items
  pub freed : new.freed.items ≡ old.freed.items
  pub places : vec_capacity old.slots ≤ vec_capacity new.slots
  pub freed_places : vec_capacity old.freed ≤ vec_capacity new.freed

-- The lists have places for this many slots more.
pub record HasPlacesFor (count : ℕ) (old new : Slots) : Type 0 where
  pub room : length old.slots.items + count ≤ vec_capacity new.slots
  pub freed_room : length old.slots.items + count ≤ vec_capacity new.freed
