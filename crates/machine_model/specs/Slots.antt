-- Slots: 2 MiB of addresses in a row, the first a multiple of 2 MiB, which may be mapped by one entry, as a large page (AMD64
-- volume 2, "2-Mbyte Page Translation in Long Mode"). A slot goes by its first address.
use Rattle.std.specs.Prelude.{◌≡◌, ℕ, ◌+◌, ◌*◌, ◌/◌, ◌%◌, ◌^◌, ◌<◌, ◌≤◌, ⊤, Bool, not, ◌&&◌, ◌==◌, nat_le, IsTrue, IsFalse, List, [], ◌∷◌, Option, None, Some}
use Rattle.std.specs.List.{list_any, AllByRecursion}
use Rattle.paging_core.specs.Address.{is_canonical}
use Rattle.paging_core.specs.Prefix.{Prefix, prefix_of}
use Rattle.machine_model.specs.declared.region.Region.{Region}
use Rattle.machine_model.specs.State.{end_of_region}
use Rattle.machine_model.specs.Place.{meets_any}

-- a canonical multiple of 2 MiB
pub record IsSlot (slot : ℕ) : Type 0 where
  pub aligned : slot % 2 ^ 21 ≡ 0
  pub canonical : IsTrue (is_canonical slot)

-- the three indices that the addresses of a slot have, as one number
abbrev pub slot_number : ℕ → ℕ
slot_number slot = prefix_of (slot / 4096) 3

abbrev pub slot_prefix : ℕ → Prefix
slot_prefix slot = record { level = 3; number = slot_number slot }

-- whether the region has all addresses of the slot
abbrev pub has_whole : ℕ → Region → Bool
has_whole slot region = nat_le region.start slot && nat_le (slot + 2 ^ 21) (end_of_region region)

-- whether one of the regions has
abbrev pub is_whole_in : List Region → ℕ → Bool
is_whole_in regions slot = list_any (has_whole slot) regions

-- whether none has, though some have addresses of it
abbrev pub is_part_in : List Region → ℕ → Bool
is_part_in regions slot = not (is_whole_in regions slot) && meets_any slot 512 regions

abbrev pub has_slot : List ℕ → ℕ → Bool
has_slot slots slot = list_any (λ one. one == slot) slots

-- slots as an answer lists them: only if there are any
abbrev pub listed_slots : List ℕ → Option (List ℕ)
listed_slots [] = None
listed_slots (slot ∷ rest) = Some (slot ∷ rest)

-- no slot is listed twice
abbrev pub AreDistinctSlots : List ℕ → Type 0
AreDistinctSlots [] = ⊤
AreDistinctSlots (slot ∷ rest) = IsFalse (has_slot rest slot) × AreDistinctSlots rest

-- each is after those before it
abbrev pub AreAscending : List ℕ → Type 0
AreAscending [] = ⊤
AreAscending (slot ∷ rest) = AllByRecursion (λ later. slot < later) rest × AreAscending rest

-- The slot lies whole in `pages` pages from an address on.
pub record IsSlotOf (address pages slot : ℕ) : Type 0 where
  pub is_slot : IsSlot slot
  pub from : address ≤ slot
  pub within : slot + 2 ^ 21 ≤ address + 4096 * pages
