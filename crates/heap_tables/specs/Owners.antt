-- Whose pages are, by regions of ascending addresses.
use Rattle.std.specs.Prelude.{ℕ, ◌+◌, ◌-◌, ◌*◌, ◌%◌, ◌^◌, ◌≤◌, ⊤, Bool, true, false, ◌&&◌, nat_le, nat_lt, List, [], ◌∷◌, if◌then◌else◌}
use Rattle.std.specs.List.{AllByRecursion}
use Rattle.heap_tables.specs.declared.owners.Owned.{Owned}
use Rattle.heap_tables.specs.declared.owners.Owner.{Owner}
use Rattle.heap_tables.specs.declared.owners.Owner.TheVariants.{Heap, User}

-- the address of a page by the low 36 bits of its number: bits 48 to 63 are as bit 47
abbrev pub address_of : ℕ → ℕ
address_of page = if nat_lt (page % 2 ^ 36) (2 ^ 35) then page % 2 ^ 36 * 4096 else page % 2 ^ 36 * 4096 + (2 ^ 64 - 2 ^ 48)

-- the address after a region
abbrev pub owned_end : Owned → ℕ
owned_end region = region.start + 4096 * region.pages

-- whether an address lies in a region
abbrev pub has_address : ℕ → Owned → Bool
has_address address region = nat_le region.start address && nat_lt address (owned_end region)

-- whose an address is: of the owner of the first region in which it lies, or the user's if it lies in none
abbrev pub owner_at : List Owned → ℕ → Owner
owner_at [] address = User
owner_at (region ∷ regions) address = if has_address address region then region.owner else owner_at regions address

-- whose a page is
abbrev pub owner_of : List Owned → ℕ → Owner
owner_of regions page = owner_at regions (address_of page)

-- each region begins where those before it have ended, or after that
abbrev pub AreOwnedAscending : List Owned → Type 0
AreOwnedAscending [] = ⊤
AreOwnedAscending (region ∷ rest) = AllByRecursion (λ next. owned_end region ≤ next.start) rest × AreOwnedAscending rest

-- whether two owners are the same
abbrev pub same_owner : Owner → Owner → Bool
same_owner Heap Heap = true
same_owner Heap User = false
same_owner User Heap = false
same_owner User User = true
