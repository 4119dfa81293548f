-- Regions by ascending address: how they lie, which of them is at a place, and how they change.
use Rattle.std.specs.Prelude.{◌≡◌, ℕ, ◌+◌, ◌-◌, ◌*◌, ◌/◌, ◌%◌, ◌^◌, ◌<◌, ◌≤◌, ◌⊎◌, ◌&&◌, Bool, nat_le, nat_lt, if◌then◌else◌, IsTrue, List, [], ◌∷◌, find, Option, Some, None, option_map, vec_capacity}
use Rattle.std.specs.List.{list_any, AllByRecursion}
use Rattle.std.specs.declared.vec.Vec.{Vec}
use Rattle.paging_core.specs.declared.page_table.Rights.{Rights}
use Rattle.machine_model.specs.declared.region.Region.{Region}
use Rattle.machine_model.specs.State.{end_of_region, is_within}
use Rattle.machine_model.specs.Place.{meets, IsPlace, HasNoPlace}
pub use Rattle.machine_model.specs.Place.{is_at, without_region}

-- ---- how regions lie

-- regions one after the other between two addresses: each has pages, begins at a page, and ends before the next begins
abbrev pub AreLaid : ℕ → List Region → ℕ → Type 0
AreLaid from [] to = from ≤ to
AreLaid from (region ∷ rest) to = (from ≤ region.start) × (region.start % 4096 ≡ 0) × (0 < region.pages) × AreLaid (end_of_region region) rest to

-- each address from one on and below another lies in a region
abbrev pub AreHeld : ℕ → ℕ → List Region → Type 0
AreHeld from to regions = (address : ℕ) → from ≤ address → address < to → IsTrue (list_any (is_within address) regions)

-- each region lies before the address or after it: none reaches over it
abbrev pub IsRegionBoundary : ℕ → List Region → Type 0
IsRegionBoundary address regions = AllByRecursion (λ region. (end_of_region region ≤ address) ⊎ (address ≤ region.start)) regions

-- the lowest page from which n pages lie in the window of `pages` pages from the page `base` on and meet no region
abbrev pub IsLowest : ℕ → ℕ → List Region → ℕ → Option ℕ → Type 0
IsLowest base pages regions n None = HasNoPlace (4096 * base) pages regions n
IsLowest base pages regions n (Some page) = IsPlace (4096 * base) pages regions n (4096 * page)

-- a page of a window before which none is free
pub record IsHint (base end : ℕ) (regions : List Region) (hint : ℕ) : Type 0 where
  pub from : base ≤ hint
  pub to : hint ≤ end
  pub held : AreHeld (4096 * base) (4096 * hint) regions

-- an empty list with places for n items
pub record HasPlaces {E A : Type 0} (list : Vec E A) (n : ℕ) : Type 0 where
  pub empty : list.items ≡ []
  pub places : n ≤ vec_capacity list

-- ---- single regions

-- a region begins at a page, and ends at 2^64 at the latest
pub record HasWholePages (region : Region) : Type 0 where
  pub at_page : region.start % 4096 ≡ 0
  pub within : region.start + 4096 * region.pages ≤ 2 ^ 64

-- whether a region is of the heap, and `pages` pages from an address meet it
abbrev pub meets_heap : ℕ → ℕ → Region → Bool
meets_heap address pages region = region.heap && meets address pages region

-- whether the heap has the region that holds an address, and with which rights, if there is one
abbrev pub kind_at : List Region → ℕ → Option (Bool × Rights)
kind_at regions address = option_map (λ region. (region.heap, region.rights)) (find (is_within address) regions)

-- ---- changes

-- a region with another number of pages, if it is the one of a given number of pages at an address
abbrev pub with_page_count : ℕ → ℕ → ℕ → Region → Region
with_page_count start pages new region = if is_at start pages region then record region { pages = new } else region

-- The regions without `pages` pages from an address on: a region that meets them ends where they begin, and leaves if
-- it begins there or after that.
abbrev pub cut_regions : ℕ → ℕ → List Region → List Region
cut_regions address pages [] = []
cut_regions address pages (region ∷ rest) =
    if meets address pages region then (if nat_lt region.start address then record region { pages = (address - region.start) / 4096 } ∷ cut_regions address pages rest else cut_regions address pages rest)
    else region ∷ cut_regions address pages rest

-- the addresses from one on and below another were taken out, and every other one is in a region of the kind that it was
abbrev pub AreTakenOut : ℕ → ℕ → List Region → List Region → Type 0
AreTakenOut from to old new = (address : ℕ) → kind_at new address ≡ (if nat_le from address && nat_lt address to then None else kind_at old address)

-- the region joined: it is at its addresses, and every other one is in a region of the kind that it was
abbrev pub IsPutIn : Region → List Region → List Region → Type 0
IsPutIn region old new = (address : ℕ) → kind_at new address ≡ (if is_within address region then Some (region.heap, region.rights) else kind_at old address)
