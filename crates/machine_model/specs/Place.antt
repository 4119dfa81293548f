-- Places in the window for regions.
use Rattle.std.specs.Prelude.{◌≡◌, ℕ, zero, suc, ◌+◌, ◌-◌, ◌*◌, ◌%◌, ◌<◌, ◌≤◌, Bool, ◌&&◌, ◌==◌, nat_lt, IsFalse, List, [], ◌∷◌, fold, Option, Some, None, if◌then◌else◌}
use Rattle.std.specs.List.{list_any}
use Rattle.machine_model.specs.declared.region.Region.{Region}
use Rattle.machine_model.specs.State.{State, end_of_region}

-- whether `pages` pages from an address meet the region
abbrev pub meets : ℕ → ℕ → Region → Bool
meets address pages region = nat_lt address (end_of_region region) && nat_lt region.start (address + 4096 * pages)

-- whether they meet some region
abbrev pub meets_any : ℕ → ℕ → List Region → Bool
meets_any address pages regions = list_any (meets address pages) regions

-- `pages` pages from an address lie in the window, which has `window` pages from `base` on, and meet none of these
-- regions
pub record IsFit (base window : ℕ) (regions : List Region) (pages address : ℕ) : Type 0 where
  pub aligned : address % 4096 ≡ 0
  pub from : base ≤ address
  pub within : address + 4096 * pages ≤ base + 4096 * window
  pub clear : IsFalse (meets_any address pages regions)

-- The place for `pages` pages is the least page of the window from which they fit.
pub record IsPlace (base window : ℕ) (regions : List Region) (pages address : ℕ) : Type 0 where
  pub fit : IsFit base window regions pages address
  pub least : (other : ℕ) → other < address → IsFit base window regions pages other → ⊥

-- there is no place for `pages` pages
abbrev pub HasNoPlace : ℕ → ℕ → List Region → ℕ → Type 0
HasNoPlace base window regions pages = (address : ℕ) → IsFit base window regions pages address → ⊥

-- the first of these pages from which `pages` pages meet no region
abbrev pub first_fit : List Region → ℕ → ℕ → ℕ → Option ℕ
first_fit regions pages address zero = None
first_fit regions pages address (suc tries) = if meets_any address pages regions then first_fit regions pages (address + 4096) tries else Some address

-- a region takes its place by address
abbrev pub with_region : Region → List Region → List Region
with_region region [] = region ∷ []
with_region region (first ∷ rest) = if nat_lt region.start first.start then region ∷ first ∷ rest else first ∷ with_region region rest

-- whether a region is the one of `pages` pages at an address
abbrev pub is_at : ℕ → ℕ → Region → Bool
is_at start pages region = (region.start == start) && (region.pages == pages)

-- the regions without the one of `pages` pages at an address
abbrev pub without_region : ℕ → ℕ → List Region → List Region
without_region start pages [] = []
without_region start pages (region ∷ rest) = if is_at start pages region then rest else region ∷ without_region start pages rest

-- all regions by address
abbrev pub all_regions : State → List Region
all_regions s = fold (λ list region. with_region region list) s.heap s.users

-- the place as a function, if the window begins at a page
unfoldable pub place : ℕ → ℕ → List Region → ℕ → Option ℕ
place base window regions pages = first_fit regions pages base (window + 1 - pages)
