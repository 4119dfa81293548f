-- Which cause a request for a range has, and what C is told of it.
use Rattle.std.proofs.Common.{◌≡◌, ℕ, Bool, ◌/◌, ◌<◌, ◌≤◌, ◌^◌, true, false, ltb, Some, refl, ◌∙◌, ◌⊎◌, inl, inr, arith}
use Rattle.std.specs.Prelude.{IsTrue}
use Rattle.std.proofs.lemmas.Bool.{cases_Bool}
use Rattle.std.proofs.lemmas.Bool.Decides.{nat_tests}
use Rattle.paging_core.specs.Address.{is_canonical}
use Rattle.kernel_tables.specs.Ranges.{map_range_fault, change_range_fault, protect_range_fault}
use Rattle.kernel_tables.specs.TableState.{TableState}
use Rattle.kernel_tables.specs.declared.range_fault.RangeFault.TheVariants.{NotCanonical, PastLimit}
use Rattle.limzhur_c.specs.TablesCodes.{map_range_cause, change_range_cause, grant_range_cause}

off_half : (address : ℕ) → (IsTrue (is_canonical address) → ⊥) → is_canonical address ≡ false
off_half address away = go (cases_Bool (is_canonical address))
  where
    go : (is_canonical address ≡ true) ⊎ (is_canonical address ≡ false) → is_canonical address ≡ false
    go (inl is) = absurd (away is)
    go (inr is) = is

pub map_off_half : (tables : TableState) (address pages frame : ℕ) (user : Bool) → (IsTrue (is_canonical address) → ⊥) →
    map_range_cause tables address pages frame user ≡ Some NotCanonical
map_off_half tables address pages frame user away = rw (off_half address away) refl

pub map_far : (tables : TableState) (address pages frame : ℕ) (user : Bool) → IsTrue (is_canonical address) → 2 ^ 40 ≤ frame →
    map_range_cause tables address pages frame user ≡ Some PastLimit
map_far tables address pages frame user is far = rw (is, not_below frame far) refl
  where
    not_below : (f : ℕ) → 2 ^ 40 ≤ f → ltb f (2 ^ 40) ≡ false
    not_below f far = grind (arith, nat_tests)

pub map_asked : (tables now : TableState) (address pages frame page to : ℕ) (user : Bool) → IsTrue (is_canonical address) →
    frame < 2 ^ 40 → now ≡ tables → page ≡ address / 4096 → to ≡ frame →
    map_range_cause tables address pages frame user ≡ map_range_fault now page pages to user
map_asked tables now address pages frame page to user is near same at led =
    let e : map_range_cause tables address pages frame user ≡ map_range_fault tables (address / 4096) pages frame user = rw (is, below frame near) refl in
    e ∙ rw (same, at, led) refl
  where
    below : (f : ℕ) → f < 2 ^ 40 → ltb f (2 ^ 40) ≡ true
    below f near = grind (arith, nat_tests)

pub change_off_half : (tables : TableState) (address pages : ℕ) → (IsTrue (is_canonical address) → ⊥) →
    change_range_cause tables address pages ≡ Some NotCanonical
change_off_half tables address pages away = rw (off_half address away) refl

pub change_asked : (tables now : TableState) (address pages page : ℕ) → IsTrue (is_canonical address) → now ≡ tables → page ≡ address / 4096 →
    change_range_cause tables address pages ≡ change_range_fault now page pages
change_asked tables now address pages page is same at =
    let e : change_range_cause tables address pages ≡ change_range_fault tables (address / 4096) pages = rw is refl in
    e ∙ rw (same, at) refl

pub grant_off_half : (tables : TableState) (address pages : ℕ) (user : Bool) → (IsTrue (is_canonical address) → ⊥) →
    grant_range_cause tables address pages user ≡ Some NotCanonical
grant_off_half tables address pages user away = rw (off_half address away) refl

pub grant_asked : (tables now : TableState) (address pages page : ℕ) (user : Bool) → IsTrue (is_canonical address) → now ≡ tables →
    page ≡ address / 4096 → grant_range_cause tables address pages user ≡ protect_range_fault now page pages user
grant_asked tables now address pages page user is same at =
    let e : grant_range_cause tables address pages user ≡ protect_range_fault tables (address / 4096) pages user = rw is refl in
    e ∙ rw (same, at) refl
