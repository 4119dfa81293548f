-- Runs of the heap among the regions of a paged system: where they begin and end, and what is left of the regions where one is given back.
use Rattle.std.proofs.Common.{◌≡◌, ℕ, ◌+◌, ◌-◌, ◌*◌, ◌/◌, ◌%◌, ◌<◌, ◌≤◌, ◌⊎◌, inl, inr, Bool, true, false, ◌||◌, ◌&&◌, cond, List, [], ◌∷◌, map, refl, sym, ap, ◌∙◌, subst, arith}
use Rattle.std.specs.List.{AllByRecursion, list_any}
use Rattle.std.proofs.lemmas.Bool.{cases_lt}
use Rattle.std.proofs.lemmas.Bool.Decides.{nat_tests}
use Rattle.heap_memory.specs.Regions.{is_granted, IsApart}
use Rattle.heap_memory.specs.Runs.{IsRun, IsWithin, without_run}
use Rattle.machine_model.specs.declared.region.Region.{Region}
use Rattle.machine_model.specs.State.{end_of_region, is_within}
use Rattle.machine_model.proofs.Booleans.{or_cases}
use Rattle.mapped_regions.specs.Regions.{AreLaid, AreHeld, IsRegionBoundary, cut_regions}
use Rattle.mapped_regions.specs.Mapped.{IsRegion}
use Rattle.mapped_regions.proofs.CutPages.{at_or_behind}
use Rattle.paged_systems.proofs.Releasing.{heap_grants, cut_grants}
use Rattle.paged_systems.specs.Words.{heap_regions, grant_of}

-- whether a region of the heap has an address
abbrev pub is_own : ℕ → Region → Bool
is_own address region = region.heap && is_within address region

-- an address before regions is in none
none_before : (from to address : ℕ) (regions : List Region) → AreLaid from regions to → address < from →
    AllByRecursion (λ region. region.heap ≡ false → is_within address region ≡ false) regions
none_before from to address [] laid before = tt
none_before from to address (region ∷ rest) laid before = (
  λ user. (let low = laid.0 in grind (arith, nat_tests)),
  none_before (end_of_region region) to address rest laid.3 (let low = laid.0 in omega arith),
)

pub own_within : (address : ℕ) (regions : List Region) → list_any (is_own address) regions ≡ true → list_any (is_within address) regions ≡ true
own_within address [] is = is
own_within address (region ∷ rest) is = grind (arith, nat_tests, own_within address rest)

-- the heap's addresses are none of the user's
pub none_of_user : (from to address : ℕ) (regions : List Region) → AreLaid from regions to → list_any (is_own address) regions ≡ true →
    AllByRecursion (λ region. region.heap ≡ false → is_within address region ≡ false) regions
none_of_user from to address [] laid is = cc
none_of_user from to address (region ∷ rest) laid is = elim (or_cases (is_own address region) (list_any (is_own address) rest) is) [
  | inl here ↦ (
      let inside : address < end_of_region region = grind (arith, nat_tests) in
      (λ user. absurd (let own : region.heap ≡ true = grind (arith, nat_tests) in cc), none_before (end_of_region region) to address rest laid.3 inside))
  | inr later ↦ (
      let behind : end_of_region region ≤ address = at_or_behind (end_of_region region) to address rest laid.3 (own_within address rest later) in
      (λ user. grind (arith, nat_tests), none_of_user (end_of_region region) to address rest laid.3 later))
]

-- a heap sees the addresses of its regions as granted
pub own_granted : (address : ℕ) (regions : List Region) → is_granted (heap_grants regions) address ≡ list_any (is_own address) regions
own_granted address [] = refl
own_granted address (region ∷ rest) = go region.heap refl (own_granted address rest)
  where
    go : (heap : Bool) → region.heap ≡ heap → is_granted (heap_grants rest) address ≡ list_any (is_own address) rest →
        is_granted (heap_grants (region ∷ rest)) address ≡ list_any (is_own address) (region ∷ rest)
    go true own later = rw own (ap (λ b. is_within address region || b) later)
    go false user later = rw user later

-- they lie in the window
pub own_bounds : (base pages address : ℕ) (regions : List Region) → AllByRecursion (IsRegion base pages) regions →
    list_any (is_own address) regions ≡ true → (base ≤ address) × (address < base + 4096 * pages)
own_bounds base pages address [] all is = cc
own_bounds base pages address (region ∷ rest) all is = elim (or_cases (is_own address region) (list_any (is_own address) rest) is) [
  | inl here ↦ (
      let own : region.heap ≡ true = grind (arith, nat_tests) in
      let low = all.0.from own in
      let high = all.0.within own in
      (grind (arith, nat_tests), grind (arith, nat_tests)))
  | inr later ↦ own_bounds base pages address rest all.1 later
]

-- no region reaches over the end of a run
pub run_boundary : (start high last : ℕ) (regions : List Region) → start < high → last + 1 ≡ high →
    AllByRecursion (λ grant. IsApart start high grant ⊎ IsWithin start high grant) (heap_grants regions) →
    AllByRecursion (λ region. region.heap ≡ false → is_within last region ≡ false) regions → IsRegionBoundary high regions
run_boundary start high last [] some is whole users = tt
run_boundary start high last (region ∷ rest) some is whole users = go region.heap refl (λ all. run_boundary start high last rest some is all users.1)
  where
    go : (heap : Bool) → region.heap ≡ heap → (AllByRecursion (λ grant.
        IsApart start high grant ⊎ IsWithin start high grant) (heap_grants rest) → IsRegionBoundary high rest) →
        IsRegionBoundary high (region ∷ rest)
    go true own others =
        let all = subst (λ (b : Bool). AllByRecursion (λ grant. IsApart start high grant ⊎ IsWithin start high grant)
        (map grant_of (cond b (region ∷ heap_regions rest) (heap_regions rest)))) own whole in (
          elim all.0 [
            | inl (inl below) ↦ inl (omega arith)
            | inl (inr above) ↦ inr above
            | inr within ↦ inl within.1
          ],
          others all.1,
        )
    go false user others =
        let all = subst (λ (b : Bool). AllByRecursion (λ grant. IsApart start high grant ⊎ IsWithin start high grant)
        (map grant_of (cond b (region ∷ heap_regions rest) (heap_regions rest)))) user whole in
        let out : is_within last region ≡ false = users.0 user in (
          elim (cases_lt region.start high) [
            | inr behind ↦ inr behind
            | inl before ↦ elim (cases_lt high (end_of_region region)) [
              | inl over ↦ absurd (let in_it : is_within last region ≡ true = grind (arith, nat_tests) in cc)
              | inr ends ↦ inl ends
            ]
          ],
          others all,
        )

-- and none over its begin
pub run_starts : (start high : ℕ) (regions : List Region) → start < high →
    AllByRecursion (λ grant. IsApart start high grant ⊎ IsWithin start high grant) (heap_grants regions) →
    AllByRecursion (λ region. region.heap ≡ false → is_within start region ≡ false) regions → IsRegionBoundary start regions
run_starts start high [] some whole users = tt
run_starts start high (region ∷ rest) some whole users = go region.heap refl (λ all. run_starts start high rest some all users.1)
  where
    go : (heap : Bool) → region.heap ≡ heap → (AllByRecursion (λ grant.
        IsApart start high grant ⊎ IsWithin start high grant) (heap_grants rest) → IsRegionBoundary start rest) →
        IsRegionBoundary start (region ∷ rest)
    go true own others =
        let all = subst (λ (b : Bool). AllByRecursion (λ grant. IsApart start high grant ⊎ IsWithin start high grant)
        (map grant_of (cond b (region ∷ heap_regions rest) (heap_regions rest)))) own whole in (
          elim all.0 [
            | inl (inl below) ↦ inl below
            | inl (inr above) ↦ inr (omega (arith, some, above))
            | inr within ↦ inr within.0
          ],
          others all.1,
        )
    go false user others =
        let all = subst (λ (b : Bool). AllByRecursion (λ grant. IsApart start high grant ⊎ IsWithin start high grant)
        (map grant_of (cond b (region ∷ heap_regions rest) (heap_regions rest)))) user whole in
        let out : is_within start region ≡ false = users.0 user in (
          elim (cases_lt region.start start) [
            | inr behind ↦ inr behind
            | inl before ↦ elim (cases_lt start (end_of_region region)) [
              | inl over ↦ absurd (let in_it : is_within start region ≡ true = grind (arith, nat_tests) in cc)
              | inr ends ↦ inl ends
            ]
          ],
          others all,
        )

-- each region of the heap is apart from the bytes from low on and below high, or in them
abbrev pub AreBeside : ℕ → ℕ → List Region → Type 0
AreBeside low high regions = AllByRecursion (λ grant. IsApart low high grant ⊎ IsWithin low high grant) (heap_grants regions)

-- a run begins at a page, and ends at one
run_from : (low high from to : ℕ) (regions : List Region) → AreLaid from regions to → low < high →
    AreBeside low high regions → list_any (is_own low) regions ≡ true → low % 4096 ≡ 0
run_from low high from to [] laid some whole is = cc
run_from low high from to (region ∷ rest) laid some whole is = go region.heap refl (run_from low high (end_of_region region) to rest laid.3 some)
  where
    go : (heap : Bool) → region.heap ≡ heap → (AreBeside low high rest → list_any (is_own low) rest ≡ true → low % 4096 ≡ 0) → low % 4096 ≡ 0
    go true own others =
        let all = subst (λ (b : Bool). AllByRecursion (λ grant. IsApart low high grant ⊎ IsWithin low high grant)
        (map grant_of (cond b (region ∷ heap_regions rest) (heap_regions rest)))) own whole in
        let at_page = laid.1 in
        let later : list_any (is_own low) rest ≡ true → low % 4096 ≡ 0 = others all.1 in
        elim all.0 [
          | inl (inl below) ↦ grind (arith, nat_tests)
          | inl (inr above) ↦ grind (arith, nat_tests)
          | inr within ↦ grind (arith, nat_tests)
        ]
    go false user others =
        let all = subst (λ (b : Bool). AllByRecursion (λ grant. IsApart low high grant ⊎ IsWithin low high grant)
        (map grant_of (cond b (region ∷ heap_regions rest) (heap_regions rest)))) user whole in
        let later : list_any (is_own low) rest ≡ true → low % 4096 ≡ 0 = others all in
        grind (arith, nat_tests)

run_to : (low high last from to : ℕ) (regions : List Region) → AreLaid from regions to → low ≤ last → last + 1 ≡ high →
    AreBeside low high regions → list_any (is_own last) regions ≡ true → high % 4096 ≡ 0
run_to low high last from to [] laid some next whole is = cc
run_to low high last from to (region ∷ rest) laid some next whole is =
    go region.heap refl (run_to low high last (end_of_region region) to rest laid.3 some next)
  where
    go : (heap : Bool) → region.heap ≡ heap → (AreBeside low high rest → list_any (is_own last) rest ≡ true → high % 4096 ≡ 0) → high % 4096 ≡ 0
    go true own others =
        let all = subst (λ (b : Bool). AllByRecursion (λ grant. IsApart low high grant ⊎ IsWithin low high grant)
        (map grant_of (cond b (region ∷ heap_regions rest) (heap_regions rest)))) own whole in
        let at_page = laid.1 in
        let later : list_any (is_own last) rest ≡ true → high % 4096 ≡ 0 = others all.1 in
        elim all.0 [
          | inl (inl below) ↦ grind (arith, nat_tests)
          | inl (inr above) ↦ grind (arith, nat_tests)
          | inr within ↦ (
              let ends : (is_own last region ≡ true) → high ≡ region.start + 4096 * region.pages = λ here. grind (arith, nat_tests) in
              grind (arith, nat_tests))
        ]
    go false user others =
        let all = subst (λ (b : Bool). AllByRecursion (λ grant. IsApart low high grant ⊎ IsWithin low high grant)
        (map grant_of (cond b (region ∷ heap_regions rest) (heap_regions rest)))) user whole in
        let later : list_any (is_own last) rest ≡ true → high % 4096 ≡ 0 = others all in
        grind (arith, nat_tests)

-- The bytes behind the first `left` of a run are given back.
module _ (from to at size left : ℕ) (regions : List Region) (laid : AreLaid from regions to)
    (run : IsRun (heap_grants regions) at (at + size)) (less : left < size) (whole : left % 4096 ≡ 0) where
  -- each byte of the run is in a region of the heap
  pub run_own : (address : ℕ) → at ≤ address → address < at + size → list_any (is_own address) regions ≡ true
  run_own address low high = sym (own_granted address regions) ∙ run.granted address low high

  pub begins : at % 4096 ≡ 0
  begins = let some : at < at + size = run.some in run_from at (at + size) from to regions laid some run.whole (run_own at (omega arith) some)

  pub ends : (at + size) % 4096 ≡ 0
  ends = let some : at < at + size = run.some in run_to at (at + size) (at + size - 1) from to regions laid (omega arith)
      (omega arith) run.whole (run_own (at + size - 1) (omega arith) (omega arith))

  -- they are so many pages
  pub count_is : at + left + 4096 * ((size - left) / 4096) ≡ at + size
  count_is = let b = begins in let e = ends in omega arith

  pub boundary : IsRegionBoundary (at + size) regions
  boundary = let some : at < at + size = run.some in run_boundary at (at + size) (at + size - 1) regions some (omega arith) run.whole
      (none_of_user from to (at + size - 1) regions laid (run_own (at + size - 1) (omega arith) (omega arith)))

  pub starts : IsRegionBoundary at regions
  starts = let some : at < at + size = run.some in run_starts at (at + size) regions some run.whole
      (none_of_user from to at regions laid (run_own at (omega arith) (omega arith)))

  pub held : AreHeld (at + left) (at + size) regions
  held address low high = own_within address regions (run_own address (omega arith) high)

  pub grants_left : heap_grants (cut_regions (at + left) ((size - left) / 4096) regions) ≡ without_run (at + left) (at + size) (heap_grants regions)
  grants_left =
      let b = begins in let e = ends in
      let all : AreBeside at (at + left + 4096 * ((size - left) / 4096)) regions = subst (λ (high : ℕ). AreBeside at high regions) (sym count_is) run.whole in
      cut_grants at (at + left) ((size - left) / 4096) (omega arith) (omega arith) (omega arith) from to regions laid all
      ∙ ap (λ (high : ℕ). without_run (at + left) high (heap_grants regions)) count_is
