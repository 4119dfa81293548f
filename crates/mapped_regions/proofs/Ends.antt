-- Where regions end, and that no large page reaches over an end of one.
use Rattle.std.proofs.Common.{◌≡◌, ℕ, ◌+◌, ◌-◌, ◌*◌, ◌/◌, ◌%◌, ◌^◌, ◌<◌, ◌≤◌, ◌⊎◌, inl, inr, Bool, true, false, nat_lt, List, [], ◌∷◌, refl, sym, subst, arith}
use Rattle.std.specs.Prelude.{IsSome, if◌then◌else◌}
use Rattle.std.specs.List.{list_any, AllByRecursion}
use Rattle.std.proofs.lemmas.Bool.Decides.{nat_tests}
use Rattle.paging_core.specs.Prefix.{prefix_of}
use Rattle.paging_core.specs.Walk.{large_of}
use Rattle.page_ranges.specs.RangeUnmapping.{NoLargePageReachesOver, cuts_large_page}
use Rattle.page_ranges.proofs.Unmapped.{cut_or_not}
use Rattle.machine_model.specs.declared.region.Region.{Region}
use Rattle.machine_model.specs.State.{end_of_region}
use Rattle.machine_model.specs.Place.{meets}
use Rattle.machine_model.specs.Slots.{has_whole, is_whole_in}
use Rattle.machine_model.specs.Machine.{Paged}
use Rattle.machine_model.proofs.Booleans.{or_cases, or_left, or_right}
use Rattle.machine_model.proofs.Regions.{page_canonical}
use Rattle.machine_model.proofs.Slots.{page_slot, page_number, whole_true, whole_bounds}
use Rattle.mapped_regions.specs.Regions.{AreLaid, IsRegionBoundary, is_at, without_region, cut_regions}
use Rattle.mapped_regions.specs.Mapped.{IsPageRange, IsRegion, IsMapped}

-- ---- regions that are laid end where one begins, and where one ends

behind : (address from to : ℕ) (list : List Region) → AreLaid from list to → address ≤ from → IsRegionBoundary address list
behind address from to [] laid less = tt
behind address from to (first ∷ rest) laid less = (
  inr (omega (arith, less, laid.0)),
  behind address (end_of_region first) to rest laid.3 (omega (arith, less, laid.0)),
)

listed_from : (start pages from to : ℕ) (list : List Region) → AreLaid from list to → list_any (is_at start pages) list ≡ true → from ≤ start
listed_from start pages from to [] laid there = cc
listed_from start pages from to (first ∷ rest) laid there = elim (or_cases (is_at start pages first) (list_any (is_at start pages) rest) there) [
  | inl here ↦ (let low = laid.0 in grind (arith, nat_tests))
  | inr later ↦ (let more = listed_from start pages (end_of_region first) to rest laid.3 later in
      omega (arith, laid.0, more))
]

pub listed_ends : (start pages from to : ℕ) (list : List Region) → AreLaid from list to →
    list_any (is_at start pages) list ≡ true → IsRegionBoundary (start + 4096 * pages) list
listed_ends start pages from to [] laid there = tt
listed_ends start pages from to (first ∷ rest) laid there = elim (or_cases (is_at start pages first) (list_any (is_at start pages) rest) there) [
  | inl here ↦ (
      let end : end_of_region first ≡ start + 4096 * pages = grind (arith, nat_tests) in
      (inl (omega (arith, end)), behind (start + 4096 * pages) (end_of_region first) to rest laid.3 (omega (arith, end))))
  | inr later ↦ (
      let more = listed_from start pages (end_of_region first) to rest laid.3 later in
      (inl (omega (arith, more)), listed_ends start pages (end_of_region first) to rest laid.3 later))
]

pub listed_starts : (start pages from to : ℕ) (list : List Region) → AreLaid from list to →
    list_any (is_at start pages) list ≡ true → IsRegionBoundary start list
listed_starts start pages from to [] laid there = tt
listed_starts start pages from to (first ∷ rest) laid there = elim (or_cases (is_at start pages first) (list_any (is_at start pages) rest) there) [
  | inl here ↦ (
      let at : first.start ≡ start = grind (arith, nat_tests) in
      (inr (omega (arith, at)), behind start (end_of_region first) to rest laid.3 (omega (arith, at))))
  | inr later ↦ (
      let more = listed_from start pages (end_of_region first) to rest laid.3 later in
      (inl more, listed_starts start pages (end_of_region first) to rest laid.3 later))
]

-- ---- slots that lie whole in a region

-- if no region reaches over an address, neither does a slot
whole_ends : (slot address : ℕ) (list : List Region) → IsRegionBoundary address list → is_whole_in list slot ≡ true → slot < address → slot + 2 ^ 21 ≤ address
whole_ends slot address [] ends whole less = absurd (let no : false ≡ true = whole in cc)
whole_ends slot address (first ∷ rest) ends whole less = elim (or_cases (has_whole slot first) (is_whole_in rest slot) whole) [
  | inl here ↦ (
      let bounds = whole_bounds slot first here in
      elim ends.0 [ inl before ↦ omega (arith, bounds.1, before) | inr after ↦ absurd (omega (arith, bounds.0, after, less)) ])
  | inr later ↦ whole_ends slot address rest ends.1 later less
]

-- so no large page does
pub none_over : (p : Paged) (start pages : ℕ) → IsMapped p → IsPageRange start pages →
    IsRegionBoundary (start + 4096 * pages) p.regions → NoLargePageReachesOver p.words p.root (start / 4096) pages
none_over p start pages m range ends = λ k less some.
    let aligned = range.0 in
    let canonical = page_canonical (start / 4096) pages k range.1 less in
    let large = subst (λ n. IsSome (large_of p.words p.root n)) (sym (page_number (start / 4096 + k))) some in
    let whole = m.larges ((start / 4096 + k) / 512 * 2 ^ 21) (page_slot (start / 4096 + k) canonical) large in
    let to = whole_ends ((start / 4096 + k) / 512 * 2 ^ 21) (start + 4096 * pages) p.regions ends whole (omega arith) in
    omega arith

pub no_cut : (p : Paged) (start pages : ℕ) → IsMapped p → IsPageRange start pages → IsRegionBoundary start p.regions →
    cuts_large_page p.words p.root (start / 4096) ≡ false
no_cut p start pages m range ends = elim (cut_or_not p.words p.root (start / 4096)) [
  | inr none ↦ none
  | inl cut ↦ absurd (
      let aligned = range.0 in
      let after = cut.1.behind in
      let some : IsSome (large_of p.words p.root (prefix_of (start / 4096) 3)) = subst IsSome (sym cut.1.there) refl in
      let canonical = range.1.canonical in
      let large = subst (λ n. IsSome (large_of p.words p.root n)) (sym (page_number (start / 4096))) some in
      let whole = m.larges (start / 4096 / 512 * 2 ^ 21) (page_slot (start / 4096) canonical) large in
      let to = whole_ends (start / 4096 / 512 * 2 ^ 21) start p.regions ends whole (omega arith) in
      omega arith)
]

-- a slot that is beside the pages that leave stays whole in its region
pub whole_without : (start pages slot : ℕ) (list : List Region) → (slot + 2 ^ 21 ≤ start) ⊎ (start + 4096 * pages ≤ slot) → is_whole_in list slot ≡ true →
    is_whole_in (without_region start pages list) slot ≡ true
whole_without start pages slot [] beside whole = whole
whole_without start pages slot (first ∷ rest) beside whole =
    go (λ later. whole_without start pages slot rest beside later) (is_at start pages first) refl
    (or_cases (has_whole slot first) (is_whole_in rest slot) whole)
  where
    go : (is_whole_in rest slot ≡ true → is_whole_in (without_region start pages rest) slot ≡ true) → (b : Bool) →
        is_at start pages first ≡ b → (has_whole slot first ≡ true) ⊎ (is_whole_in rest slot ≡ true) →
        is_whole_in (if b then rest else first ∷ without_region start pages rest) slot ≡ true
    go more true at (inl here) =
        let bounds = whole_bounds slot first here in
        let is : first.start ≡ start = grind (arith, nat_tests) in
        let long : first.pages ≡ pages = grind (arith, nat_tests) in
        elim beside [ inl before ↦ absurd (omega (arith, bounds.0, is, before)) | inr after ↦ absurd (omega (arith, bounds.1, is, long, after)) ]
    go more true at (inr later) = later
    go more false at (inl here) = or_left (has_whole slot first) (is_whole_in (without_region start pages rest) slot) here
    go more false at (inr later) = or_right (has_whole slot first) (is_whole_in (without_region start pages rest) slot) (more later)

pub whole_cut : (base window start pages slot : ℕ) (list : List Region) → AllByRecursion (IsRegion base window) list →
    start % 4096 ≡ 0 → slot % 2 ^ 21 ≡ 0 → IsRegionBoundary (start + 4096 * pages) list →
    (slot + 2 ^ 21 ≤ start) ⊎ (start + 4096 * pages ≤ slot) → is_whole_in list slot ≡ true → is_whole_in (cut_regions start pages list) slot ≡ true
whole_cut base window start pages slot [] all aligned whole_slot ends beside whole = whole
whole_cut base window start pages slot (first ∷ rest) all aligned whole_slot ends beside whole =
    go (λ later. whole_cut base window start pages slot rest all.1 aligned whole_slot ends.1 beside later)
    (meets start pages first) refl (nat_lt first.start start) refl (or_cases (has_whole slot first)
    (is_whole_in rest slot) whole)
  where
    go : (is_whole_in rest slot ≡ true → is_whole_in (cut_regions start pages rest) slot ≡ true) → (met : Bool) →
        meets start pages first ≡ met → (before : Bool) → nat_lt first.start start ≡ before →
        (has_whole slot first ≡ true) ⊎ (is_whole_in rest slot ≡ true) →
        is_whole_in (if met then (if before then record first { pages = (start - first.start) / 4096 } ∷ cut_regions start
        pages
        rest else cut_regions start pages rest) else first ∷ cut_regions start pages rest) slot ≡ true
    go more false meet b is (inl here) = or_left (has_whole slot first) (is_whole_in (cut_regions start pages rest) slot)
        here
    go more false meet b is (inr later) = or_right (has_whole slot first) (is_whole_in (cut_regions start pages rest) slot) (more later)
    go more true meet true is (inr later) = or_right (has_whole slot (record
        first { pages = (start - first.start) / 4096 })) (is_whole_in (cut_regions start pages rest) slot) (more later)
    go more true meet false is (inr later) = more later
    go more true meet true is (inl here) =
        or_left (has_whole slot (record first { pages = (start - first.start) / 4096 }))
        (is_whole_in (cut_regions start pages rest) slot) (shorter (whole_bounds slot first here))
      where
        shorter : (first.start ≤ slot) × (slot + 2 ^ 21 ≤ end_of_region first) → has_whole slot (record first { pages = (start - first.start) / 4096 }) ≡ true
        shorter bounds =
            let starts = all.0.range.0 in
            let low : first.start < start = grind (arith, nat_tests) in
            let reaches : start < end_of_region first = grind (arith, nat_tests) in
            let to : slot + 2 ^ 21 ≤ start = elim beside [
              | inl b ↦ b
              | inr a ↦ absurd (elim ends.0 [ inl before ↦ omega (arith, a, before, bounds.1) | inr after ↦ omega (arith, after, low) ])
            ] in
            whole_true slot (record first { pages = (start - first.start) / 4096 }) bounds.0 (omega (arith, bounds.0, to, aligned, starts))
    go more true meet false is (inl here) = absurd (over (whole_bounds slot first here))
      where
        over : (first.start ≤ slot) × (slot + 2 ^ 21 ≤ end_of_region first) → ⊥
        over bounds =
            let from : start ≤ first.start = grind (arith, nat_tests) in
            let low : first.start < start + 4096 * pages = grind (arith, nat_tests) in
            elim ends.0 [
              | inl before ↦ elim beside [ inl b ↦ omega (arith, b, from, bounds.0) | inr a ↦ omega (arith, a, before, bounds.1) ]
              | inr after ↦ omega (arith, after, low)
            ]
