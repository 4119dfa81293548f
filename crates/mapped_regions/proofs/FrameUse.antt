-- Each frame serves for exactly one thing.
use Rattle.std.proofs.Common.{◌≡◌, ℕ, zero, suc, ◌+◌, ◌-◌, ◌*◌, ◌/◌, ◌%◌, ◌^◌, ◌<◌, ◌≤◌, ◌⊎◌, inl, inr, eqb, nat_eq, nat_lt, List, [], ◌∷◌, find, refl, sym, ap, ◌∙◌, subst, arith, Bool, true, false, cond, IsTrue, Option, Some, None, option_map}
use Rattle.std.proofs.lemmas.Bool.{cases_lt}
use Rattle.std.proofs.lemmas.Bool.Decides.{nat_tests}
use Rattle.std.specs.List.{AllByRecursion, Contains}
use Rattle.paging_core.specs.Address.{is_canonical, IsCanonicalRange}
use Rattle.paging_core.specs.Memory.{frame_count}
use Rattle.paging_core.specs.Prefix.{prefix_of}
use Rattle.paging_core.specs.Pool.{is_frame_free}
use Rattle.paging_core.specs.Walk.{Place, reach, large_of, large_from, next_from, by_entries, page_or, walk_of, top}
use Rattle.paging_core.specs.PageBits.{bits_of, bits_at}
use Rattle.paging_core.proofs.Reach.{entries_zero, entries_suc, reach_low, large_is}
use Rattle.paging_core.specs.declared.page_table.Rights.{Rights}
use Rattle.page_ranges.specs.RangeUnmapping.{cuts_large_page}
use Rattle.page_ranges.proofs.Unmapped.{among_is, cut_is}
use Rattle.machine_model.specs.declared.region.Region.{Region}
use Rattle.machine_model.specs.State.{end_of_region, is_within}
use Rattle.machine_model.specs.Machine.{Paged, ArePagesGone}
use Rattle.machine_model.proofs.Regions.{within_bounds, page_canonical}
use Rattle.mapped_regions.specs.Regions.{AreLaid, kind_at}
use Rattle.mapped_regions.specs.Mapped.{IsPageRange, IsRegion, IsMapped}
use Rattle.mapped_regions.specs.FrameUse.{FrameUse, Free, Table, PageOf, ArrivesAt, ServesFor, HasOneUse, AreFramesFree}

-- ---- a walk of at most four steps has at most four indices

-- a number of so many indices
abbrev Indices : ℕ → ℕ → Type 0
Indices zero number = number ≡ 0
Indices (suc level) number = Indices level (number / 512)

entries_indices : (words : List ℕ) (root level number : ℕ) (met : Place) → by_entries words root level number ≡ Some met → Indices level number
entries_indices words root zero number met is = go (eqb number 0) refl (sym (entries_zero words root number) ∙ is) where
  go : (b : Bool) → eqb number 0 ≡ b → cond (eqb number 0) (Some (top root)) None ≡ Some met → number ≡ 0
  go true is_zero some = grind (arith, nat_tests)
  go false other some = let no : None ≡ Some met = rw other at some in absurd (cc)
entries_indices words root (suc level) number met is =
    go (by_entries words root level (number / 512)) refl (sym (entries_suc words root level number) ∙ is) (entries_indices words root level (number / 512))
  where
    go : (o : Option Place) → by_entries words root level (number / 512) ≡ o → next_from words level (by_entries words root level (number / 512)) (number % 512) ≡ Some met →
        ((from : Place) → by_entries words root level (number / 512) ≡ Some from → Indices level (number / 512)) → Indices level (number / 512)
    go None at some before = let no : None ≡ Some met = rw at at some in absurd (cc)
    go (Some from) at some before = before from at

-- four steps end in the slot's large page, or go by four entries
reach_four : (words : List ℕ) (root n : ℕ) → reach words root 4 n ≡ page_or (large_of words root (n / 512)) (n % 512) (by_entries words root 4 n)
unfolding reach
reach_four words root n = refl

reach_bounded : (words : List ℕ) (root level number : ℕ) (met : Place) → level ≤ 4 → reach words root level number ≡ Some met → number < 2 ^ 36
reach_bounded words root zero number met le is = let i = entries_indices words root 0 number met (sym (reach_low words root 0 number (omega arith)) ∙ is) in omega (arith, i)
reach_bounded words root (suc zero) number met le is =
    let i = entries_indices words root 1 number met (sym (reach_low words root 1 number (omega arith)) ∙ is) in omega (arith, i)
reach_bounded words root (suc (suc zero)) number met le is =
    let i = entries_indices words root 2 number met (sym (reach_low words root 2 number (omega arith)) ∙ is) in omega (arith, i)
reach_bounded words root (suc (suc (suc zero))) number met le is =
    let i = entries_indices words root 3 number met (sym (reach_low words root 3 number (omega arith)) ∙ is) in omega (arith, i)
reach_bounded words root (suc (suc (suc (suc zero)))) number met le is =
    go (large_of words root (number / 512)) refl (reach words root 2 (number / 512 / 512)) refl (sym (reach_four words root number) ∙ is)
  where
    go : (o : Option Place) → large_of words root (number / 512) ≡ o → (t : Option Place) → reach words root 2 (number / 512 / 512) ≡ t →
        page_or (large_of words root (number / 512)) (number % 512) (by_entries words root 4 number) ≡ Some met → number < 2 ^ 36
    go None at t table some = let i = entries_indices words root 4 number met (rw at at some) in omega (arith, i)
    go (Some large) at (Some from) table some =
        let i = entries_indices words root 2 (number / 512 / 512) from (sym (reach_low words root 2 (number / 512 / 512) (omega arith)) ∙ table) in omega (arith, i)
    go (Some large) at None table some =
        let no : None ≡ Some large = rw table at (sym (large_is words root (number / 512)) ∙ at) in absurd (cc)
reach_bounded words root (suc (suc (suc (suc (suc level))))) number met le is = absurd (omega arith)

-- ---- a search among levels and numbers

seek : (bound : ℕ) (test : ℕ → Bool) → ((n : ℕ) × (n < bound) × (test n ≡ true)) ⊎ ((n : ℕ) → n < bound → test n ≡ false)
seek zero test = inr (λ n less. absurd (omega (arith, less)))
seek (suc bound) test = go (test bound) refl (seek bound test) where
  go : (b : Bool) → test bound ≡ b → ((n : ℕ) × (n < bound) × (test n ≡ true)) ⊎ ((n : ℕ) → n < bound → test n ≡ false) →
      ((n : ℕ) × (n < suc bound) × (test n ≡ true)) ⊎ ((n : ℕ) → n < suc bound → test n ≡ false)
  go true is rest = inl (bound, omega arith, is)
  go false is (inl found) = inl (found.0, omega (arith, found.1), found.2)
  go false is (inr none) = inr (λ n less. elim (cases_lt n bound) [
    | inl below ↦ none n below
    | inr above ↦ (let same : n ≡ bound = omega (arith, less, above) in ap test same ∙ is)
  ])

seek_both : (levels bound : ℕ) (test : ℕ → ℕ → Bool) →
    ((l : ℕ) × (n : ℕ) × (l < levels) × (test l n ≡ true)) ⊎ ((l n : ℕ) → l < levels → n < bound → test l n ≡ false)
seek_both zero bound test = inr (λ l n less low. absurd (omega (arith, less)))
seek_both (suc levels) bound test = go (seek bound (test levels)) (seek_both levels bound test) where
  go : ((n : ℕ) × (n < bound) × (test levels n ≡ true)) ⊎ ((n : ℕ) → n < bound → test levels n ≡ false) →
      ((l : ℕ) × (n : ℕ) × (l < levels) × (test l n ≡ true)) ⊎ ((l n : ℕ) → l < levels → n < bound → test l n ≡ false) →
      ((l : ℕ) × (n : ℕ) × (l < suc levels) × (test l n ≡ true)) ⊎ ((l n : ℕ) → l < suc levels → n < bound → test l n ≡ false)
  go (inl found) rest = inl (levels, found.0, omega arith, found.2)
  go (inr none) (inl found) = inl (found.0, found.1, omega (arith, found.2), found.3)
  go (inr none) (inr before) = inr (λ l n less low. elim (cases_lt l levels) [
    | inl below ↦ before l n below low
    | inr above ↦ (let same : l ≡ levels = omega (arith, less, above) in ap (λ k. test k n) same ∙ none n low)
  ])

-- ---- a walk that ends at a frame

abbrev ends_at : ℕ → Option Place → Bool
ends_at frame None = false
ends_at frame (Some place) = eqb place.frame frame

ends_true : (frame : ℕ) (o : Option Place) → ends_at frame o ≡ true → (met : Place) × (o ≡ Some met) × (met.frame ≡ frame)
ends_true frame None is = absurd (cc)
ends_true frame (Some place) is = (place, refl, grind (arith, nat_tests))

ends_false : (frame : ℕ) (o : Option Place) (met : Place) → ends_at frame o ≡ false → o ≡ Some met → met.frame ≡ frame → ⊥
ends_false frame o met is at same = let no : eqb met.frame frame ≡ false = rw at at is in grind (arith, nat_tests)

arrives : (o : Option Place) (frame : ℕ) → ArrivesAt o frame → (met : Place) × (o ≡ Some met) × (met.frame ≡ frame)
arrives None frame is = absurd (cc)
arrives (Some place) frame is = let same : place.frame ≡ frame = cc in (place, refl, same)

arrives_there : (o : Option Place) (frame : ℕ) (met : Place) → o ≡ Some met → met.frame ≡ frame → ArrivesAt o frame
arrives_there o frame met at same = rw at (ap Some same)

-- ---- the regions of a list

contains_cases : (first : Region) (rest : List Region) (region : Region) → Contains (first ∷ rest) region → (region ≡ first) ⊎ Contains rest region
contains_cases first rest region (zero, less, is) = inl (sym is)
contains_cases first rest region (suc k, less, is) = inr (k, omega (arith, less), is)

contains_first : (first : Region) (rest : List Region) → Contains (first ∷ rest) first
contains_first first rest = (0, omega arith, refl)

contains_rest : (first : Region) (rest : List Region) (region : Region) → Contains rest region → Contains (first ∷ rest) region
contains_rest first rest region (k, less, is) = (suc k, omega (arith, less), is)

all_contained : (P : Region → Type 0) (list : List Region) (region : Region) → AllByRecursion P list → Contains list region → P region
all_contained P [] region all (k, less, is) = absurd (omega (arith, less))
all_contained P (first ∷ rest) region all there = go (contains_cases first rest region there) (all_contained P rest region all.1) where
  go : (region ≡ first) ⊎ Contains rest region → (Contains rest region → P region) → P region
  go (inl is) later = subst P (sym is) all.0
  go (inr there) later = later there

-- an address that a region of the list has
found_region : (list : List Region) (at : ℕ) (kind : Bool × Rights) → kind_at list at ≡ Some kind → (region : Region) × Contains list region × (is_within at region ≡ true)
found_region [] at kind is = absurd (cc)
found_region (first ∷ rest) at kind is = go (is_within at first) refl (found_region rest at kind) where
  go : (b : Bool) → is_within at first ≡ b → (kind_at rest at ≡ Some kind → (region : Region) × Contains rest region × (is_within at region ≡ true)) →
      (region : Region) × Contains (first ∷ rest) region × (is_within at region ≡ true)
  go true here later = (first, contains_first first rest, here)
  go false here later = let r = later (rw here at is) in (r.0, contains_rest first rest r.0 r.1, r.2)

-- regions of a laid list begin after where it does
laid_from : (from : ℕ) (list : List Region) (to : ℕ) (region : Region) → AreLaid from list to → Contains list region → from ≤ region.start
laid_from from [] to region laid (k, less, is) = absurd (omega (arith, less))
laid_from from (first ∷ rest) to region laid there = go (contains_cases first rest region there) (laid_from (end_of_region first) rest to region laid.3) where
  go : (region ≡ first) ⊎ Contains rest region → (Contains rest region → end_of_region first ≤ region.start) → from ≤ region.start
  go (inl is) later = let same : region.start ≡ first.start = ap (λ (r : Region). r.start) is in omega (arith, laid.0, same)
  go (inr there) later = let after = later there in omega (arith, laid.0, after)

-- so at most one has an address
one_region : (from : ℕ) (list : List Region) (to at : ℕ) (a b : Region) → AreLaid from list to → Contains list a → Contains list b →
    is_within at a ≡ true → is_within at b ≡ true → a ≡ b
one_region from [] to at a b laid (k, less, is) in_b here_a here_b = absurd (omega (arith, less))
one_region from (first ∷ rest) to at a b laid in_a in_b here_a here_b =
    go (contains_cases first rest a in_a) (contains_cases first rest b in_b) (one_region (end_of_region first) rest to at a b laid.3)
  where
    clash : (c : Region) → Contains rest c → is_within at first ≡ true → is_within at c ≡ true → ⊥
    clash c there first_here here =
        let after = laid_from (end_of_region first) rest to c laid.3 there in
        let below = within_bounds at first first_here in
        let above = within_bounds at c here in
        absurd (omega (arith, after, below.1, above.0))

    go : (a ≡ first) ⊎ Contains rest a → (b ≡ first) ⊎ Contains rest b →
        (Contains rest a → Contains rest b → is_within at a ≡ true → is_within at b ≡ true → a ≡ b) → a ≡ b
    go (inl is_a) (inl is_b) later = is_a ∙ sym is_b
    go (inl is_a) (inr there_b) later = absurd (clash b there_b (subst (λ r. is_within at r ≡ true) is_a here_a) here_b)
    go (inr there_a) (inl is_b) later = absurd (clash a there_a (subst (λ r. is_within at r ≡ true) is_b here_b) here_a)
    go (inr there_a) (inr there_b) later = later there_a there_b here_a here_b

-- ---- pages by four indices

-- the canonical page that has these four indices
abbrev page_with : ℕ → ℕ
page_with number = cond (nat_lt number (2 ^ 35)) number (number + (2 ^ 52 - 2 ^ 36))

page_with_is : (number : ℕ) → number < 2 ^ 36 → page_with number % 2 ^ 36 ≡ number
page_with_is number less = elim (cases_lt number (2 ^ 35)) [
  | inl low ↦ (let t : nat_lt number (2 ^ 35) ≡ true = grind (arith, nat_tests) in rw t (omega arith))
  | inr high ↦ (let t : nat_lt number (2 ^ 35) ≡ false = grind (arith, nat_tests) in rw t (omega arith))
]

page_with_canonical : (number : ℕ) → number < 2 ^ 36 → IsTrue (is_canonical (page_with number * 4096))
page_with_canonical number less = elim (cases_lt number (2 ^ 35)) [
  | inl low ↦ (let t : nat_lt number (2 ^ 35) ≡ true = grind (arith, nat_tests) in rw t (grind (arith, nat_tests)))
  | inr high ↦ (let t : nat_lt number (2 ^ 35) ≡ false = grind (arith, nat_tests) in rw t (grind (arith, nat_tests)))
]

same_page : (a b : ℕ) → IsTrue (is_canonical (a * 4096)) → IsTrue (is_canonical (b * 4096)) → a % 2 ^ 36 ≡ b % 2 ^ 36 → a ≡ b
same_page a b canonical_a canonical_b same = grind (arith, nat_tests)

-- a page in a region is canonical
in_region : (base window page : ℕ) (region : Region) → IsRegion base window region → is_within (4096 * page) region ≡ true → IsTrue (is_canonical (page * 4096))
in_region base window page region good here =
    let whole = good.range.0 in
    let bounds = within_bounds (4096 * page) region here in
    let same : region.start / 4096 + (page - region.start / 4096) ≡ page = omega (arith, whole, bounds.0) in
    subst (λ p. IsTrue (is_canonical (p * 4096))) same
    (page_canonical (region.start / 4096) region.pages (page - region.start / 4096) good.range.1 (omega (arith, whole, bounds.0, bounds.1)))

some_kind : (o : Option Place) (k : Option (Bool × Rights)) (met : Place) → option_map bits_at o ≡ option_map (λ (kind : Bool × Rights). bits_of kind.1) k →
    o ≡ Some met → (kind : Bool × Rights) × (k ≡ Some kind)
some_kind o (Some kind) met same is = (kind, refl)
some_kind o None met same is = let no : Some (bits_at met) ≡ None = rw is at same in absurd (cc)

-- ---- one use

walk_four : (words : List ℕ) (root page : ℕ) → walk_of words root page ≡ reach words root 4 (page % 2 ^ 36)
unfolding walk_of
walk_four words root page = refl

module _ (p : Paged) (m : IsMapped p) (laid : AreLaid 0 p.regions (2 ^ 64)) where
  -- a frame at which a walk arrives serves for something
  met_use : (frame level number : ℕ) (met : Place) → level < 5 → reach p.words p.root level number ≡ Some met → met.frame ≡ frame →
      (one : FrameUse) × ServesFor p frame one
  met_use frame level number met less at same = elim (cases_lt level 4) [
    | inl table ↦ (Table level number, (table, arrives_there (reach p.words p.root level number) frame met at same))
    | inr above ↦ (
        let four : level ≡ 4 = omega (arith, less, above) in
        page (subst (λ l. reach p.words p.root l number ≡ Some met) four at))
  ]
    where
      page : reach p.words p.root 4 number ≡ Some met → (one : FrameUse) × ServesFor p frame one
      page here =
          let below = reach_bounded p.words p.root 4 number met (omega arith) here in
          let walk : walk_of p.words p.root (page_with number) ≡ Some met =
          walk_four p.words p.root (page_with number) ∙ (ap (reach p.words p.root 4) (page_with_is number below) ∙ here) in
          let kind = some_kind (walk_of p.words p.root (page_with number)) (kind_at p.regions (4096 * page_with number)) met
          (m.found (page_with number) (page_with_canonical number below)) walk in
          let region = found_region p.regions (4096 * page_with number) kind.0 kind.1 in
          (PageOf region.0 (page_with number), (region.1, region.2, arrives_there (walk_of p.words p.root (page_with number)) frame met walk same))

  some_use : (bound frame : ℕ) → bound ≡ 2 ^ 36 → frame < frame_count p.words → (one : FrameUse) × ServesFor p frame one
  some_use bound frame wide less = by_flag (is_frame_free p.free frame) refl (seek_both 5 bound (λ l n. ends_at frame (reach p.words p.root l n))) where
    by_flag : (b : Bool) → is_frame_free p.free frame ≡ b →
        ((l : ℕ) × (n : ℕ) × (l < 5) × (ends_at frame (reach p.words p.root l n) ≡ true))
        ⊎ ((l n : ℕ) → l < 5 → n < bound → ends_at frame (reach p.words p.root l n) ≡ false) →
        (one : FrameUse) × ServesFor p frame one
    by_flag true is found = (Free, is)
    by_flag false is (inl found) =
        let met = ends_true frame (reach p.words p.root found.0 found.1) found.3 in
        met_use frame found.0 found.1 met.0 found.2 met.1 met.2
    by_flag false is (inr none) =
        let no = m.accounted frame less (λ level number met le at same.
        ends_false frame (reach p.words p.root level number) met
        (none level number (omega (arith, le)) (let b = reach_bounded p.words p.root level number met le at in omega (arith, b, wide))) at same) in
        absurd (cc)

  -- a walk's end is not free
  not_free : (frame level number : ℕ) → level ≤ 4 → is_frame_free p.free frame ≡ true → ArrivesAt (reach p.words p.root level number) frame → ⊥
  not_free frame level number le free is =
      let met = arrives (reach p.words p.root level number) frame is in
      let used = m.tree.used level number met.0 le met.1 in
      let no : true ≡ false = sym free ∙ (ap (is_frame_free p.free) (sym met.2) ∙ used) in absurd (cc)

  -- and at one frame one walk ends
  one_walk : (frame level number level' number' : ℕ) → level ≤ 4 → level' ≤ 4 → ArrivesAt (reach p.words p.root level number) frame →
      ArrivesAt (reach p.words p.root level' number') frame → (level ≡ level') × (number ≡ number')
  one_walk frame level number level' number' le le' is is' =
      let met = arrives (reach p.words p.root level number) frame is in
      let met' = arrives (reach p.words p.root level' number') frame is' in
      m.tree.distinct level number level' number' met.0 met'.0 le le' met.1 met'.1 (met.2 ∙ sym met'.2)

  by_walk : (frame page : ℕ) → ArrivesAt (walk_of p.words p.root page) frame → ArrivesAt (reach p.words p.root 4 (page % 2 ^ 36)) frame
  by_walk frame page is = subst (λ o. ArrivesAt o frame) (walk_four p.words p.root page) is

  same_use : (frame : ℕ) (a b : FrameUse) → ServesFor p frame a → ServesFor p frame b → a ≡ b
  same_use frame Free Free here there = refl
  same_use frame Free (Table level number) here there = absurd (not_free frame level number (omega (arith, there.0)) here there.1)
  same_use frame Free (PageOf region page) here there = absurd (not_free frame 4 (page % 2 ^ 36) (omega arith) here (by_walk frame page there.2))
  same_use frame (Table level number) Free here there = absurd (not_free frame level number (omega (arith, here.0)) there here.1)
  same_use frame (Table level number) (Table level' number') here there =
      let e = one_walk frame level number level' number' (omega (arith, here.0)) (omega (arith, there.0)) here.1 there.1 in
      rw (e.0, e.1) refl
  same_use frame (Table level number) (PageOf region page) here there =
      let e = one_walk frame level number 4 (page % 2 ^ 36) (omega (arith, here.0)) (omega arith) here.1 (by_walk frame page there.2) in
      absurd (omega (arith, here.0, e.0))
  same_use frame (PageOf region page) Free here there = absurd (not_free frame 4 (page % 2 ^ 36) (omega arith) there (by_walk frame page here.2))
  same_use frame (PageOf region page) (Table level number) here there =
      let e = one_walk frame level number 4 (page % 2 ^ 36) (omega (arith, there.0)) (omega arith) there.1 (by_walk frame page here.2) in
      absurd (omega (arith, there.0, e.0))
  same_use frame (PageOf region page) (PageOf region' page') here there =
      let e = one_walk frame 4 (page % 2 ^ 36) 4 (page' % 2 ^ 36) (omega arith) (omega arith) (by_walk frame page here.2) (by_walk frame page' there.2) in
      let good = all_contained (IsRegion p.base p.pages) p.regions region m.regions here.0 in
      let good' = all_contained (IsRegion p.base p.pages) p.regions region' m.regions there.0 in
      let page_is : page ≡ page' = same_page page page' (in_region p.base p.pages page region good here.1)
      (in_region p.base p.pages page' region' good' there.1) e.1 in
      let region_is : region ≡ region' = one_region 0 p.regions (2 ^ 64) (4096 * page) region region' laid here.0 there.0 here.1
      (subst (λ q. is_within (4096 * q) region' ≡ true) (sym page_is) there.1) in
      rw (page_is, region_is) refl

  pub one_use : (frame : ℕ) → frame < frame_count p.words → HasOneUse p frame
  one_use frame less =
      let one = some_use (2 ^ 36) frame refl less in
      record {
        one = one.0;
        serves = one.1;
        no_other = λ other there. same_use frame other one.0 there one.1;
      }

-- ---- pages that leave

-- a page of a range by its four indices
by_indices : (first pages page : ℕ) → IsCanonicalRange first pages → first ≤ page → page < first + pages →
    (prefix_of first 4 ≤ page % 2 ^ 36) × (page % 2 ^ 36 < prefix_of first 4 + pages)
by_indices first pages page range above below = let half = range.one_half in (omega (arith, half, above, below), omega (arith, half, above, below))

-- if no large page is cut, all their frames are free
pub frames_free : (old new : Paged) (start pages : ℕ) → IsPageRange start pages → ArePagesGone old new start pages →
    cuts_large_page old.words old.root (start / 4096) ≡ false → AreFramesFree old new start pages
frames_free old new start pages range gone whole = λ page frame above below is.
    let met = arrives (reach old.words old.root 4 (page % 2 ^ 36)) frame (subst (λ o. ArrivesAt o frame) (walk_four old.words old.root page) is) in
    let there = by_indices (start / 4096) pages page range.1 above below in
    ap (is_frame_free new.free) (sym met.2)
    ∙ gone.gone.given (page % 2 ^ 36) met.0 (among_is (start / 4096) pages (page % 2 ^ 36) there.0 there.1) met.1
    (λ large cut first. (let no = cut_is old.words old.root (start / 4096) large cut in absurd (cc)))
