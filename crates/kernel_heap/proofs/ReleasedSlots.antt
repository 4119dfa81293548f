-- Runs of the heap were given back: which slots one entry maps then, and which has got a table.
use Rattle.std.proofs.Common.{◌≡◌, ℕ, ◌+◌, ◌-◌, ◌*◌, ◌/◌, ◌%◌, ◌^◌, ◌<◌, ◌≤◌, inl, inr, ◌&&◌, ◌||◌, not, nat_eq, List, [], ◌∷◌, refl, sym, ap, ◌∙◌, subst, arith, Bool, true, false, IsTrue, Option, Some, None}
use Rattle.std.specs.Prelude.{IsSome}
use Rattle.std.specs.List.{list_any, AllByRecursion}
use Rattle.std.proofs.lemmas.Bool.{cases_lt}
use Rattle.std.proofs.lemmas.Bool.Decides.{nat_tests}
use Rattle.paging_core.specs.Address.{is_canonical}
use Rattle.paging_core.specs.Prefix.{prefix_of}
use Rattle.paging_core.specs.Walk.{Place, reach, large_of, walk_of}
use Rattle.paging_core.proofs.Prefixes.{walk_reach}
use Rattle.paging_core.proofs.Reach.{large_none, table_none, either_way}
use Rattle.machine_model.specs.declared.region.Region.{Region}
use Rattle.machine_model.specs.State.{end_of_region, is_within}
use Rattle.machine_model.specs.Place.{meets, meets_any}
use Rattle.machine_model.specs.Slots.{IsSlot, slot_number, has_whole, is_whole_in, is_part_in}
use Rattle.machine_model.specs.Machine.{Paged}
use Rattle.machine_model.proofs.Booleans.{or_left, or_right, or_cases}
use Rattle.machine_model.proofs.Regions.{within}
use Rattle.machine_model.proofs.Settled.{AreSettled}
use Rattle.machine_model.proofs.Slots.{same_slot, whole_bounds}
use Rattle.mapped_regions.specs.Regions.{kind_at}
use Rattle.mapped_regions.specs.Mapped.{IsRegion, IsMapped}
use Rattle.mapped_regions.proofs.Mapped.{some_mapped}
use Rattle.paged_systems.proofs.HeapRegions.{kind_some}
use Rattle.kernel_heap.proofs.ShortenedRegions.{AreShortened, some_not_none}

-- a region that has a slot whole has each of its addresses
whole_within : (slot at : ℕ) (regions : List Region) → slot ≤ at → at < slot + 2 ^ 21 → is_whole_in regions slot ≡ true → list_any (is_within at) regions ≡ true
whole_within slot at [] from to is = absurd (let no : false ≡ true = is in cc)
whole_within slot at (region ∷ rest) from to is = elim (or_cases (has_whole slot region) (is_whole_in rest slot) is) [
  | inl here ↦ (let bounds = whole_bounds slot region here in or_left (is_within at region) (list_any (is_within at) rest)
      (within at region (omega (arith, bounds.0, from)) (omega (arith, bounds.1, to))))
  | inr later ↦ or_right (is_within at region) (list_any (is_within at) rest) (whole_within slot at rest from to later)
]

-- regions that meet a slot have the first address of one of its pages
part_page : (base window slot : ℕ) (regions : List Region) → AllByRecursion (IsRegion base window) regions →
    slot % 2 ^ 21 ≡ 0 → meets_any slot 512 regions ≡ true →
    (k : ℕ) × (k < 512) × (list_any (is_within (slot + 4096 * k)) regions ≡ true)
part_page base window slot [] all aligned met = absurd (let no : false ≡ true = met in cc)
part_page base window slot (region ∷ rest) all aligned met = elim (or_cases (meets slot 512 region) (meets_any slot 512 rest) met) [
  | inl here ↦ (
      let whole = all.0.range.0 in
      let some = all.0.range.1.some in
      let below : slot < end_of_region region = grind (arith, nat_tests) in
      let above : region.start < slot + 4096 * 512 = grind (arith, nat_tests) in
      elim (cases_lt slot region.start) [
        | inl before ↦ (
          (region.start - slot) / 4096,
          omega arith,
          or_left (is_within (slot + 4096 * ((region.start - slot) / 4096)) region) (list_any (is_within (slot + 4096 * ((region.start - slot) / 4096))) rest)
              (within (slot + 4096 * ((region.start - slot) / 4096)) region (omega arith) (omega arith)),
        )
        | inr from ↦ (
          0,
          omega arith,
          or_left (is_within (slot + 4096 * 0) region)
              (list_any (is_within (slot + 4096 * 0)) rest) (within (slot + 4096 * 0) region (omega arith) (omega arith)),
        )
      ])
  | inr later ↦ (let page = part_page base window slot rest all.1 aligned later in (
    page.0,
    page.1,
    or_right (is_within (slot + 4096 * page.0) region) (list_any (is_within (slot + 4096 * page.0)) rest)
        page.2,
  ))
]

-- a page of a slot: its address is canonical, and its four indices are the slot's with its place there
page_canonical : (slot k : ℕ) → IsSlot slot → k < 512 → IsTrue (is_canonical ((slot / 4096 + k) * 4096))
page_canonical slot k is less =
    let aligned = is.aligned in
    let same : (slot / 4096 + k) * 4096 / 2 ^ 47 ≡ slot / 2 ^ 47 = omega arith in
    ap (λ q. nat_eq q 0 || nat_eq q (2 ^ 17 - 1)) same ∙ is.canonical

page_index : (slot k : ℕ) → slot % 2 ^ 21 ≡ 0 → k < 512 → prefix_of (slot / 4096 + k) 4 ≡ 512 * slot_number slot + k
page_index slot k aligned less = omega arith

page_address : (slot k : ℕ) → slot % 2 ^ 21 ≡ 0 → 4096 * (slot / 4096 + k) ≡ slot + 4096 * k
page_address slot k aligned = omega arith

index_slot : (n k : ℕ) → k < 512 → (512 * n + k) / 512 ≡ n
index_slot n k less = omega arith

module _ (old new : Paged) (slot : Option ℕ) (mapped : IsMapped new) (short : AreShortened old new slot) where
  -- a page of a region is mapped
  page_mapped : (one k : ℕ) → IsSlot one → k < 512 → list_any (is_within (one + 4096 * k)) new.regions ≡ true →
      IsSome (reach new.words new.root 4 (512 * slot_number one + k))
  page_mapped one k is less there =
      let kind : IsSome (kind_at new.regions (4096 * (one / 4096 + k))) =
      subst (λ (a : ℕ). IsSome (kind_at new.regions a)) (sym (page_address one k is.aligned))
      (kind_some (one + 4096 * k) new.regions there) in
      let walk = some_mapped (walk_of new.words new.root (one / 4096 + k)) (kind_at new.regions (4096 * (one / 4096 + k)))
      (mapped.found (one / 4096 + k) (page_canonical one k is less)) kind in
      subst (λ n. IsSome (reach new.words new.root 4 n)) (page_index one k is.aligned less) (subst IsSome (walk_reach new.words new.root (one / 4096 + k)) walk)

  -- a large page of which a region has all stays
  stays_large : (one : ℕ) → IsSlot one → IsSome (large_of old.words old.root (slot_number one)) →
      IsTrue (is_whole_in new.regions one) → IsSome (large_of new.words new.root (slot_number one))
  stays_large one is was whole = go (large_of new.words new.root (slot_number one)) refl
    where
      go : (o : Option Place) → large_of new.words new.root (slot_number one) ≡ o → IsSome (large_of new.words new.root (slot_number one))
      go (Some large) there = rw there refl
      go None none = absurd (
          let page = short.large_gone (slot_number one) (omega arith) was none in
          let there = page_mapped one page.0 is page.1 (whole_within one (one + 4096 * page.0) new.regions (omega arith)
          (let less = page.1 in omega arith) whole) in
          some_not_none (reach new.words new.root 4 (512 * slot_number one + page.0)) there page.2)

  -- a slot of which a part is left, and not all, has a table
  part_has_table : (one : ℕ) → IsSlot one → is_whole_in new.regions one ≡ false → meets_any one 512 new.regions ≡ true →
      IsSome (reach new.words new.root 3 (slot_number one))
  part_has_table one is not_whole met = by (reach new.words new.root 4 (512 * slot_number one + page.0)) refl there
    where
      page : (k : ℕ) × (k < 512) × (list_any (is_within (one + 4096 * k)) new.regions ≡ true)
      page = part_page new.base new.pages one new.regions mapped.regions is.aligned met

      there : IsSome (reach new.words new.root 4 (512 * slot_number one + page.0))
      there = page_mapped one page.0 is page.1 page.2

      by : (o : Option Place) → reach new.words new.root 4 (512 * slot_number one + page.0) ≡ o → IsSome o →
          IsSome (reach new.words new.root 3 (slot_number one))
      by None none some = absurd (cc)
      by (Some place) found some = elim (either_way new.words new.root (512 * slot_number one + page.0) place found) [
        | inl entry ↦ (
            let at : reach new.words new.root 3 (slot_number one) ≡ Some entry.table =
            ap (reach new.words new.root 3) (sym (index_slot (slot_number one) page.0 page.1)) ∙ entry.met in
            rw at refl)
        | inr large ↦ absurd (
            let at : large_of new.words new.root (slot_number one) ≡ Some large.large =
            ap (large_of new.words new.root) (sym (index_slot (slot_number one) page.0 page.1)) ∙ large.met in
            let whole : is_whole_in new.regions one ≡ true = mapped.larges one is (rw at refl) in
            cc)
      ]

  both_parts : (a b : Bool) → (not a && b) ≡ true → (a ≡ false) × (b ≡ true)
  both_parts false true e = (refl, refl)
  both_parts false false e = absurd (let no : false ≡ true = e in cc)
  both_parts true b e = absurd (let no : false ≡ true = e in cc)

  -- so it is the one that was cut
  part_is_cut : (one : ℕ) → IsSlot one → IsSome (large_of old.words old.root (slot_number one)) → IsTrue (is_part_in new.regions one) → slot ≡ Some one
  part_is_cut one is was part = by slot refl
    where
      parts : (is_whole_in new.regions one ≡ false) × (meets_any one 512 new.regions ≡ true)
      parts = both_parts (is_whole_in new.regions one) (meets_any one 512 new.regions) part

      has : IsSome (reach new.words new.root 3 (slot_number one))
      has = part_has_table one is parts.0 parts.1

      had_none : (o : Option Place) → large_of old.words old.root (slot_number one) ≡ o → IsSome o → reach old.words old.root 3 (slot_number one) ≡ None
      had_none None e some = absurd (cc)
      had_none (Some large) e some = large_none old.words old.root (slot_number one) large e

      never : reach new.words new.root 3 (slot_number one) ≡ reach old.words old.root 3 (slot_number one) → ⊥
      never same = some_not_none (reach new.words new.root 3 (slot_number one)) has (same ∙ had_none (large_of old.words old.root (slot_number one)) refl was)

      by : (o : Option ℕ) → slot ≡ o → slot ≡ Some one
      by None none = absurd (never (short.walks 3 (slot_number one) (omega arith) (λ other cut three at. (let no : None ≡ Some other = sym none ∙ cut in cc))))
      by (Some other) cut = go (nat_eq one other) refl
        where
          go : (b : Bool) → nat_eq one other ≡ b → slot ≡ Some one
          go true same = cut ∙ ap Some (let e : other ≡ one = grind (arith, nat_tests) in e)
          go false differ = absurd (never (short.walks 3 (slot_number one) (omega arith)
              (λ third cut' three at. (
              let both : Some other ≡ Some third = sym cut ∙ cut' in
              let e : other ≡ third = cc in
              let one_is : one ≡ third = same_slot one third is (short.was_large third cut').0 at in
              let yes : nat_eq one other ≡ true = grind (arith, nat_tests) in
              cc))))

  pub are_settled : ((one : ℕ) → slot ≡ Some one → IsTrue (meets_any one 512 new.regions)) → AreSettled old.words new.words old.root new.root new.regions slot
  are_settled part_left = record {
    only = λ one is now. short.larges (slot_number one) (omega arith) now;
    whole = mapped.larges;
    kept = stays_large;
    part = part_is_cut;
    cut_is = λ one cut. (let was = short.was_large one cut in (was.0, was.1, cut_part one cut (is_whole_in new.regions one) refl));
    tables = short.walks;
    table = short.table;
  }
    where
      -- it has a table, so no region has all of it
      cut_part : (one : ℕ) → slot ≡ Some one → (b : Bool) → is_whole_in new.regions one ≡ b → is_part_in new.regions one ≡ true
      cut_part one cut false e = let met = part_left one cut in rw (e, met) refl
      cut_part one cut true e = absurd (
          let was = short.was_large one cut in
          no_both (reach new.words new.root 3 (slot_number one)) refl (short.table one cut) (stays_large one was.0 was.1 e))
        where
          no_both : (o : Option Place) → reach new.words new.root 3 (slot_number one) ≡ o → IsSome o →
              IsSome (large_of new.words new.root (slot_number one)) → ⊥
          no_both None e some now = absurd (cc)
          no_both (Some at) e some now = some_not_none (large_of new.words new.root (slot_number one)) now
              (table_none new.words new.root (slot_number one) at e)
