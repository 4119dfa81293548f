-- Pages are added where no region is: the machine stands for the state with the region that has them.
use Rattle.std.proofs.Common.{◌≡◌, ℕ, ◌+◌, ◌-◌, ◌*◌, ◌/◌, ◌%◌, ◌^◌, ◌<◌, ◌≤◌, ◌⊎◌, inl, inr, ◌&&◌, ◌||◌, not, nat_eq, List, ◌++◌, length, map, refl, sym, ap, ◌∙◌, subst, arith, mul_comm, Bool, true, false, IsTrue, Option, Some, None, option_map}
use Rattle.std.specs.Prelude.{◌↔◌, is_none, IsSome}
use Rattle.std.specs.List.{list_any}
use Rattle.std.proofs.lemmas.Bool.Decides.{nat_tests}
use Rattle.std.proofs.lemmas.List.Sums.{length-filter}
use native.Mathlib.Decide.{dec_lt}
use Rattle.paging_core.specs.Address.{is_canonical, IsCanonicalRange}
use Rattle.paging_core.specs.Memory.{word_at, byte_of}
use Rattle.paging_core.specs.Prefix.{Prefix, prefix_of, prefixes_of}
use Rattle.paging_core.specs.Pool.{is_frame_free}
use Rattle.paging_core.specs.Walk.{Place, reach, large_of, walk_of, reached, top, place_with}
use Rattle.paging_core.specs.PageBits.{bits_of, bits_at}
use Rattle.paging_core.specs.declared.page_table.PageBits.{PageBits}
use Rattle.paging_core.specs.Large.{slot_of}
use Rattle.paging_core.specs.Tree.{IsTree}
use Rattle.paging_core.specs.declared.page_table.Rights.{Rights}
use Rattle.paging_core.specs.Missing.{is_missing, missing_of}
use Rattle.paging_core.proofs.Prefixes.{walk_reach, small_page}
use Rattle.paging_core.proofs.Reach.{large_none}
use Rattle.paging_core.proofs.Reached.{some_not_none}
use Rattle.page_ranges.specs.RangeMapping.{IsOpenSlot}
use Rattle.machine_model.specs.declared.region.Region.{Region}
use Rattle.machine_model.specs.State.{State, is_within, total_pages, region_at}
use Rattle.machine_model.specs.Tables.{has_table, missing, with_tables, free_frames}
use Rattle.machine_model.specs.Slots.{IsSlot, slot_number, slot_prefix, has_slot, IsSlotOf}
use Rattle.machine_model.specs.Place.{all_regions}
use Rattle.machine_model.specs.Machine.{Paged, HasGotPages, Seen, Stands}
use Rattle.machine_model.proofs.Booleans.{or_false, or_left, or_right, or_cases}
use Rattle.machine_model.proofs.Regions.{page_canonical}
use Rattle.machine_model.proofs.Slots.{same_slot, slot_among, slot_all, has_slot-append, prefix_listed, listed_prefix}
use Rattle.machine_model.proofs.Tables.{filter_same, has_table-with_tables, length-with_tables, IsPrefixOf, prefixes_have, have_prefixes}

-- ---- as many tables are missing in the state as in the memory

is_met : (o : Option Place) (b : Bool) → (IsSome o ↔ IsTrue b) → not b ≡ is_none o
is_met None true both = let e : false ≡ true = both.1 refl in absurd (cc)
is_met None false both = refl
is_met (Some place) true both = refl
is_met (Some place) false both = let e : false ≡ true = both.0 refl in absurd (cc)

-- if the tables of a list are those that are met
missing_met : (words : List ℕ) (root : ℕ) (tables : List Prefix) (address pages : ℕ) → IsCanonicalRange (address / 4096) pages →
    ((level number : ℕ) → 0 < level → level < 4 → IsSome (reach words root level number) ↔ IsTrue
    (has_table tables (record { level = level; number = number }))) →
    missing tables address pages ≡ missing_of words root (address / 4096) pages
unfolding missing_of
missing_met words root tables address pages range met =
    sym (length-filter (λ p. not (has_table tables p)) (prefixes_of (address / 4096) pages))
    ∙ (ap length (filter_same (λ p. not (has_table tables p)) (is_missing words root) (prefixes_of (address / 4096) pages)
    (λ p is. let of : IsPrefixOf (address / 4096) pages p = prefixes_have (address / 4096) pages p range is in
    is_met (reach words root p.level p.number) (has_table tables p) (met p.level p.number of.below_root of.above_last)))
    ∙ length-filter (is_missing words root) (prefixes_of (address / 4096) pages))

pub missing_same : (m : Seen) (s : State) (address pages : ℕ) → Stands m s → IsCanonicalRange (address / 4096) pages →
    missing s.tables address pages ≡ missing_of m.paged.words m.paged.root (address / 4096) pages
missing_same m s address pages stands range = missing_met m.paged.words m.paged.root s.tables address pages range stands.tables_met

-- ---- what is reached stays

-- a byte that was reached is reached
pub reached_stays : (old new : List ℕ) (root address byte : ℕ) →
    ((page : ℕ) (place : Place) → walk_of old root page ≡ Some place → walk_of new root page ≡ Some place) →
    ((page : ℕ) (place : Place) (i : ℕ) → walk_of old root page ≡ Some place → i < 512 → word_at new place.frame i ≡ word_at old place.frame i) →
    reached old root address ≡ Some byte → reached new root address ≡ Some byte
reached_stays old new root address byte pages bytes is = go (walk_of old root (address / 4096)) refl is
  where
    go : (o : Option Place) → walk_of old root (address / 4096) ≡ o →
        option_map (λ place. byte_of (word_at old place.frame (address % 4096 / 8)) (address % 8)) o ≡ Some byte → reached new root address ≡ Some byte
    go None walk is = cc
    go (Some place) walk is =
        let there : walk_of new root (address / 4096) ≡ Some place = pages (address / 4096) place walk in
        let word : word_at new place.frame (address % 4096 / 8) ≡ word_at old place.frame (address % 4096 / 8) =
        bytes (address / 4096) place (address % 4096 / 8) walk (omega arith) in
        rw there (ap (λ w. Some (byte_of w (address % 8))) word ∙ is)

-- ---- the pages

-- canonical pages of one walk are one page
halves : (page : ℕ) → IsTrue (is_canonical (page * 4096)) → (page < 2 ^ 35) ⊎ ((2 ^ 52 - 2 ^ 35 ≤ page) × (page < 2 ^ 52))
halves page is = elim (or_cases (nat_eq (page * 4096 / 2 ^ 47) 0) (nat_eq (page * 4096 / 2 ^ 47) (2 ^ 17 - 1)) is) [
  | inl low ↦ (let e : page * 4096 / 2 ^ 47 ≡ 0 = grind (arith, nat_tests) in inl (omega arith))
  | inr high ↦ (let e : page * 4096 / 2 ^ 47 ≡ 2 ^ 17 - 1 = grind (arith, nat_tests) in inr (omega arith, omega arith))
]

same_page : (page other : ℕ) → IsTrue (is_canonical (4096 * page)) → IsTrue (is_canonical (other * 4096)) → page % 2 ^ 36 ≡ other % 2 ^ 36 → page ≡ other
same_page page other one two same = go (halves page (subst (λ a. IsTrue (is_canonical a)) (mul_comm 4096 page) one)) (halves other two)
  where
    go : (page < 2 ^ 35) ⊎ ((2 ^ 52 - 2 ^ 35 ≤ page) × (page < 2 ^ 52)) → (other < 2 ^ 35) ⊎ ((2 ^ 52 - 2 ^ 35 ≤ other) × (other < 2 ^ 52)) → page ≡ other
    go (inl a) (inl b) = omega arith
    go (inl a) (inr b) = omega arith
    go (inr a) (inl b) = omega arith
    go (inr a) (inr b) = omega arith

-- the bits that the walk finds, and those of a region's pages
abbrev pub found_bits : Option Place → Option PageBits
found_bits o = option_map bits_at o

abbrev pub region_bits : Option Region → Option PageBits
region_bits o = option_map (λ region. bits_of region.rights) o

-- the walk of a page beside the added ones stays
pub walk_beside : (old new : Paged) (address pages page : ℕ) (rights : Rights) → HasGotPages old new address pages rights →
    ((k : ℕ) → k < pages → page % 2 ^ 36 ≡ (address / 4096 + k) % 2 ^ 36 → ⊥) → walk_of new.words new.root page ≡ walk_of old.words old.root page
unfolding walk_of
walk_beside old new address pages page rights added apart =
    ap (λ r. reach new.words r 4 (page % 2 ^ 36)) added.root
    ∙ added.added.pages_added.others 4 (page % 2 ^ 36) (omega arith) (λ k less same. apart k less (omega arith))

-- if nothing is met, nothing is listed
pub not_had : (o : Option Place) → o ≡ None → (b : Bool) → (IsSome o ↔ IsTrue b) → b ≡ false
not_had None is false both = refl
not_had None is true both = absurd (let no : false ≡ true = both.1 refl in cc)
not_had (Some place) is b both = absurd (cc)

-- ---- what the walk meets

-- what is met as long as it was is met
some_stays : (was now : Option Place) → ((place : Place) → was ≡ Some place → now ≡ Some place) → IsSome was → IsSome now
some_stays None now stays is = absurd (let no : false ≡ true = is in cc)
some_stays (Some place) now stays is = (let e = stays place refl in rw e refl)

module _ (old new : Paged) (address pages : ℕ) (rights : Rights) (range : IsCanonicalRange (address / 4096) pages) (whole : address % 4096 ≡ 0)
    (tree : IsTree old.words old.root old.free) (added : HasGotPages old new address pages rights) where
  -- a page that was mapped is
  pub walk_stays : (page : ℕ) (place : Place) → walk_of old.words old.root page ≡ Some place → walk_of new.words old.root page ≡ Some place
  walk_stays page place is = walk_reach new.words old.root page ∙ added.added.pages_added.stayed 4 (prefix_of page 4) place
      (omega arith) (sym (walk_reach old.words old.root page) ∙ is)

  -- none of the pages was mapped, so none was in a large page
  unmapped_before : (k : ℕ) → k < pages → walk_of old.words old.root (address / 4096 + k) ≡ None
  unmapped_before k less = go (walk_of old.words old.root (address / 4096 + k)) refl
    where
      go : (o : Option Place) → walk_of old.words old.root (address / 4096 + k) ≡ o → walk_of old.words old.root (address / 4096 + k) ≡ None
      go None is = is
      go (Some place) is = absurd (
          let page = added.added.mapped k less in
          let there : walk_of new.words old.root (address / 4096 + k) ≡ Some place = walk_stays (address / 4096 + k) place is in
          let frame : place.frame ≡ page.frame = (let same : Some place ≡ Some (place_with page.frame (bits_of rights)) = sym there ∙ page.found in cc) in
          let used : is_frame_free old.free place.frame ≡ false = tree.used 4 (prefix_of (address / 4096 + k) 4) place
          (omega arith) (sym (walk_reach old.words old.root (address / 4096 + k)) ∙ is) in
          let free : is_frame_free old.free place.frame ≡ true = ap (is_frame_free old.free) frame ∙ page.was_free in
          cc)

  small_before : (k : ℕ) → k < pages → large_of old.words old.root (prefix_of (address / 4096 + k) 3) ≡ None
  small_before k less = small_page old.words old.root (address / 4096 + k) (sym (walk_reach old.words old.root (address / 4096 + k)) ∙ unmapped_before k less)

  -- a slot that was mapped by one entry is one of the pages
  new_slot : (count : ℕ) → IsOpenSlot old.words old.root (address / 4096) pages count → IsSlotOf address pages (count * 2 ^ 21)
  new_slot count slot = slot_among address pages count whole range slot.from slot.to

  -- the slot of one of the pages, if one entry maps it, is listed
  slot_listed : (k : ℕ) → k < pages → IsSome (large_of new.words old.root (prefix_of (address / 4096 + k) 3)) →
      has_table (map slot_prefix new.slots) (record { level = 3; number = prefix_of (address / 4096 + k) 3 }) ≡ true
  slot_listed k less large = go (has_table (map slot_prefix new.slots) (record { level = 3; number = prefix_of (address / 4096 + k) 3 })) refl
    where
      go : (b : Bool) → has_table (map slot_prefix new.slots) (record { level = 3; number = prefix_of (address / 4096 + k) 3 }) ≡ b →
          has_table (map slot_prefix new.slots) (record { level = 3; number = prefix_of (address / 4096 + k) 3 }) ≡ true
      go true is = is
      go false is = absurd (
          let n = prefix_of (address / 4096 + k) 3 in
          let same : large_of new.words old.root n ≡ large_of old.words old.root n = added.added.slots.small n (λ count slot below at. (
          let number : slot_number (count * 2 ^ 21) ≡ slot_of count = omega arith in
          let there : IsSome (large_of new.words old.root (slot_number (count * 2 ^ 21))) =
          subst (λ i. IsSome (large_of new.words old.root i)) (sym number) (added.added.slots.large count slot below) in
          let listed : has_slot new.slots (count * 2 ^ 21) ≡ true = (added.slots.exactly (count * 2 ^ 21) (new_slot count slot)).0 there in
          let prefix : has_table (map slot_prefix new.slots) (record { level = 3; number = n }) ≡ true =
          subst (λ i. has_table (map slot_prefix new.slots) (record { level = 3; number = i }) ≡ true) (number ∙ sym at)
          (prefix_listed new.slots (count * 2 ^ 21) listed) in
          cc)) in
          let none = small_before k less in
          some_not_none (large_of new.words old.root n) large (same ∙ none))

  -- a listed slot has no table now, and had none
  slot_bare : (slot : ℕ) → has_slot new.slots slot ≡ true → reach new.words old.root 3 (slot_number slot) ≡ None
  slot_bare slot listed = go (large_of new.words old.root (slot_number slot)) refl
      ((added.slots.exactly slot (slot_all (IsSlotOf address pages) new.slots slot added.slots.within listed)).1 listed)
    where
      go : (o : Option Place) → large_of new.words old.root (slot_number slot) ≡ o →
          IsSome (large_of new.words old.root (slot_number slot)) → reach new.words old.root 3 (slot_number slot) ≡ None
      go None is large = absurd (some_not_none (large_of new.words old.root (slot_number slot)) large is)
      go (Some place) is large = large_none new.words old.root (slot_number slot) place is

  pub slot_was_bare : (slot : ℕ) → has_slot new.slots slot ≡ true → reach old.words old.root 3 (slot_number slot) ≡ None
  slot_was_bare slot listed = go (reach old.words old.root 3 (slot_number slot)) refl
    where
      go : (o : Option Place) → reach old.words old.root 3 (slot_number slot) ≡ o → reach old.words old.root 3 (slot_number slot) ≡ None
      go None is = is
      go (Some table) is = absurd (let now = added.added.pages_added.stayed 3 (slot_number slot) table (omega arith) is in
          let bare = slot_bare slot listed in cc)

  -- a slot beside the pages stays as it was
  slot_beside : (slot : ℕ) → IsSlot slot → (IsSlotOf address pages slot → ⊥) →
      large_of new.words old.root (slot_number slot) ≡ large_of old.words old.root (slot_number slot)
  slot_beside slot is beside = added.added.slots.small (slot_number slot) (λ count among below at. (
      let number : slot_number (count * 2 ^ 21) ≡ slot_of count = omega arith in
      let of = new_slot count among in
      let same : slot ≡ count * 2 ^ 21 = same_slot slot (count * 2 ^ 21) is of.is_slot (at ∙ sym number) in
      beside (subst (IsSlotOf address pages) (sym same) of)))

  -- ---- the tables and the large pages of the state

  -- if there is a table of three indices of a page, and if its slot has none since it is a large page
  last_met : (tables : List Prefix) → ((level number : ℕ) → 0 < level → level < 4 →
      IsSome (reach old.words old.root level number) ↔ IsTrue (has_table tables
      (record { level = level; number = number }))) →
      (k : ℕ) → k < pages → has_table (prefixes_of (address / 4096) pages) (record { level = 3; number = prefix_of (address / 4096 + k) 3 }) ≡ true →
      IsSome (reach new.words old.root 3 (prefix_of (address / 4096 + k) 3)) ↔ IsTrue
      (has_table (with_tables tables address pages new.slots) (record {
        level = 3;
        number =
            prefix_of (address / 4096 + k) 3;
      }))
  last_met tables met k less is = go (has_table (map slot_prefix new.slots) (record { level = 3; number = prefix_of (address / 4096 + k) 3 })) refl
    where
      go : (b : Bool) → has_table (map slot_prefix new.slots) (record { level = 3; number = prefix_of (address / 4096 + k) 3 }) ≡ b →
          IsSome (reach new.words old.root 3 (prefix_of (address / 4096 + k) 3)) ↔ IsTrue
          (has_table (with_tables tables address pages new.slots) (record {
            level = 3;
            number =
                prefix_of (address / 4096 + k) 3;
          }))
      go true large =
          let n = prefix_of (address / 4096 + k) 3 in
          let slot = listed_prefix new.slots (record { level = 3; number = n }) large in
          let number : n ≡ slot_number slot.0 = ap (λ p. p.number) slot.2 in
          let now : reach new.words old.root 3 n ≡ None = ap (reach new.words old.root 3) number ∙ slot_bare slot.0 slot.1 in
          let was : reach old.words old.root 3 n ≡ None = ap (reach old.words old.root 3) number ∙ slot_was_bare slot.0 slot.1 in
          let had : has_table tables (record { level = 3; number = n }) ≡ false =
          not_had (reach old.words old.root 3 n) was (has_table tables (record { level = 3; number = n }))
          (met 3 n (omega arith) (omega arith)) in
          let has : has_table (with_tables tables address pages new.slots) (record { level = 3; number = n }) ≡ false =
          has_table-with_tables tables address pages new.slots (record { level = 3; number = n }) ∙ rw (had, is, large) refl in
          ((λ x. absurd (some_not_none (reach new.words old.root 3 n) x now)), (λ x. absurd (let no : false ≡ true = sym has ∙ x in cc)))
      go false small =
          let n = prefix_of (address / 4096 + k) 3 in
          let has : has_table (with_tables tables address pages new.slots) (record { level = 3; number = n }) ≡ true =
          has_table-with_tables tables address pages new.slots (record { level = 3; number = n })
          ∙ or_right (has_table tables (record { level = 3; number = n }))
          (has_table (prefixes_of (address / 4096) pages) (record { level = 3; number = n }) && not
          (has_table (map slot_prefix new.slots) (record { level = 3; number = n }))) (rw (is, small) refl) in
          elim (added.added.last_tables k less) [
            | inl large ↦ absurd (let listed = slot_listed k less large in cc)
            | inr table ↦ (let e = table.1 in ((λ _. has), (λ _. rw e refl)))
          ]

  -- a table of the pages is met; elsewhere nothing is changed
  pub tables_now : (tables : List Prefix) → ((level number : ℕ) → 0 < level → level < 4 →
      IsSome (reach old.words old.root level number) ↔ IsTrue (has_table tables
      (record { level = level; number = number }))) →
      (level number : ℕ) → 0 < level → level < 4 →
      IsSome (reach new.words old.root level number) ↔ IsTrue (has_table (with_tables tables address pages new.slots)
      (record { level = level; number = number }))
  tables_now tables met level number some less = go (has_table (prefixes_of (address / 4096) pages) (record { level = level; number = number })) refl
    where
      abbreviated : (b : Bool) → has_table (prefixes_of (address / 4096) pages) (record { level = level; number = number }) ≡ b →
          has_table (with_tables tables address pages new.slots) (record { level = level; number = number })
          ≡ (has_table tables (record { level = level; number = number }) ||
          (b && not (has_table (map slot_prefix new.slots) (record { level = level; number = number }))))
      abbreviated b is = has_table-with_tables tables address pages new.slots (record { level = level; number = number })
          ∙ ap (λ x. has_table tables (record { level = level; number = number }) ||
          (x && not (has_table (map slot_prefix new.slots) (record { level = level; number = number })))) is

      -- a prefix of one or two indices is no slot's
      high : (level < 3) → (b : Bool) → has_table (map slot_prefix new.slots)
          (record { level = level; number = number }) ≡ b → has_table (map slot_prefix new.slots)
          (record { level = level; number = number }) ≡ false
      high up false is = is
      high up true is = absurd (
          let slot = listed_prefix new.slots (record { level = level; number = number }) is in
          let three : level ≡ 3 = ap (λ p. p.level) slot.2 in
          omega (arith, up, three))

      go : (b : Bool) → has_table (prefixes_of (address / 4096) pages) (record { level = level; number = number }) ≡ b →
          IsSome (reach new.words old.root level number) ↔ IsTrue (has_table (with_tables tables address pages new.slots)
          (record { level = level; number = number }))
      go true is =
          let of : IsPrefixOf (address / 4096) pages (record { level = level; number = number }) =
          prefixes_have (address / 4096) pages (record { level = level; number = number }) range is in
          elim (dec_lt level 3) [
            | yes up ↦ (
                let table = added.added.tables level of.page up of.in_range in
                let now : reach new.words old.root level number ≡ Some (top table.0) = ap (reach new.words old.root level) of.is ∙ table.1 in
                let none = high up (has_table (map slot_prefix new.slots) (record { level = level; number = number })) refl in
                let has : has_table (with_tables tables address pages new.slots) (record { level = level; number = number }) ≡ true =
                abbreviated true is ∙ or_right (has_table tables (record { level = level; number = number }))
                (true && not (has_table (map slot_prefix new.slots) (record { level = level; number = number })))
                (ap not none) in
                ((λ _. has), (λ _. rw now refl)))
            | no last ↦ (
                let three : level ≡ 3 = omega (arith, last, less) in
                let n = of.is in
                let at_three : number ≡ prefix_of (address / 4096 + of.page) 3 = n ∙ ap (prefix_of (address / 4096 + of.page)) three in
                let there : has_table (prefixes_of (address / 4096) pages) (record { level = 3; number = prefix_of (address / 4096 + of.page) 3 }) ≡ true =
                sym (λ i. has_table (prefixes_of (address / 4096) pages) (record { level = three i; number = at_three i })) ∙ is in
                let at : IsSome (reach new.words old.root 3 (prefix_of (address / 4096 + of.page) 3)) ↔ IsTrue
                (has_table (with_tables tables address pages new.slots) (record {
                  level = 3;
                  number =
                      prefix_of (address / 4096 + of.page) 3;
                })) =
                last_met tables met of.page of.in_range there in
                let back : (l i : ℕ) → 3 ≡ l → prefix_of (address / 4096 + of.page) 3 ≡ i →
                IsSome (reach new.words old.root l i) ↔ IsTrue (has_table (with_tables tables address pages new.slots) (record { level = l; number = i })) =
                λ l i e f. subst (λ q. IsSome (reach new.words old.root l q) ↔ IsTrue
                (has_table (with_tables tables address pages new.slots) (record { level = l; number = q }))) f
                (subst (λ q. IsSome (reach new.words old.root q (prefix_of (address / 4096 + of.page) 3)) ↔ IsTrue
                (has_table (with_tables tables address pages new.slots) (record {
                  level = q;
                  number =
                      prefix_of (address / 4096 + of.page) 3;
                }))) e at) in
                back level number (sym three) (sym at_three))
          ]
      go false is =
          let apart : (k : ℕ) → k < pages → number ≡ prefix_of (address / 4096 + k) level → ⊥ = λ k inside same. (
          let yes : has_table (prefixes_of (address / 4096) pages) (record { level = level; number = number }) ≡ true =
          have_prefixes (address / 4096) pages (record { level = level; number = number }) range
          (record { below_root = some; above_last = less; page = k; in_range = inside; is = same }) in
          cc) in
          let now : reach new.words old.root level number ≡ reach old.words old.root level number =
          added.added.pages_added.others level number (omega arith) apart in
          let has : has_table (with_tables tables address pages new.slots)
          (record { level = level; number = number }) ≡ has_table tables (record { level = level; number = number }) =
          abbreviated false is ∙ or_false (has_table tables (record { level = level; number = number })) in
          let both = met level number some less in
          ((λ x. has ∙ both.0 (subst IsSome now x)), (λ x. subst IsSome (sym now) (both.1 (sym has ∙ x))))

  -- the slots of the pages that are listed are mapped by one entry now, and those that were are still
  pub larges_now : (large : List ℕ) → ((slot : ℕ) → IsSlot slot → IsSome (large_of old.words old.root (slot_number slot)) ↔ IsTrue (has_slot large slot)) →
      (slot : ℕ) → IsSlot slot → IsSome (large_of new.words old.root (slot_number slot)) ↔ IsTrue (has_slot (large ++ new.slots) slot)
  larges_now large met slot is = elim (dec_lt slot address) [
    | yes before ↦ outside (λ of. let from = of.from in omega (arith, from, before))
    | no above ↦ elim (dec_lt (address + 4096 * pages) (slot + 2 ^ 21)) [
      | yes behind ↦ outside (λ of. let within = of.within in omega (arith, within, behind))
      | no below ↦ inside (record { is_slot = is; from = omega (arith, above); within = omega (arith, below) })
    ]
  ]
    where
      inside : IsSlotOf address pages slot → IsSome (large_of new.words old.root (slot_number slot)) ↔ IsTrue (has_slot (large ++ new.slots) slot)
      inside of = (
        (λ x. has_slot-append large new.slots slot ∙ or_right (has_slot large slot) (has_slot new.slots slot) ((added.slots.exactly slot of).0 x)),
        (λ x. elim (or_cases (has_slot large slot) (has_slot new.slots slot) (sym (has_slot-append large new.slots slot) ∙ x)) [
          | inl was ↦ some_stays (large_of old.words old.root (slot_number slot))
              (large_of new.words old.root (slot_number slot)) (added.added.pages_added.large_stayed (slot_number slot))
              ((met slot is).1 was)
          | inr listed ↦ (added.slots.exactly slot of).1 listed
        ]),
      )

      outside : (IsSlotOf address pages slot → ⊥) → IsSome (large_of new.words old.root (slot_number slot)) ↔ IsTrue (has_slot (large ++ new.slots) slot)
      outside beside =
          let same = slot_beside slot is beside in (
            (λ x. has_slot-append large new.slots slot ∙ or_left (has_slot large slot) (has_slot new.slots slot) ((met slot is).0 (subst IsSome same x))),
            (λ x. elim (or_cases (has_slot large slot) (has_slot new.slots slot) (sym (has_slot-append large new.slots slot) ∙ x)) [
              | inl was ↦ subst IsSome (sym same) ((met slot is).1 was)
              | inr listed ↦ absurd (beside (slot_all (IsSlotOf address pages) new.slots slot added.slots.within listed))
            ]),
          )

-- ---- the machine stands for the state

-- the state with these regions, with the tables of some pages, and with slots that have none
abbrev pub with_added : State → List Region → List Region → ℕ → ℕ → List ℕ → State
with_added s heap users address pages slots = record s {
  heap = heap;
  users = users;
  tables =
      with_tables s.tables address pages slots;
  large = s.large ++ slots;
}

module _ (m : Seen) (new : Paged) (s : State) (address pages : ℕ) (rights : Rights) (heap users : List Region) (stands : Stands m s)
    (range : IsCanonicalRange (address / 4096) pages) (whole : address % 4096 ≡ 0)
    (added : HasGotPages m.paged new address pages rights)
    (here : (at : ℕ) → address ≤ at → at < address + 4096 * pages → region_bits
    (region_at (with_added s heap users address pages new.slots) at) ≡ Some (bits_of rights))
    (elsewhere : (at : ℕ) → (at < address) ⊎ (address + 4096 * pages ≤ at) →
    region_at (with_added s heap users address pages new.slots) at ≡ region_at s at) where
  -- a page of the range: the new region holds it
  in_range : (k : ℕ) → k < pages → found_bits (walk_of new.words new.root (address / 4096 + k)) ≡ region_bits
      (region_at (with_added s heap users address pages new.slots) (4096 * (address / 4096 + k)))
  in_range k less =
      let page = added.added.mapped k less in
      let w = whole in
      ap found_bits (ap (λ r. walk_of new.words r (address / 4096 + k)) added.root ∙ page.found)
      ∙ sym (here (4096 * (address / 4096 + k)) (omega arith) (omega arith))

  -- another page: nothing is changed
  out_of_range : (page : ℕ) → IsTrue (is_canonical (4096 * page)) → (page < address / 4096) ⊎ (address / 4096 + pages ≤ page) →
      found_bits (walk_of new.words new.root page) ≡ region_bits (region_at (with_added s heap users address pages new.slots) (4096 * page))
  out_of_range page canonical beside =
      let w = whole in
      let apart : (k : ℕ) → k < pages → page % 2 ^ 36 ≡ (address / 4096 + k) % 2 ^ 36 → ⊥ = λ k less same. (
      let e : page ≡ address / 4096 + k = same_page page (address / 4096 + k) canonical (page_canonical (address / 4096) pages k range less) same in
      elim beside [ inl before ↦ omega arith | inr behind ↦ omega arith ]) in
      let out : (4096 * page < address) ⊎ (address + 4096 * pages ≤ 4096 * page) = elim beside [
        | inl before ↦ inl (omega arith)
        | inr behind ↦ inr (omega arith)
      ] in
      ap found_bits (walk_beside m.paged new address pages page rights added apart) ∙ (stands.pages_found page canonical
      ∙ sym (ap region_bits (elsewhere (4096 * page) out)))

  pages_found : (page : ℕ) → IsTrue (is_canonical (4096 * page)) →
      found_bits (walk_of new.words new.root page) ≡ region_bits (region_at (with_added s heap users address pages new.slots) (4096 * page))
  pages_found page canonical = elim (dec_lt page (address / 4096)) [
    | yes before ↦ out_of_range page canonical (inl before)
    | no above ↦ elim (dec_lt page (address / 4096 + pages)) [
      | yes inside ↦ (let e : address / 4096 + (page - address / 4096) ≡ page = omega arith in
          subst (λ p. found_bits (walk_of new.words new.root p) ≡ region_bits
          (region_at (with_added s heap users address pages new.slots) (4096 * p))) e
          (in_range (page - address / 4096) (omega arith)))
      | no behind ↦ out_of_range page canonical (inr (omega arith))
    ]
  ]

  tables_met : (level number : ℕ) → 0 < level → level < 4 →
      IsSome (reach new.words m.paged.root level number) ↔ IsTrue (has_table (with_tables s.tables address pages new.slots)
      (record { level = level; number = number }))
  tables_met = tables_now m.paged new address pages rights range whole stands.tree added s.tables stands.tables_met

  pub stays : (address byte : ℕ) → reached m.paged.words m.paged.root address ≡ Some byte → reached new.words new.root address ≡ Some byte
  stays at byte is = subst (λ r. reached new.words r at ≡ Some byte) (sym added.root)
      (reached_stays m.paged.words new.words m.paged.root at byte (walk_stays m.paged new address pages rights range whole
      stands.tree added) added.added.pages_added.bytes_stay is)

  pub stands_added : pages + missing s.tables address pages ≤ free_frames s →
      total_pages heap + total_pages users ≡ pages + (total_pages s.heap + total_pages s.users) →
      new.regions ≡ all_regions (with_added s heap users address pages new.slots) →
      ((at : ℕ) → list_any (is_within at) users ≡ true → reached new.words new.root at ≡ Some 0) →
      Stands (record m { paged = new }) (with_added s heap users address pages new.slots)
  stands_added few total regions zeros =
      let lacks : missing s.tables address pages ≡ missing_of m.paged.words m.paged.root (address / 4096) pages = missing_same m s address pages stands range in
      let count = added.added.count in
      let was = stands.free_frames in
      let lack : missing (with_tables s.tables address pages new.slots) address pages ≡ missing_of new.words m.paged.root (address / 4096) pages =
      missing_met new.words m.paged.root (with_tables s.tables address pages new.slots) address pages range tables_met in
      let tables = length-with_tables s.tables address pages new.slots in
      record {
        root = added.root ∙ stands.root;
        tree = subst (λ r. IsTree new.words r new.free) (sym added.root) added.added.pages_added.tree;
        free_frames = omega arith;
        table_count = (let e = stands.table_count in let more = added.tables in omega arith);
        pages_found = pages_found;
        tables_met = λ level number some less. subst (λ r. IsSome (reach new.words r level number) ↔ IsTrue
            (has_table (with_tables s.tables address pages new.slots) (record { level = level; number = number })))
            (sym added.root) (tables_met level number some less);
        larges_met = λ slot is. subst (λ r. IsSome (large_of new.words r (slot_number slot)) ↔ IsTrue (has_slot (s.large ++ new.slots) slot)) (sym added.root)
            (larges_now m.paged new address pages rights range whole stands.tree added s.large stands.larges_met slot is);
        regions = regions;
        blocks = stands.blocks;
        base = added.base ∙ stands.base;
        pages = added.pages_is ∙ stands.pages;
        granularity = stands.granularity;
        frames = ap (λ n. n / 512) added.added.pages_added.size ∙ stands.frames;
        bytes = record { known = λ number k byte block is cell. stays (block.address + k) byte (stands.bytes.known number k byte block is cell) };
        zeros = zeros;
      }
