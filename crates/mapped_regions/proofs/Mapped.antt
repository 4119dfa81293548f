-- What is kept is kept when a region joins and when one leaves.
use Rattle.std.proofs.Common.{◌≡◌, ◌≢◌, ℕ, ◌+◌, ◌-◌, ◌*◌, ◌/◌, ◌%◌, ◌^◌, ◌<◌, ◌≤◌, ◌||◌, ◌&&◌, ◌⊎◌, inl, inr, nat_le, nat_lt, nat_eq, List, [], ◌∷◌, length, set, replicate, refl, sym, ap, ◌∙◌, subst, arith, Bool, true, false, IsTrue, Option, Some, None, option_map, IsSome}
use Rattle.std.specs.List.{list_any, AllByRecursion}
use Rattle.std.proofs.lemmas.Bool.{cases_lt}
use Rattle.std.proofs.lemmas.Bool.Decides.{nat_tests}
use Rattle.std.proofs.lemmas.List.{get_or-replicate, get_or-set_other}
use Rattle.paging_core.specs.Address.{is_canonical}
use Rattle.paging_core.specs.Memory.{frame_count}
use Rattle.paging_core.specs.Area.{Whole}
use Rattle.paging_core.specs.Prefix.{prefix_of}
use Rattle.paging_core.specs.Pool.{is_frame_free, FreeBelow}
use Rattle.paging_core.specs.Walk.{Place, reach, large_of, walk_of, reached, place_with, page_in, top}
use Rattle.paging_core.specs.PageBits.{bits_of, bits_at}
use Rattle.paging_core.specs.Tree.{IsTree, IsUnmet}
use Rattle.paging_core.specs.PageChanges.{among}
use Rattle.paging_core.proofs.Reach.{reach_in, reach_zero, table_none}
use Rattle.paging_core.proofs.Reached.{some_not_none}
use Rattle.paging_core.specs.declared.page_table.Rights.{Rights}
use Rattle.page_ranges.specs.RangeUnmapping.{AreUnmapped, IsCutPage, cuts_large_page, cut_tables}
use Rattle.machine_model.specs.declared.region.Region.{Region}
use Rattle.machine_model.specs.State.{is_within, total_pages}
use Rattle.machine_model.specs.Place.{meets_any}
use Rattle.machine_model.specs.Slots.{IsSlot, slot_number, has_whole, is_whole_in}
use Rattle.machine_model.specs.Machine.{Paged, ArePagesGone}
use Rattle.machine_model.proofs.Regions.{within, within_bounds, all_with, pages_with, none_within, find_none, listed, any_with, page_canonical}
use Rattle.machine_model.proofs.Slots.{same_slot, page_slot, page_number, slot_among, whole_true}
use Rattle.mapped_regions.specs.Regions.{kind_at, is_at, AreHeld, IsPutIn, AreTakenOut}
use Rattle.mapped_regions.specs.Mapped.{IsPageRange, IsRegion, IsMapped, CanMap, IsRegionJoined}

-- ---- regions of a list

-- no region has an address of pages that meet none
pub kind_none : (start pages at : ℕ) (list : List Region) → meets_any start pages list ≡ false → start ≤ at → at < start + 4096 * pages → kind_at list at ≡ None
kind_none start pages at list clear above below = ap (option_map (λ (r : Region). (r.heap, r.rights)))
    (find_none (is_within at) list (none_within start pages at list above below clear))

-- the region of a number of pages at an address has each of their addresses
pub kind_there : (start pages at : ℕ) (list : List Region) → list_any (is_at start pages) list ≡ true → start ≤ at →
    at < start + 4096 * pages → IsSome (kind_at list at)
kind_there start pages at [] there above below = let no : false ≡ true = there in absurd (cc)
kind_there start pages at (r ∷ rs) there above below = go (is_within at r) (is_at start pages r) refl refl
    (λ t. kind_there start pages at rs t above below) where
      same : is_at start pages r ≡ true → is_within at r ≡ true
      same is = grind (arith, nat_tests)

      go : (w t : Bool) → is_within at r ≡ w → is_at start pages r ≡ t → (list_any (is_at start pages) rs ≡ true →
          IsSome (kind_at rs at)) → IsSome (kind_at (r ∷ rs) at)
      go true t is here rest = rw is refl
      go false true is here rest = let no = same here in absurd (cc)
      go false false is here rest = rw is (rest (rw here at there))

-- ---- pages of a range

pub range_canonical : (start pages : ℕ) → IsPageRange start pages → IsTrue (is_canonical start)
range_canonical start pages range =
    let same : start / 2 ^ 47 ≡ start / 4096 * 4096 / 2 ^ 47 = (let whole = range.0 in omega arith) in
    ap (λ q. nat_eq q 0 || nat_eq q (2 ^ 17 - 1)) same ∙ range.1.canonical

none_mapped : (o : Option Place) → option_map bits_at o ≡ None → o ≡ None
none_mapped None is = refl
none_mapped (Some place) is = absurd (cc)

pub some_mapped : (o : Option Place) (k : Option (Bool × Rights)) → option_map bits_at o ≡ option_map (λ kind. bits_of kind.1) k → IsSome k → IsSome o
some_mapped (Some place) k is some = refl
some_mapped None (Some kind) is some = absurd (cc)
some_mapped None None is some = absurd (cc)

-- pages that meet no region are not mapped, and those of a region are
pub unmapped : (p : Paged) (start pages k : ℕ) → IsMapped p → CanMap p start pages → k < pages → walk_of p.words p.root (start / 4096 + k) ≡ None
unmapped p start pages k m can less =
    let whole = can.range.0 in
    none_mapped (walk_of p.words p.root (start / 4096 + k)) (m.found (start / 4096 + k) (page_canonical (start / 4096) pages k can.range.1 less)
    ∙ ap (option_map (λ (kind : Bool × Rights). bits_of kind.1)) (kind_none start pages (4096 * (start / 4096 + k)) p.regions can.clear (omega arith) (omega arith)))

pub mapped : (p : Paged) (start pages k : ℕ) → IsMapped p → IsPageRange start pages →
    list_any (is_at start pages) p.regions ≡ true → k < pages → IsSome (walk_of p.words p.root (start / 4096 + k))
mapped p start pages k m range there less =
    let whole = range.0 in
    some_mapped (walk_of p.words p.root (start / 4096 + k)) (kind_at p.regions (4096 * (start / 4096 + k)))
    (m.found (start / 4096 + k) (page_canonical (start / 4096) pages k range.1 less))
    (kind_there start pages (4096 * (start / 4096 + k)) p.regions there (omega arith) (omega arith))

-- and so are those of which regions have each address
kind_held : (at : ℕ) (list : List Region) → list_any (is_within at) list ≡ true → IsSome (kind_at list at)
kind_held at [] held = let no : false ≡ true = held in absurd (cc)
kind_held at (r ∷ rs) held = go (is_within at r) refl (kind_held at rs) where
  go : (w : Bool) → is_within at r ≡ w → (list_any (is_within at) rs ≡ true → IsSome (kind_at rs at)) → IsSome (kind_at (r ∷ rs) at)
  go true is rest = rw is refl
  go false is rest = rw is (rest (rw is at held))

pub held_mapped : (p : Paged) (start pages k : ℕ) → IsMapped p → IsPageRange start pages →
    AreHeld start (start + 4096 * pages) p.regions → k < pages → IsSome (walk_of p.words p.root (start / 4096 + k))
held_mapped p start pages k m range held less =
    let whole = range.0 in
    some_mapped (walk_of p.words p.root (start / 4096 + k)) (kind_at p.regions (4096 * (start / 4096 + k)))
    (m.found (start / 4096 + k) (page_canonical (start / 4096) pages k range.1 less))
    (kind_held (4096 * (start / 4096 + k)) p.regions (held (4096 * (start / 4096 + k)) (omega arith) (omega arith)))

-- if no slot is large, there is nothing to say of them
pub none_large : (words : List ℕ) (root : ℕ) (regions : List Region) → ((slot : ℕ) → large_of words root slot ≡ None) →
    (slot : ℕ) → IsSlot slot → IsSome (large_of words root (slot_number slot)) → is_whole_in regions slot ≡ true
none_large words root regions none slot is some = absurd (some_not_none (large_of words root (slot_number slot)) some (none (slot_number slot)))

-- ---- a region joins

pub joined_mapped : (old new : Paged) (region : Region) → IsMapped old → IsRegion old.base old.pages region →
    CanMap old region.start region.pages → IsRegionJoined old new region →
    IsPutIn region old.regions new.regions →
    ((other : ℕ) → IsTrue (is_canonical (other * 4096)) → ((k : ℕ) → k < region.pages → other ≡ region.start / 4096 + k →
    ⊥) → walk_of new.words old.root other ≡ walk_of old.words old.root other) →
    IsMapped new
joined_mapped old new region m kind can j put elsewhere = record {
  window = subst (λ b. IsPageRange b new.pages) (sym j.added.base) (subst (λ n. IsPageRange old.base n) (sym j.added.pages_is) m.window);
  tree = subst (λ r. IsTree new.words r new.free) (sym j.added.root) j.added.added.pages_added.tree;
  known = known;
  flags = (let s = j.added.added.pages_added.size in let f = j.added.added.pages_added.flags in let h = m.flags in omega arith);
  root_in = (let r = j.added.root in let s = j.added.added.pages_added.size in let h = m.root_in in omega arith);
  few_frames = (let s = j.added.added.pages_added.size in let h = m.few_frames in omega arith);
  count = (let s = j.added.added.pages_added.size in let h = m.count in let c = j.added.added.count in let t = j.added.tables in
      let all : total_pages new.regions ≡ region.pages + total_pages old.regions = ap total_pages j.regions ∙ pages_with region old.regions in omega arith);
  regions = subst (λ b. AllByRecursion (IsRegion b new.pages) new.regions) (sym j.added.base)
      (subst (λ n. AllByRecursion (IsRegion old.base n) new.regions) (sym j.added.pages_is)
      (subst (AllByRecursion (IsRegion old.base old.pages)) (sym j.regions) (all_with (IsRegion old.base old.pages) region old.regions kind m.regions)));
  found = λ page canonical. subst (λ r. option_map bits_at (walk_of new.words r page) ≡ option_map
      (λ (kind : Bool × Rights). bits_of kind.1) (kind_at new.regions (4096 * page))) (sym j.added.root)
      (found page canonical (is_within (4096 * page) region) refl);
  larges = λ slot is some. ap (λ regions. is_whole_in regions slot) j.regions ∙ (any_with (has_whole slot) region old.regions
      ∙ whole slot is (subst (λ r. IsSome (large_of new.words r (slot_number slot))) j.added.root some)
      (large_of old.words old.root (slot_number slot)) refl (has_whole slot region) refl);
  accounted = λ frame less unmet. (let s = j.added.added.pages_added.size in accounted frame (omega (arith, less, s))
      (subst (λ r. IsUnmet Whole new.words r frame) j.added.root unmet));
}
  where
    known : FreeBelow new.free (frame_count new.words)
    known f free = elim (is_frame_free old.free f) as (λ b. is_frame_free old.free f ≡ b → f < frame_count new.words) [
      | true ↦ λ was. (let h = m.known f was in let s = j.added.added.pages_added.size in omega arith)
      | false ↦ λ was. (let h = j.added.added.pages_added.fewer f was in absurd (cc))
    ] refl

    -- a frame that is not met was not met before either, and so it stays free
    accounted : (frame : ℕ) → frame < frame_count old.words → IsUnmet Whole new.words old.root frame → is_frame_free new.free frame ≡ true
    accounted frame less unmet =
        j.added.added.pages_added.kept frame (m.accounted frame less (λ l n met le at is. unmet l n met le (j.added.added.pages_added.stayed l n met le at) is))
        unmet

    -- a large page that was there lies whole in a region as before, and a new one in the region that joined
    whole : (slot : ℕ) → IsSlot slot → IsSome (large_of new.words old.root (slot_number slot)) → (was : Option Place) →
        large_of old.words old.root (slot_number slot) ≡ was →
        (b : Bool) → has_whole slot region ≡ b → (b || is_whole_in old.regions slot) ≡ true
    whole slot is some was at true here = refl
    whole slot is some (Some large) at false here = m.larges slot is (subst IsSome (sym at) refl)
    whole slot is some None at false here = absurd (
        let same = j.added.added.slots.small (slot_number slot) (λ count wide less e. (
        let of = slot_among region.start region.pages count can.range.0 can.range.1 wide.from wide.to in
        let number : slot_number (count * 2 ^ 21) ≡ count % 2 ^ 27 = omega arith in
        let one = same_slot slot (count * 2 ^ 21) is of.is_slot (e ∙ sym number) in
        let from = of.from in
        let to = of.within in
        let yes = whole_true slot region (omega arith) (omega arith) in
        let no : true ≡ false = sym yes ∙ here in cc)) in
        some_not_none (large_of new.words old.root (slot_number slot)) some (same ∙ at))

    found : (page : ℕ) → IsTrue (is_canonical (page * 4096)) → (b : Bool) → is_within (4096 * page) region ≡ b →
        option_map bits_at (walk_of new.words old.root page) ≡ option_map (λ (kind : Bool × Rights). bits_of kind.1) (kind_at new.regions (4096 * page))
    found page canonical true is =
        let whole = can.range.0 in
        let bounds = within_bounds (4096 * page) region is in
        let n = j.added.added.mapped (page - region.start / 4096) (omega (arith, bounds.0, bounds.1)) in
        let same : region.start / 4096 + (page - region.start / 4096) ≡ page = omega (arith, bounds.0) in
        let at : walk_of new.words old.root page ≡ Some (place_with n.frame (bits_of region.rights)) =
        subst (λ q. walk_of new.words old.root q ≡ Some (place_with n.frame (bits_of region.rights))) same n.found in
        let here : kind_at new.regions (4096 * page) ≡ Some (region.heap, region.rights) = put (4096 * page) ∙ rw is refl in
        ap (option_map bits_at) at ∙ sym (ap (option_map (λ (kind : Bool × Rights). bits_of kind.1)) here)
    found page canonical false is =
        let whole = can.range.0 in
        let apart : (k : ℕ) → k < region.pages → page ≡ region.start / 4096 + k → ⊥ = λ k less e. (
        let yes = within (4096 * page) region (omega (arith, less, e)) (omega (arith, less, e)) in absurd (cc)) in
        let here : kind_at new.regions (4096 * page) ≡ kind_at old.regions (4096 * page) = put (4096 * page) ∙ rw is refl in
        ap (option_map bits_at) (elsewhere page canonical apart) ∙ (m.found page canonical ∙ sym (ap (option_map (λ (kind : Bool × Rights). bits_of kind.1)) here))

-- ---- a region leaves

-- its pages are unmapped
pub pages_gone : (old : Paged) (words : List ℕ) (free : List Bool) (regions : List Region) (tables first start pages : ℕ) → first ≡ start / 4096 →
    AreUnmapped old.words words old.free free old.root first pages → IsTree words old.root free →
    ((k : ℕ) → k < pages → walk_of words old.root (first + k) ≡ None) →
    ((other : ℕ) → IsTrue (is_canonical (other * 4096)) → ((k : ℕ) → k < pages → other ≡ first + k → ⊥) →
    walk_of words old.root other ≡ walk_of old.words old.root other) →
    ((address : ℕ) → IsSome (walk_of words old.root (address / 4096)) → reached words old.root address ≡ reached old.words old.root address) →
    tables ≡ old.tables + cut_tables old.words old.root (start / 4096) →
    ArePagesGone old (record old { words = words; free = free; regions = regions; tables = tables }) start pages
pages_gone old words free regions tables first start pages first_is gone tree unmapped others bytes count = record {
  base = refl;
  pages_is = refl;
  root = refl;
  joins = refl;
  slots = refl;
  tables = count;
  gone = subst (λ f. AreUnmapped old.words words old.free free old.root f pages) first_is gone;
  tree = tree;
  unmapped = λ k less. subst (λ f. walk_of words old.root (f + k) ≡ None) first_is (unmapped k less);
  others = λ other canonical apart. others other canonical (λ k less e. apart k less (e ∙ ap (λ f. f + k) first_is));
  bytes = bytes;
}

inside : (from to at : ℕ) → from ≤ at → at < to → (nat_le from at && nat_lt at to) ≡ true
inside from to at above below = grind (arith, nat_tests)

inside_bounds : (from to at : ℕ) → (nat_le from at && nat_lt at to) ≡ true → (from ≤ at) × (at < to)
inside_bounds from to at is = (grind (arith, nat_tests), grind (arith, nat_tests))

is_four : (level : ℕ) → nat_eq level 4 ≡ true → level ≡ 4
is_four level t = grind (arith, nat_tests, t)

below_four : (level : ℕ) → level ≤ 4 → nat_eq level 4 ≡ false → level < 4
below_four level le t = grind (arith, nat_tests, t, le)

pub fewer_mapped : (old new : Paged) (start pages : ℕ) → IsMapped old → IsPageRange start pages → total_pages new.regions + pages ≡ total_pages old.regions →
    AllByRecursion (IsRegion old.base old.pages) new.regions → ArePagesGone old new start pages →
    AreTakenOut start (start + 4096 * pages) old.regions new.regions → FreeBelow new.free (frame_count new.words) →
    ((slot : ℕ) → IsSlot slot → (slot + 2 ^ 21 ≤ start) ⊎ (start + 4096 * pages ≤ slot) →
    is_whole_in old.regions slot ≡ true → is_whole_in new.regions slot ≡ true) → IsMapped new
fewer_mapped old new start pages m range all regions g taken known whole = record {
  window = subst (λ b. IsPageRange b new.pages) (sym g.base) (subst (λ n. IsPageRange old.base n) (sym g.pages_is) m.window);
  tree = subst (λ r. IsTree new.words r new.free) (sym g.root) g.tree;
  known = known;
  flags = (let s = g.gone.size in let f = g.gone.flags in let h = m.flags in omega arith);
  root_in = (let r = g.root in let s = g.gone.size in let h = m.root_in in omega arith);
  few_frames = (let s = g.gone.size in let h = m.few_frames in omega arith);
  count = (let s = g.gone.size in let h = m.count in let c = g.gone.count in let t = g.tables in omega arith);
  regions = subst (λ b. AllByRecursion (IsRegion b new.pages) new.regions) (sym g.base)
      (subst (λ n. AllByRecursion (IsRegion old.base n) new.regions) (sym g.pages_is)
      regions);
  found = λ page canonical. subst (λ r. option_map bits_at (walk_of new.words r page) ≡ option_map
      (λ (kind : Bool × Rights). bits_of kind.1) (kind_at new.regions (4096 * page))) (sym g.root)
      (found page canonical (nat_le start (4096 * page) && nat_lt (4096 * page) (start + 4096 * pages)) refl);
  larges = λ slot is some. larges slot is (subst (λ r. IsSome (large_of new.words r (slot_number slot))) g.root some);
  accounted = λ frame less unmet. (let s = g.gone.size in accounted frame (omega (arith, less, s))
      (subst (λ r. IsUnmet Whole new.words r frame) g.root unmet) (is_frame_free new.free frame) refl);
}
  where
    aligned : start % 4096 ≡ 0
    aligned = range.0

    found : (page : ℕ) → IsTrue (is_canonical (page * 4096)) → (b : Bool) → (nat_le start (4096 * page) && nat_lt (4096 * page) (start + 4096 * pages)) ≡ b →
        option_map bits_at (walk_of new.words old.root page) ≡ option_map (λ (kind : Bool × Rights). bits_of kind.1) (kind_at new.regions (4096 * page))
    found page canonical true is =
        let at = aligned in
        let bounds = inside_bounds start (start + 4096 * pages) (4096 * page) is in
        let above : start ≤ 4096 * page = bounds.0 in
        let below : 4096 * page < start + 4096 * pages = bounds.1 in
        let same : start / 4096 + (page - start / 4096) ≡ page = omega arith in
        let gone : walk_of new.words old.root page ≡ None = subst (λ q. walk_of new.words old.root q ≡ None) same
        (g.unmapped (page - start / 4096) (omega arith)) in
        let here : kind_at new.regions (4096 * page) ≡ None = taken (4096 * page) ∙ rw is refl in
        ap (option_map bits_at) gone ∙ sym (ap (option_map (λ (kind : Bool × Rights). bits_of kind.1)) here)
    found page canonical false is =
        let at = aligned in
        let apart : (k : ℕ) → k < pages → page ≡ start / 4096 + k → ⊥ = λ k less e. (
        let above : start ≤ 4096 * page = omega arith in
        let below : 4096 * page < start + 4096 * pages = omega arith in
        let no : true ≡ false = sym (inside start (start + 4096 * pages) (4096 * page) above below) ∙ is in cc) in
        let here : kind_at new.regions (4096 * page) ≡ kind_at old.regions (4096 * page) = taken (4096 * page) ∙ rw is refl in
        ap (option_map bits_at) (g.others page canonical apart) ∙ (m.found page canonical ∙ sym (ap (option_map (λ (kind : Bool × Rights). bits_of kind.1)) here))

    -- the slot of a page that leaves has no large page
    no_large : (slot k : ℕ) → IsSlot slot → IsSome (large_of new.words old.root (slot_number slot)) → k < pages → slot ≡ (start / 4096 + k) / 512 * 2 ^ 21 → ⊥
    no_large slot k is some less at =
        let number : slot_number slot ≡ prefix_of (start / 4096 + k) 3 = ap slot_number at ∙ page_number (start / 4096 + k) in
        let none : large_of new.words old.root (slot_number slot) ≡ None = ap (large_of new.words old.root) number ∙ g.gone.large_gone k less in
        some_not_none (large_of new.words old.root (slot_number slot)) some none

    -- so a slot that has one is beside the pages, and it was there
    beside : (slot : ℕ) → IsSlot slot → IsSome (large_of new.words old.root (slot_number slot)) → (slot + 2 ^ 21 ≤ start) ⊎ (start + 4096 * pages ≤ slot)
    beside slot is some = elim (cases_lt start (slot + 2 ^ 21)) [
      | inr before ↦ inl before
      | inl below ↦ elim (cases_lt slot (start + 4096 * pages)) [
        | inr behind ↦ inr behind
        | inl above ↦ absurd (elim (cases_lt start slot) [
          | inl inside ↦ (let w = is.aligned in let a = aligned in no_large slot (slot / 4096 - start / 4096) is some (omega arith) (omega arith))
          | inr over ↦ (let w = is.aligned in let a = aligned in let positive = range.1.some in no_large slot 0 is some (omega arith) (omega arith))
        ])
      ]
    ]

    larges : (slot : ℕ) → IsSlot slot → IsSome (large_of new.words old.root (slot_number slot)) → is_whole_in new.regions slot ≡ true
    larges slot is some =
        let apart = beside slot is some in
        let same = g.gone.larges_stay (slot_number slot) (λ k less e. (
        let canonical = page_canonical (start / 4096) pages k range.1 less in
        let one = same_slot slot ((start / 4096 + k) / 512 * 2 ^ 21) is (page_slot (start / 4096 + k) canonical) (e ∙ sym (page_number (start / 4096 + k))) in
        no_large slot k is some less one)) in
        whole slot is apart (m.larges slot is (subst IsSome same some))

    -- the frame of a page that left is free, or it is that of the new table
    still_met : (frame n : ℕ) (place : Place) → IsUnmet Whole new.words old.root frame → is_frame_free new.free frame ≡ false →
        among (start / 4096) pages n ≡ true → reach old.words old.root 4 n ≡ Some place → place.frame ≡ frame → ⊥
    still_met frame n place unmet used gone at same =
        let free = g.gone.given n place gone at (λ large cut first. (
        let slot : n / 512 ≡ prefix_of (start / 4096) 3 = omega (arith, first) in
        let in_large = reach_in old.words old.root n large (ap (large_of old.words old.root) slot ∙ cut.there) in
        let index : n % 512 ≡ start / 4096 % 512 = omega (arith, first) in
        let frame_is : place.frame ≡ large.frame + n % 512 = some_frame place large (n % 512) (sym at ∙ in_large) in
        unmet 3 (prefix_of (start / 4096) 3) (top (large.frame + start / 4096 % 512)) (omega arith) (g.gone.table large cut)
        (ap (λ i. large.frame + i) (sym index) ∙ (sym frame_is ∙ same)))) in
        let no : true ≡ false = sym free ∙ (ap (is_frame_free new.free) same ∙ used) in absurd (cc)
      where
        some_frame : (place large : Place) (index : ℕ) → Some place ≡ Some (page_in index large) → place.frame ≡ large.frame + index
        some_frame place large index is = let same : place ≡ page_in index large = cc in ap (λ (q : Place). q.frame) same

    -- what was met at a frame that is not met now was a page that left
    unmet_before : (frame : ℕ) → IsUnmet Whole new.words old.root frame → is_frame_free new.free frame ≡ false →
        (level n : ℕ) (met : Place) → level ≤ 4 → reach old.words old.root level n ≡ Some met → met.frame ≡ frame → ⊥
    unmet_before frame unmet used level n met le at same = by_level (nat_eq level 4) refl (among (start / 4096) pages n) refl where
      not_cut : level ≡ 3 → n ≡ prefix_of (start / 4096) 3 → cuts_large_page old.words old.root (start / 4096) ≡ false
      not_cut three slot =
          let none = table_none old.words old.root n met (subst (λ l. reach old.words old.root l n ≡ Some met) three at) in
          let here : large_of old.words old.root (prefix_of (start / 4096) 3) ≡ None = ap (large_of old.words old.root) (sym slot) ∙ none in
          rw here refl

      by_level : (t : Bool) → nat_eq level 4 ≡ t → (b : Bool) → among (start / 4096) pages n ≡ b → ⊥
      by_level false t b in_range =
          unmet level n met le (g.gone.tables_stay level n (below_four level le t) (λ three slot. not_cut three slot) ∙ at) same
      by_level true t b in_range = by_page b in_range (is_four level t)
        where
          by_page : (b : Bool) → among (start / 4096) pages n ≡ b → level ≡ 4 → ⊥
          by_page true gone four = still_met frame n met unmet used gone (subst (λ l. reach old.words old.root l n ≡ Some met) four at) same
          by_page false stays four = unmet 4 n met (omega arith) (g.gone.pages_stay n stays ∙ subst (λ l. reach old.words old.root l n ≡ Some met) four at) same

    accounted : (frame : ℕ) → frame < frame_count old.words → IsUnmet Whole new.words old.root frame → (b : Bool) → is_frame_free new.free frame ≡ b →
        is_frame_free new.free frame ≡ true
    accounted frame less unmet true is = is
    accounted frame less unmet false is =
        g.gone.kept frame (λ n place gone at same. still_met frame n place unmet is gone at same) ∙ m.accounted frame less (unmet_before frame unmet is)

-- ---- a range, and the region that has it

-- a range ends with the address space at the latest
pub range_ends : (start pages : ℕ) → IsPageRange start pages → start / 4096 + pages ≤ 2 ^ 52
range_ends start pages range =
    let low : start / 4096 * 4096 / 2 ^ 47 ≤ 2 ^ 17 - 1 = grind (arith, nat_tests, range.1.canonical) in
    let half = range.1.one_half in
    let some = range.1.some in
    omega arith

pub range_ends_at : (start pages : ℕ) → IsPageRange start pages → start + 4096 * pages ≤ 2 ^ 64
range_ends_at start pages range =
    let ends = range_ends start pages range in
    let whole = range.0 in
    omega arith

-- a region that is listed has a range
pub listed_range : (p : Paged) (start pages : ℕ) → IsMapped p → list_any (is_at start pages) p.regions ≡ true → IsPageRange start pages
listed_range p start pages m there =
    let r = listed (IsRegion p.base p.pages) start pages p.regions m.regions there in
    subst (λ s. IsPageRange s pages) r.2 (subst (λ n. IsPageRange r.0.start n) r.3 r.1.range)

-- ---- a word is stored

pub stored_mapped : (p : Paged) (words : List ℕ) → IsMapped p → length words ≡ length p.words → IsTree words p.root p.free →
    ((level number : ℕ) → level ≤ 4 → reach words p.root level number ≡ reach p.words p.root level number) →
    ((number : ℕ) → large_of words p.root number ≡ large_of p.words p.root number) → IsMapped (record p { words = words })
unfolding walk_of
stored_mapped p words m size tree walks larges = record {
  window = m.window;
  tree = tree;
  known = λ f free. (let h = m.known f free in omega arith);
  flags = (let h = m.flags in omega arith);
  root_in = (let h = m.root_in in omega arith);
  few_frames = (let h = m.few_frames in omega arith);
  count = (let h = m.count in omega arith);
  regions = m.regions;
  found = λ page canonical. ap (option_map bits_at) (walks 4 (page % 2 ^ 36) (omega arith)) ∙ m.found page canonical;
  larges = λ slot is some. m.larges slot is (subst IsSome (larges (slot_number slot)) some);
  accounted = λ frame less unmet. m.accounted frame (omega (arith, less, size)) (λ l n met le at is. unmet l n met le (walks l n le ∙ at) is);
}

-- ---- the list of slots

-- what is kept says nothing of it
pub with_slots : (p : Paged) (slots : List ℕ) → IsMapped p → IsMapped (record p { slots = slots })
with_slots p slots m = record {
  window = m.window;
  tree = m.tree;
  known = m.known;
  flags = m.flags;
  root_in = m.root_in;
  few_frames = m.few_frames;
  count = m.count;
  regions = m.regions;
  found = m.found;
  larges = m.larges;
  accounted = m.accounted;
}

-- ---- a new memory

free_left : (count root frame : ℕ) → frame < count → frame ≢ root → is_frame_free (set (replicate count true) root false) frame ≡ true
free_left count root frame less other = get_or-set_other (replicate count true) root frame false false other ∙ get_or-replicate count frame true false less

-- all frames are free but that of the root, which the walk meets first
pub new_accounted : (words : List ℕ) (root count : ℕ) (free : List Bool) → free ≡ set (replicate count true) root false → frame_count words ≡ count →
    (frame : ℕ) → frame < frame_count words → IsUnmet Whole words root frame → is_frame_free free frame ≡ true
new_accounted words root count free is frames frame less unmet =
    let other : frame ≢ root = λ same. unmet 0 0 (top root) (omega arith) (reach_zero words root 0) (sym same) in
    ap (λ flags. is_frame_free flags frame) is ∙ free_left count root frame (omega (arith, less, frames)) other
