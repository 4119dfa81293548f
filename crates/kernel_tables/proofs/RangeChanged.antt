-- A range of mapped pages is changed in ascending order, a large page or a page at a time.
use Rattle.std.proofs.Common.{◌≡◌, ℕ, ◌+◌, ◌-◌, ◌*◌, ◌/◌, ◌%◌, ◌^◌, ◌<◌, ◌≤◌, Bool, true, false, not, cond, ltb, List, Option, Some, None, option_and_then, refl, sym, ap, subst, ◌∙◌, ◌⊎◌, inl, inr, arith}
use Rattle.std.proofs.lemmas.Bool.{cases_Bool, cases_eq, cases_lt}
use Rattle.std.proofs.lemmas.Bool.Decides.{nat_tests}
use Rattle.std.specs.Prelude.{is_some, is_none, ◌==◌, ◌&&◌, nat_le, IsTrue, IsSome, IfSome}
use Rattle.std.specs.Option.{option_or, option_map}
use Rattle.paging_core.specs.Address.{is_canonical, IsCanonicalRange}
use Rattle.paging_core.specs.Area.{Area, in_area}
use Rattle.paging_core.specs.Large.{slot_of}
use Rattle.paging_core.specs.LargeChanges.{IsLargeSplit, AreLargeGranted}
use Rattle.paging_core.specs.Pool.{free_count}
use Rattle.paging_core.specs.Prefix.{prefix_of}
use Rattle.paging_core.specs.Walk.{Place, reach, large_of, walk_of, place_with, page_in}
use Rattle.paging_core.specs.declared.page_table.PageBits.{PageBits}
use Rattle.paging_core.proofs.LastEntry.{some_or_none}
use Rattle.paging_core.proofs.Prefixes.{walk_reach}
use Rattle.paging_core.proofs.Ranges.{page_canonical}
use Rattle.paging_core.proofs.Reach.{reach_in, reach_none, large_none}
use Rattle.kernel_tables.specs.Faults.{entry_fault, protect_fault, split_of}
use Rattle.kernel_tables.specs.Changes.{ChangesOnly, IsRangeUnmapped, IsRangeGranted}
use Rattle.kernel_tables.specs.Flush.{page_alone, pages_of_slot, pages_of_range}
use Rattle.kernel_tables.specs.Ranges.{has_page_of, lies_whole, lies_in_half, lowest_unmapped, lowest_giving, is_split, splits, change_range_fault, protect_range_fault, AreWithin, AreNotLarge, AreSlotsGranted}
use Rattle.kernel_tables.specs.TableState.{TableState, leads, place_in, gives_area, IsSamePlace, DoTablesStay}
use Rattle.kernel_tables.specs.Words.{KeepsOtherWords}
use Rattle.kernel_tables.proofs.KeptWords.{words_same, words_then, alone_within, slot_within}
use Rattle.kernel_tables.specs.declared.faults.EntryFault.TheVariants as Entry
use Rattle.kernel_tables.specs.declared.range_fault.RangeFault.TheVariants.{NotCanonical, NotMapped, LeadsIntoArea, NoFrames}
use Rattle.kernel_tables.proofs.Changed.{same_place, same_tables, page_others, slot_others, range_only}
use Rattle.kernel_tables.proofs.RangeFaults.{none_of_all}
use Rattle.kernel_tables.proofs.RangeMapped.{slots_apart}
use Rattle.kernel_tables.proofs.Sound.{LeadsOutside, same_page, hidden_of}
use Rattle.kernel_tables.proofs.SlotChanges.{large_at, slot_same, none_whole}

pub is_hole : (o : Option Place) → o ≡ None → IsSome o → ⊥
is_hole None e h = cc
is_hole (Some x) e h = cc

-- a large page that is split had no table
pub split_stay : (old new : List ℕ) (free free' : List Bool) (root page : ℕ) → IsLargeSplit old new free free' root page →
    (l n : ℕ) (met : Place) → l < 4 → reach old root l n ≡ Some met → reach new root l n ≡ Some met
split_stay old new free free' root page split l n met lt is = split.others l n (omega arith) (λ e s. taken l n e s is) ∙ is
  where
    taken : (l n : ℕ) → l ≡ 3 → n ≡ slot_of page → reach old root l n ≡ Some met → ⊥
    taken l n e s is =
        let none : reach old root l n ≡ None = ap (λ k. reach old root k n) e
        ∙ (ap (reach old root 3) s ∙ large_none old root (slot_of page) split.large split.was) in
        is_hole (reach old root l n) none (rw is refl)

none_there : (o : Option Place) → (IsSome o → ⊥) → o ≡ None
none_there None h = refl
none_there (Some x) h = absurd (h refl)

-- a change that is given for the place that there is
changed_of : (o p : Option Place) (change : Place → Option Place) → IsSome o → ((was : Place) → o ≡ Some was → p ≡ change was) →
    p ≡ option_and_then change o
changed_of None p change some h = absurd (cc)
changed_of (Some x) p change some h = h x refl

-- 512 pages more, from the first of a slot on, are those of no other slot
has_alike : (page done slot : ℕ) → (page + done) % 512 ≡ 0 → (slot ≡ (page + done) / 512 → ⊥) → has_page_of page (done + 512) slot ≡ has_page_of page done slot
has_alike page done slot first ne = go (cases_Bool (has_page_of page done slot)) (cases_Bool (has_page_of page (done + 512) slot))
  where
    go : (has_page_of page done slot ≡ true) ⊎ (has_page_of page done slot ≡ false) →
        (has_page_of page (done + 512) slot ≡ true) ⊎ (has_page_of page (done + 512) slot ≡ false) →
        has_page_of page (done + 512) slot ≡ has_page_of page done slot
    go (inl a) (inl b) = b ∙ sym a
    go (inl a) (inr b) = absurd (grind (arith, nat_tests))
    go (inr a) (inl b) = absurd (grind (arith, nat_tests))
    go (inr a) (inr b) = b ∙ sym a

-- the first `done` pages of the range are changed; `change` says what becomes of a page that led to
-- a place
pub record IsChangedTo (old now : TableState) (page pages done : ℕ) (change : Place → Option Place) : Type 0 where
  pub place : IsSamePlace old now
  pub free : now.free ≡ old.free
  pub tables : DoTablesStay old now
  pub within : done ≤ pages
  pub changed : (k : ℕ) (was : Place) → k < done → leads old (page + k) ≡ Some was → leads now (page + k) ≡ change was
  pub elsewhere : (other : ℕ) → IsTrue (is_canonical (other * 4096)) → ((k : ℕ) → k < done → other ≡ page + k → ⊥) → leads now other ≡ leads old other
  -- the large pages that map the others lie whole among them
  pub whole : (slot : ℕ) → page + done < 512 * slot + 512 → 512 * slot < page + pages → IsSome (large_of now.words now.root (slot_of slot)) →
      (page + done ≤ 512 * slot) × (512 * slot + 512 ≤ page + pages)
  -- of the slots that have a changed page, a large one is changed as its pages are
  pub large :
      (slot : ℕ) → IsTrue (is_canonical (512 * slot * 4096)) →
      large_at now slot ≡ cond (has_page_of page done slot) (option_and_then change (large_at old slot)) (large_at old slot)
  -- the words beside the entries of the range
  pub words : KeepsOtherWords (pages_of_range page pages) old now

pub changed_start : (old : TableState) (page pages : ℕ) (change : Place → Option Place) → AreWithin old page pages → IsChangedTo old old page pages 0 change
changed_start old page pages change within = record {
  place = record { root = refl; area = refl; size = refl; shared = refl };
  free = refl;
  tables = λ l n met lt is. is;
  within = omega arith;
  changed = λ k was lt is. absurd (omega arith);
  elsewhere = λ other canonical out. refl;
  whole = λ slot lo hi some. let w = within slot (omega arith) hi some in let a = w.0 in let b = w.1 in (omega arith, b);
  large = λ slot canonical. refl;
  words = words_same (pages_of_range page pages) old;
}

module _ (old now : TableState) (page pages done : ℕ) (change : Place → Option Place)
    (range : IsCanonicalRange page pages)
    (before : IsChangedTo old now page pages done change)
    (more : done < pages) where
  -- a page that is not changed yet leads where it led
  pub still : (k : ℕ) → done ≤ k → k < pages → leads now (page + k) ≡ leads old (page + k)
  still k lo lt = before.elsewhere (page + k) (page_canonical page pages k range lt) (λ j lj e. omega arith)

  -- a large page that maps the next page begins there
  pub begins_there : IsSome (large_of now.words now.root (slot_of ((page + done) / 512))) → ((page + done) % 512 ≡ 0) × (done + 512 ≤ pages)
  begins_there some =
      let w = before.whole ((page + done) / 512) (omega arith) (omega arith) some in
      let a = w.0 in
      let b = w.1 in
      (omega arith, omega arith)

  module _ (new : TableState) (free : new.free ≡ now.free) where
    pub page_changed : (IsSome (large_of now.words now.root (slot_of ((page + done) / 512))) → ⊥) → ChangesOnly (page_alone (page + done)) now new →
        ((was : Place) → leads now (page + done) ≡ Some was → leads new (page + done) ≡ change was) →
        ((n : ℕ) → large_of new.words new.root n ≡ large_of now.words now.root n) → KeepsOtherWords (page_alone (page + done)) now new →
        IsChangedTo old new page pages (done + 1) change
    page_changed small only changes larges words = record {
      place = same_place old now new before.place only.place;
      free = free ∙ before.free;
      tables = same_tables old now new before.tables only.tables;
      within = omega arith;
      changed = λ k was lt is. changed k was is (cases_lt k done) lt;
      elsewhere = λ other canonical out.
          page_others only other canonical (λ e. out done (omega arith) e) ∙ before.elsewhere other canonical (λ k lt e. out k (omega arith) e);
      whole = λ slot lo hi some.
          let s : IsSome (large_of now.words now.root (slot_of slot)) = rw (larges (slot_of slot)) at some in
          let w = before.whole slot (omega arith) hi s in
          let a = w.0 in
          let b = w.1 in
          (past slot s a (cases_eq (512 * slot) (page + done)), b);
      large = λ slot canonical.
          larges (slot_of slot)
          ∙ (before.large slot canonical ∙ next slot canonical (cases_Bool (has_page_of page done slot)) (cases_Bool (has_page_of page (done + 1) slot)));
      words = words_then before.words words before.tables only.tables (λ other e. e) (alone_within page pages (page + done) (omega arith) (omega arith));
    }
      where
        next : (slot : ℕ) → IsTrue (is_canonical (512 * slot * 4096)) → (has_page_of page done slot ≡ true) ⊎ (has_page_of page done slot ≡ false) →
            (has_page_of page (done + 1) slot ≡ true) ⊎ (has_page_of page (done + 1) slot ≡ false) →
            cond (has_page_of page done slot) (option_and_then change (large_at old slot)) (large_at old slot)
            ≡ cond (has_page_of page (done + 1) slot) (option_and_then change (large_at old slot)) (large_at old slot)
        next slot canonical (inl a) (inl b) = rw (a, b) refl
        next slot canonical (inl a) (inr b) = absurd (grind (arith, nat_tests))
        next slot canonical (inr a) (inl b) =
            let e : slot ≡ (page + done) / 512 = grind (arith, nat_tests) in
            let w : large_at now slot ≡ large_at old slot = rw a at (before.large slot canonical) in
            let n : large_at old slot ≡ None = sym w ∙ none_there (large_at now slot) (rw e small) in
            rw (a, b, n) refl
        next slot canonical (inr a) (inr b) = rw (a, b) refl

        changed : (k : ℕ) (was : Place) → leads old (page + k) ≡ Some was → (k < done) ⊎ (done ≤ k) → k < done + 1 → leads new (page + k) ≡ change was
        changed k was is (inl x) lt = page_others only (page + k) (page_canonical page pages k range (omega arith))
            (λ e. omega arith) ∙ before.changed k was x is
        changed k was is (inr x) lt =
            let e : k ≡ done = omega arith in
            rw e (changes was (still done (omega arith) more ∙ (ap (λ j. leads old (page + j)) (sym e) ∙ is)))

        past : (slot : ℕ) → IsSome (large_of now.words now.root (slot_of slot)) → page + done ≤ 512 * slot →
            (512 * slot ≡ page + done) ⊎ (512 * slot ≡ page + done → ⊥) →
            page + (done + 1) ≤ 512 * slot
        past slot some le (inl e) = let same : (page + done) / 512 ≡ slot = omega arith in absurd (small (rw same some))
        past slot some le (inr ne) = omega arith

    pub slot_changed : IsSome (large_at now ((page + done) / 512)) →
        ChangesOnly (pages_of_slot ((page + done) / 512)) now new →
        ((k : ℕ) (was : Place) → k < 512 → leads now (512 * ((page + done) / 512) + k) ≡ Some was → leads new (512 * ((page + done) / 512) + k) ≡ change was) →
        ((n : ℕ) → (n ≡ slot_of ((page + done) / 512) → ⊥) → large_of new.words new.root n ≡ large_of now.words now.root n) →
        ((was : Place) → large_at now ((page + done) / 512) ≡ Some was → large_at new ((page + done) / 512) ≡ change was) →
        KeepsOtherWords (pages_of_slot ((page + done) / 512)) now new →
        IsChangedTo old new page pages (done + 512) change
    slot_changed large only changes larges here words =
        let b = begins_there large in
        let first = b.0 in
        let fits = b.1 in
        record {
          place = same_place old now new before.place only.place;
          free = free ∙ before.free;
          tables = same_tables old now new before.tables only.tables;
          within = omega arith;
          changed = λ k was lt is. changed k was is (cases_lt k done) lt;
          elsewhere = λ other canonical out.
              slot_others only other canonical (λ e. out (other - page) (omega arith) (omega arith))
              ∙ before.elsewhere other canonical (λ k lt e. out k (omega arith) e);
          whole = λ slot lo hi some. whole slot lo hi some (cases_eq slot ((page + done) / 512));
          large = λ slot canonical. turned slot canonical (cases_eq slot ((page + done) / 512));
          words = words_then before.words words before.tables only.tables (λ other e. e)
              (slot_within page pages ((page + done) / 512) (omega arith) (omega arith));
        }
      where
        turned : (slot : ℕ) → IsTrue (is_canonical (512 * slot * 4096)) → (slot ≡ (page + done) / 512) ⊎ (slot ≡ (page + done) / 512 → ⊥) →
            large_at new slot ≡ cond (has_page_of page (done + 512) slot) (option_and_then change (large_at old slot)) (large_at old slot)
        turned slot canonical (inl e) =
            let b = begins_there large in
            let first = b.0 in
            let u : has_page_of page done slot ≡ false = grind (arith, nat_tests) in
            let t : has_page_of page (done + 512) slot ≡ true = grind (arith, nat_tests) in
            let w : large_at now slot ≡ large_at old slot = rw u at (before.large slot canonical) in
            rw t
            (ap (large_at new) e
            ∙ (changed_of (large_at now ((page + done) / 512)) (large_at new ((page + done) / 512)) change large here
            ∙ ap (option_and_then change) (ap (large_at now) (sym e) ∙ w)))
        turned slot canonical (inr ne) =
            let b = begins_there large in
            let first = b.0 in
            larges (slot_of slot) (λ e. ne (slot_same slot (page + done) canonical (page_canonical page pages done range more) e))
            ∙ rw (has_alike page done slot first ne) (before.large slot canonical)

        changed : (k : ℕ) (was : Place) → leads old (page + k) ≡ Some was → (k < done) ⊎ (done ≤ k) → k < done + 512 → leads new (page + k) ≡ change was
        changed k was is (inl x) lt =
            let b = begins_there large in
            let first = b.0 in
            slot_others only (page + k) (page_canonical page pages k range (omega arith)) (λ e. omega arith) ∙ before.changed k was x is
        changed k was is (inr x) lt =
            let b = begins_there large in
            let first = b.0 in
            let fits = b.1 in
            let p : page + k ≡ 512 * ((page + done) / 512) + (k - done) = omega arith in
            ap (leads new) p
            ∙ changes (k - done) was (omega arith) (ap (leads now) (sym p) ∙ (still k x (omega arith) ∙ is))

        whole : (slot : ℕ) → page + (done + 512) < 512 * slot + 512 → 512 * slot < page + pages → IsSome (large_of new.words new.root (slot_of slot)) →
            (slot ≡ (page + done) / 512) ⊎ (slot ≡ (page + done) / 512 → ⊥) → (page + (done + 512) ≤ 512 * slot) × (512 * slot + 512 ≤ page + pages)
        whole slot lo hi some (inl e) = absurd (let b = begins_there large in let first = b.0 in omega arith)
        whole slot lo hi some (inr ne) =
            let b = begins_there large in
            let first = b.0 in
            let s : IsSome (large_of now.words now.root (slot_of slot)) =
            rw (larges (slot_of slot) (λ e. ne (slots_apart page pages slot ((page + done) / 512) range (omega arith)
            (omega arith) (omega arith) (omega arith) e))) at some in
            let w = before.whole slot (omega arith) hi s in
            let x = w.0 in
            let y = w.1 in
            (omega arith, y)

-- ---- large pages at the ends of a range

some_is : (o : Option Place) → IsSome o → is_some o ≡ true
some_is None h = absurd (cc)
some_is (Some x) h = refl

-- a large page that is not to be split lies whole in the range
pub unsplit : (state : TableState) (page pages slot : ℕ) → is_split state page pages slot ≡ false → IsSome (large_of state.words state.root (slot_of slot)) →
    (page ≤ 512 * slot) × (512 * slot + 512 ≤ page + pages)
unsplit state page pages slot e some =
    let f = go (is_some (large_of state.words state.root (slot_of slot))) (nat_le page (512 * slot))
    (nat_le (512 * slot + 512) (page + pages)) e (some_is (large_of state.words state.root (slot_of slot)) some) in
    let a = f.0 in
    let b = f.1 in
    (grind (arith, nat_tests), grind (arith, nat_tests))
  where
    go : (o a b : Bool) → (o && not (a && b)) ≡ false → o ≡ true → (a ≡ true) × (b ≡ true)
    go false a b e s = absurd (cc)
    go true false b e s = absurd (cc)
    go true true false e s = absurd (cc)
    go true true true e s = (refl, refl)

pub all_within : (state : TableState) (page pages : ℕ) → 0 < pages → is_split state page pages (page / 512) ≡ false →
    is_split state page pages ((page + (pages - 1)) / 512) ≡ false →
    AreWithin state page pages
all_within state page pages some first last = λ slot lo hi large. go slot lo hi large (cases_eq slot (page / 512)) (cases_eq slot ((page + (pages - 1)) / 512))
  where
    go : (slot : ℕ) → page < 512 * slot + 512 → 512 * slot < page + pages → IsSome (large_of state.words state.root (slot_of slot)) →
        (slot ≡ page / 512) ⊎ (slot ≡ page / 512 → ⊥) → (slot ≡ (page + (pages - 1)) / 512) ⊎ (slot ≡ (page + (pages - 1)) / 512 → ⊥) →
        (page ≤ 512 * slot) × (512 * slot + 512 ≤ page + pages)
    go slot lo hi large (inl e) _ = unsplit state page pages slot (ap (is_split state page pages) e ∙ first) large
    go slot lo hi large (inr ne) (inl e) = unsplit state page pages slot (ap (is_split state page pages) e ∙ last) large
    go slot lo hi large (inr ne) (inr me) = (omega arith, omega arith)

-- the split of the first slot leaves the last one's as it was, if they are two
pub last_split : (old mid : TableState) (page pages : ℕ) → IsCanonicalRange page pages → is_split mid page pages (page / 512) ≡ false →
    ((n : ℕ) → (n ≡ slot_of (page / 512) → ⊥) → large_of mid.words mid.root n ≡ large_of old.words old.root n) →
    cond {A = ℕ} (is_split mid page pages ((page + (pages - 1)) / 512)) 1 0
    ≡ cond (not ((page + (pages - 1)) / 512 == page / 512) && is_split old page pages ((page + (pages - 1)) / 512)) 1 0
last_split old mid page pages range first larges = go (cases_eq ((page + (pages - 1)) / 512) (page / 512))
  where
    go : ((page + (pages - 1)) / 512 ≡ page / 512) ⊎ ((page + (pages - 1)) / 512 ≡ page / 512 → ⊥) →
        cond {A = ℕ} (is_split mid page pages ((page + (pages - 1)) / 512)) 1 0
        ≡ cond (not ((page + (pages - 1)) / 512 == page / 512) && is_split old page pages ((page + (pages - 1)) / 512)) 1 0
    go (inl e) =
        let t : ((page + (pages - 1)) / 512 == page / 512) ≡ true = grind (arith, nat_tests) in
        let f : is_split mid page pages ((page + (pages - 1)) / 512) ≡ false = ap (is_split mid page pages) e ∙ first in
        rw (t, f) refl
    go (inr ne) =
        let t : ((page + (pages - 1)) / 512 == page / 512) ≡ false = grind (arith, nat_tests) in
        let some : 0 < pages = range.some in
        let l = larges (slot_of ((page + (pages - 1)) / 512))
        (λ e. ne (slots_apart page pages ((page + (pages - 1)) / 512) (page / 512) range (omega arith) (omega arith) (omega arith) (omega arith) e)) in
        rw (t, l) refl

-- a page of a large page leads into it
pub slot_led : (words : List ℕ) (root page : ℕ) (large : Place) (k : ℕ) → k < 512 → large_of words root (slot_of page) ≡ Some large →
    walk_of words root (512 * page + k) ≡ Some (page_in k large)
slot_led words root page large k lt is =
    let up : prefix_of (512 * page + k) 4 / 512 ≡ slot_of page = omega arith in
    let at : prefix_of (512 * page + k) 4 % 512 ≡ k = omega arith in
    walk_reach words root (512 * page + k)
    ∙ (reach_in words root (prefix_of (512 * page + k) 4) large (ap (large_of words root) up ∙ is) ∙ ap (λ j. Some (page_in j large)) at)

-- the end: all pages are changed, and only these
pub only_range : (old now : TableState) (page pages : ℕ) (change : Place → Option Place) →
    IsChangedTo old now page pages pages change → ChangesOnly (pages_of_range page pages) old now
only_range old now page pages change all = range_only page pages all.place all.tables all.elsewhere

pub gone_all : (old now : TableState) (page pages : ℕ) → ((k : ℕ) → k < pages → IsSome (leads old (page + k))) →
    IsChangedTo old now page pages pages (λ was. None) →
    (k : ℕ) → k < pages → leads now (page + k) ≡ None
gone_all old now page pages mapped all k lk = go (some_or_none (leads old (page + k)))
  where
    go : ((x : Place) × (leads old (page + k) ≡ Some x)) ⊎ (leads old (page + k) ≡ None) → leads now (page + k) ≡ None
    go (inl x) = all.changed k x.0 lk x.1
    go (inr none) = absurd (is_hole (leads old (page + k)) none (mapped k lk))

pub granted_all : (old now : TableState) (page pages : ℕ) (bits : Place → PageBits) → ((k : ℕ) → k < pages → IsSome (leads old (page + k))) →
    IsChangedTo old now page pages pages (λ was. Some (place_with was.frame (bits was))) →
    (k : ℕ) → k < pages → IfSome (leads old (page + k)) (λ was. leads now (page + k) ≡ Some (place_with was.frame (bits was)))
granted_all old now page pages bits mapped all k lk = go (some_or_none (leads old (page + k)))
  where
    go : ((x : Place) × (leads old (page + k) ≡ Some x)) ⊎ (leads old (page + k) ≡ None) →
        IfSome (leads old (page + k)) (λ was. leads now (page + k) ≡ Some (place_with was.frame (bits was)))
    go (inl x) = rw x.1 (all.changed k x.0 lk x.1)
    go (inr none) = absurd (is_hole (leads old (page + k)) none (mapped k lk))

-- which slots are large at the end
pub gone_large : (old now : TableState) (page pages : ℕ) → IsChangedTo old now page pages pages (λ was. None) → AreNotLarge (has_page_of page pages) old now
gone_large old now page pages all = λ slot canonical.
    all.large slot canonical ∙ ap (λ o. cond (has_page_of page pages slot) o (large_at old slot)) (none (large_at old slot))
  where
    none : (o : Option Place) → option_and_then {T = Place} {U = Place} (λ was. None) o ≡ None
    none None = refl
    none (Some x) = refl

pub granted_large : (old now : TableState) (page pages : ℕ) (bits : Place → PageBits) → AreWithin old page pages →
    IsChangedTo old now page pages pages (λ was. Some (place_with was.frame (bits was))) → AreSlotsGranted old now page pages bits
granted_large old now page pages bits within all = λ slot canonical.
    all.large slot canonical ∙ go slot (cases_Bool (lies_whole page pages slot)) (cases_Bool (has_page_of page pages slot))
  where
    granted : (o : Option Place) →
        option_and_then (λ (was : Place). Some (place_with was.frame (bits was))) o ≡ option_map (λ (was : Place). place_with was.frame (bits was)) o
    granted None = refl
    granted (Some x) = refl

    beyond : (slot : ℕ) → lies_whole page pages slot ≡ false → (page ≤ 512 * slot) × (512 * slot + 512 ≤ page + pages) → ⊥
    beyond slot w both = let a = both.0 in let b = both.1 in grind (arith, nat_tests)

    go : (slot : ℕ) → (lies_whole page pages slot ≡ true) ⊎ (lies_whole page pages slot ≡ false) →
        (has_page_of page pages slot ≡ true) ⊎ (has_page_of page pages slot ≡ false) →
        cond (has_page_of page pages slot) (option_and_then (λ (was : Place). Some (place_with was.frame (bits was))) (large_at old slot)) (large_at old slot)
        ≡ cond (lies_whole page pages slot) (option_map (λ (was : Place). place_with was.frame (bits was)) (large_at old slot))
        (cond (has_page_of page pages slot) None (large_at old slot))
    go slot (inl w) (inl h) = rw (w, h) (granted (large_at old slot))
    go slot (inl w) (inr h) = absurd (grind (arith, nat_tests))
    go slot (inr w) (inl h) =
        let n = none_there (large_at old slot) (λ some. beyond slot w (within slot (grind (arith, nat_tests)) (grind (arith, nat_tests)) some)) in
        rw (w, h, n) refl
    go slot (inr w) (inr h) = rw (w, h) refl

-- a change that is given for where a page led
pub told : (o : Option Place) (P : Place → Type 0) (was : Place) → IfSome o P → o ≡ Some was → P was
told None P was h e = absurd (cc)
told (Some x) P was h e = let s : x ≡ was = cc in subst P s h

-- a page in no large page that is mapped has a table
pub table_there : (words : List ℕ) (root page : ℕ) → IsSome (walk_of words root page) → (IsSome (large_of words root (slot_of (page / 512))) → ⊥) →
    IsSome (reach words root 3 (prefix_of page 3))
table_there words root page some small = go (some_or_none (reach words root 3 (prefix_of page 3)))
  where
    none_large : (o : Option Place) → (IsSome o → ⊥) → o ≡ None
    none_large None h = refl
    none_large (Some x) h = absurd (h refl)

    go : ((x : Place) × (reach words root 3 (prefix_of page 3) ≡ Some x)) ⊎ (reach words root 3 (prefix_of page 3) ≡ None) →
        IsSome (reach words root 3 (prefix_of page 3))
    go (inl x) = rw x.1 refl
    go (inr none) =
        let up : prefix_of page 4 / 512 ≡ prefix_of page 3 = omega arith in
        let at : slot_of (page / 512) ≡ prefix_of page 3 = omega arith in
        let l : large_of words root (prefix_of page 3) ≡ None = ap (large_of words root) (sym at)
        ∙ none_large (large_of words root (slot_of (page / 512))) small in
        let w : walk_of words root page ≡ None = walk_reach words root page ∙ reach_none words root (prefix_of page 4) (rw up none) (rw up l) in
        absurd (is_hole (walk_of words root page) w some)

-- a page that is mapped, and whose slot has no table, is part of a large page
pub large_there : (words : List ℕ) (root page : ℕ) → IsSome (walk_of words root page) → reach words root 3 (prefix_of page 3) ≡ None →
    IsSome (large_of words root (slot_of (page / 512)))
large_there words root page some none = go (some_or_none (large_of words root (slot_of (page / 512))))
  where
    go : ((x : Place) × (large_of words root (slot_of (page / 512)) ≡ Some x)) ⊎ (large_of words root
        (slot_of (page / 512)) ≡ None) → IsSome (large_of words root (slot_of (page / 512)))
    go (inl x) = rw x.1 refl
    go (inr l) =
        let up : prefix_of page 4 / 512 ≡ prefix_of page 3 = omega arith in
        let at : slot_of (page / 512) ≡ prefix_of page 3 = omega arith in
        let w : walk_of words root page ≡ None = walk_reach words root page ∙ reach_none words root (prefix_of page 4) (rw up none) (rw (up, sym at) l) in
        absurd (is_hole (walk_of words root page) w some)

-- bits are the same for each page of a large page
abbrev pub AreAlike : (Place → PageBits) → Type 0
AreAlike bits = (large : Place) (k : ℕ) → bits (page_in k large) ≡ bits large

-- each page of a large page that was given bits has them
pub slot_granted : (old new : List ℕ) (root page : ℕ) (rights : PageBits) (bits : Place → PageBits) (all : AreLargeGranted old new root page rights) →
    rights ≡ bits all.large → AreAlike bits → (k : ℕ) → k < 512 →
    IfSome (walk_of old root (512 * page + k)) (λ was. walk_of new root (512 * page + k) ≡ Some (place_with was.frame (bits was)))
slot_granted old new root page rights bits all same alike k lt =
    rw (slot_led old root page all.large k lt all.was, alike all.large k, sym same) (all.there k lt)

pub slot_outside : (shared : Bool) (area : Area) (old new : List ℕ) (root page : ℕ) (rights : PageBits) →
    AreLargeGranted old new root page rights →
    ((k : ℕ) → k < 512 → (rights.user && place_in area (walk_of old root (512 * page + k))) ≡ false) →
    LeadsOutside shared area old root → LeadsOutside shared area new root
slot_outside shared area old new root page rights all hidden before = λ other place is kept.
    go other place is kept (cases_eq (other / 512 % 2 ^ 27) (slot_of page))
  where
    go : (other : ℕ) (place : Place) → walk_of new root other ≡ Some place → (shared && not place.user) ≡ false →
        (other / 512 % 2 ^ 27 ≡ slot_of page) ⊎ (other / 512 % 2 ^ 27 ≡ slot_of page → ⊥) → in_area area place.frame ≡ false
    go other place is kept (inl e) =
        let same : (512 * page + other % 512) % 2 ^ 36 ≡ other % 2 ^ 36 = omega arith in
        let p : Some (place_with (all.large.frame + other % 512) rights) ≡ Some place =
        sym (all.there (other % 512) (omega arith)) ∙ (same_page new root (512 * page + other % 512) other same ∙ is) in
        let q : place_with (all.large.frame + other % 512) rights ≡ place = cc in
        ap (in_area area) (sym (ap (λ r. r.frame) q))
        ∙ hidden_of shared area old root (512 * page + other % 512) rights.user before (hidden (other % 512) (omega arith)) (page_in (other % 512) all.large)
        (slot_led old root page all.large (other % 512) (omega arith) all.was) (ap (λ r. shared && not r.user) q ∙ kept)
    go other place is kept (inr ne) =
        let up : prefix_of other 4 / 512 ≡ other / 512 % 2 ^ 27 = omega arith in
        before other place
        (walk_reach old root other ∙ (sym (all.others 4 (prefix_of other 4) (omega arith) (λ _ e. ne (sym up ∙ e))) ∙ (sym (walk_reach new root other) ∙ is))) kept

-- ---- the split of the ends

pub split_some : (state : TableState) (page pages slot : ℕ) → is_split state page pages slot ≡ true → IsSome (large_of state.words state.root (slot_of slot))
split_some state page pages slot e = go (large_of state.words state.root (slot_of slot))
    (nat_le page (512 * slot) && nat_le (512 * slot + 512) (page + pages)) e
  where
    go : (o : Option Place) (b : Bool) → (is_some o && not b) ≡ true → IsSome o
    go None b e = absurd (cc)
    go (Some x) b e = refl

-- a slot that is not to be split is large only if it lies whole in the range; one that is does not
pub unsplit_large : (state : TableState) (page pages slot : ℕ) → is_split state page pages slot ≡ false →
    large_at state slot ≡ cond (lies_whole page pages slot) (large_at state slot) None
unsplit_large state page pages slot e = go (large_at state slot) (lies_whole page pages slot) e
  where
    go : (o : Option Place) (b : Bool) → (is_some o && not b) ≡ false → o ≡ cond b o None
    go None true e = refl
    go None false e = refl
    go (Some x) true e = refl
    go (Some x) false e = absurd (cc)

pub split_not_whole : (state : TableState) (page pages slot : ℕ) → is_split state page pages slot ≡ true → lies_whole page pages slot ≡ false
split_not_whole state page pages slot e = go (is_some (large_at state slot)) (lies_whole page pages slot) e
  where
    go : (a b : Bool) → (a && not b) ≡ true → b ≡ false
    go true true e = absurd (cc)
    go true false e = refl
    go false true e = absurd (cc)
    go false false e = refl

-- the first slot stays whole if the last one is split
pub first_still : (mid new : TableState) (page pages last : ℕ) → is_split mid page pages (page / 512) ≡ false → is_split new page pages (last / 512) ≡ false →
    ((n : ℕ) → (n ≡ slot_of (last / 512) → ⊥) → large_of new.words new.root n ≡ large_of mid.words mid.root n) →
    (slot_of (page / 512) ≡ slot_of (last / 512)) ⊎ (slot_of (page / 512) ≡ slot_of (last / 512) → ⊥) →
    (slot_of (page / 512) ≡ slot_of (last / 512) → page / 512 ≡ last / 512) → is_split new page pages (page / 512) ≡ false
first_still mid new page pages last first second larges (inl e) same = ap (is_split new page pages) (same e) ∙ second
first_still mid new page pages last first second larges (inr ne) same = rw (larges (slot_of (page / 512)) ne) first

-- no fault of a change
pub record HasNoChangeFault (state : TableState) (page pages : ℕ) : Type 0 where
  pub range : IsCanonicalRange page pages
  pub mapped : (k : ℕ) → k < pages → IsSome (leads state (page + k))
  pub room : splits state page pages ≤ free_count state.free

mapped_of : (o : Option Place) → is_none o ≡ false → IsSome o
mapped_of None e = absurd (cc)
mapped_of (Some x) e = refl

pub no_change_fault : (state : TableState) (page pages : ℕ) → 0 < pages → IsTrue (is_canonical (page * 4096)) →
    change_range_fault state page pages ≡ None → HasNoChangeFault state page pages
no_change_fault state page pages some canonical none =
    let zero_not : (pages == 0) ≡ false = grind (arith, nat_tests) in
    let f = go (pages == 0) (lies_in_half page pages) (lowest_unmapped state page pages)
    (ltb (free_count state.free) (splits state page pages)) (splits state page pages - free_count state.free) none
    zero_not in
    let half = f.0 in
    let few = f.2 in
    record {
      range = record { some = some; canonical = canonical; one_half = grind (arith, nat_tests) };
      mapped = λ k lt. mapped_of (leads state (page + k)) (none_of_all (λ at. is_none (leads state at)) page pages f.1 k lt);
      room = at_most (free_count state.free) (splits state page pages) few;
    }
  where
    at_most : (a b : ℕ) → ltb a b ≡ false → b ≤ a
    at_most a b e = grind (arith, nat_tests)

    go : (zero half : Bool) (hole : Option ℕ) (few : Bool) (wanting : ℕ) →
        cond zero None (cond (not half) (Some NotCanonical) (option_or (option_map NotMapped hole) (cond few (Some (NoFrames wanting)) None))) ≡ None →
        zero ≡ false → (half ≡ true) × (hole ≡ None) × (few ≡ false)
    go true half hole few wanting e z = absurd (cc)
    go false false hole few wanting e z = absurd (cc)
    go false true (Some x) few wanting e z = absurd (cc)
    go false true None true wanting e z = absurd (cc)
    go false true None false wanting e z = (refl, refl, refl)

-- and none of new bits
pub record HasNoProtectFault (state : TableState) (page pages : ℕ) (user : Bool) : Type 0 where
  pub change : HasNoChangeFault state page pages
  pub hidden : (k : ℕ) → k < pages → gives_area state (page + k) user ≡ false

pub no_protect_fault : (state : TableState) (page pages : ℕ) (user : Bool) → 0 < pages → IsTrue (is_canonical (page * 4096)) →
    protect_range_fault state page pages user ≡ None → HasNoProtectFault state page pages user
no_protect_fault state page pages user some canonical none =
    let zero_not : (pages == 0) ≡ false = grind (arith, nat_tests) in
    let f = go (pages == 0) (lies_in_half page pages) (lowest_unmapped state page pages) (lowest_giving state page pages user)
    (ltb (free_count state.free) (splits state page pages)) (splits state page pages - free_count state.free) none
    zero_not in
    record {
      change = no_change_fault state page pages some canonical f.0;
      hidden = none_of_all (λ at. gives_area state at user) page pages f.1;
    }
  where
    go : (zero half : Bool) (hole giving : Option ℕ) (few : Bool) (wanting : ℕ) →
        cond zero None (cond (not half) (Some NotCanonical) (option_or (option_map NotMapped hole)
        (option_or (option_map LeadsIntoArea giving) (cond few (Some (NoFrames wanting)) None)))) ≡ None →
        zero ≡ false →
        (cond zero None (cond (not half) (Some NotCanonical) (option_or (option_map NotMapped hole) (cond few (Some (NoFrames wanting)) None))) ≡ None)
        × (giving ≡ None)
    go true half hole giving few wanting e z = absurd (cc)
    go false false hole giving few wanting e z = absurd (cc)
    go false true (Some x) giving few wanting e z = absurd (cc)
    go false true None (Some x) few wanting e z = absurd (cc)
    go false true None None true wanting e z = absurd (cc)
    go false true None None false wanting e z = (refl, refl)

pub split_parts : (state : TableState) (page pages : ℕ) → IsCanonicalRange page pages →
    splits state page pages
    ≡ cond {A = ℕ} (is_split state page pages (page / 512)) 1 0
    + cond (not ((page + (pages - 1)) / 512 == page / 512) && is_split state page pages ((page + (pages - 1)) / 512)) 1 0
split_parts state page pages range =
    let some : 0 < pages = range.some in
    let z : (pages == 0) ≡ false = grind (arith, nat_tests) in
    rw z refl

none_split : (state : TableState) (page : ℕ) → free_count state.free + splits state page 0 ≡ free_count state.free
none_split state page = omega arith

-- a range of no pages is changed by nothing
pub none_unmapped : (state : TableState) (page : ℕ) → IsRangeUnmapped state state page 0
none_unmapped state page = record { unmapped = λ k lt. absurd (omega arith); free = none_split state page; large = λ slot canonical. refl; words = words_same (pages_of_range page 0) state }

pub none_granted : (state : TableState) (page : ℕ) (bits : Place → PageBits) → IsRangeGranted state state page 0 bits
none_granted state page bits = record {
  granted = λ k lt. absurd (omega arith);
  free = none_split state page;
  large = λ slot canonical. rw (none_whole page slot) refl;
  words = words_same (pages_of_range page 0) state;
}

-- ---- single pages

pub record IsEntryOk (state : TableState) (page : ℕ) : Type 0 where
  pub mapped : IsSome (leads state page)
  pub room : split_of state page ≤ free_count state.free

pub entry_ok : (state : TableState) (page : ℕ) → entry_fault state page ≡ None → IsEntryOk state page
entry_ok state page none =
    let f = go (leads state page) (ltb (free_count state.free) (split_of state page)) none in
    record { mapped = f.0; room = at_most (free_count state.free) (split_of state page) f.1 }
  where
    at_most : (a b : ℕ) → ltb a b ≡ false → b ≤ a
    at_most a b e = grind (arith, nat_tests)

    go : (o : Option Place) (few : Bool) → cond (is_none o) (Some Entry.NotMapped) (cond few (Some Entry.NoFrames) None) ≡ None → IsSome o × (few ≡ false)
    go None few e = absurd (cc)
    go (Some x) true e = absurd (cc)
    go (Some x) false e = (refl, refl)

pub not_split : (state : TableState) (page : ℕ) → large_of state.words state.root (slot_of (page / 512)) ≡ None → split_of state page ≡ 0
not_split state page none = rw none refl

pub is_one : (state : TableState) (page : ℕ) → IsSome (large_of state.words state.root (slot_of (page / 512))) → split_of state page ≡ 1
is_one state page some = rw (some_is (large_of state.words state.root (slot_of (page / 512))) some) refl

-- no fault of a page that is given bits
pub record IsProtectOk (state : TableState) (page : ℕ) (user : Bool) : Type 0 where
  pub entry : entry_fault state page ≡ None
  pub hidden : gives_area state page user ≡ false

pub protect_ok : (state : TableState) (page : ℕ) (user : Bool) → protect_fault state page user ≡ None → IsProtectOk state page user
protect_ok state page user none =
    let f = go (is_none (leads state page)) (gives_area state page user) (ltb (free_count state.free) (split_of state page)) none in
    record { entry = f.0; hidden = f.1 }
  where
    go : (away giving few : Bool) →
        cond away (Some Entry.NotMapped) (cond giving (Some Entry.InArea) (cond few (Some Entry.NoFrames) None)) ≡ None →
        (cond away (Some Entry.NotMapped) (cond few (Some Entry.NoFrames) None) ≡ None) × (giving ≡ false)
    go true giving few e = absurd (cc)
    go false true few e = absurd (cc)
    go false false true e = absurd (cc)
    go false false false e = (refl, refl)

-- what hinders no change hinders none by which users would not reach the area
pub protect_open : (state : TableState) (page : ℕ) (user : Bool) → entry_fault state page ≡ None → gives_area state page user ≡ false →
    protect_fault state page user ≡ None
protect_open state page user entry hidden =
    go (is_none (leads state page)) (gives_area state page user) (ltb (free_count state.free) (split_of state page)) entry hidden
  where
    go : (away giving few : Bool) → cond away (Some Entry.NotMapped) (cond few (Some Entry.NoFrames) None) ≡ None → giving ≡ false →
        cond away (Some Entry.NotMapped) (cond giving (Some Entry.InArea) (cond few (Some Entry.NoFrames) None)) ≡ None
    go true giving few e f = absurd (cc)
    go false true few e f = absurd (cc)
    go false false true e f = absurd (cc)
    go false false false e f = refl

-- a page that leads where it led, beside the same area
pub still_open : (old new : TableState) (page : ℕ) (user : Bool) → new.area ≡ old.area → leads new page ≡ leads old page →
    gives_area old page user ≡ false → gives_area new page user ≡ false
still_open old new page user area led hidden =
    ap (λ a. user && place_in a (leads new page)) area ∙ (ap (λ o. user && place_in old.area o) led ∙ hidden)
