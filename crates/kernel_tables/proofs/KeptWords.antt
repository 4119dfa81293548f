-- Which words stay: after a single change, and after one change behind another.
use Rattle.std.proofs.Common.{◌≡◌, ℕ, zero, suc, ◌+◌, ◌*◌, ◌/◌, ◌%◌, ◌<◌, ◌≤◌, Bool, true, false, List, set, Option, Some, None, refl, sym, ap, subst, ◌∙◌, ◌⊎◌, inl, inr, arith}
use Rattle.std.proofs.lemmas.Bool.{cases_eq, cases_lt}
use Rattle.std.proofs.lemmas.Bool.Decides.{nat_tests}
use Rattle.paging_core.specs.Area.{Area}
use Rattle.paging_core.specs.Large.{slot_of, above, IsLargeAdded}
use Rattle.paging_core.specs.LargeChanges.{IsLargeSplit}
use Rattle.paging_core.specs.Mapping.{IsPageAdded}
use Rattle.paging_core.specs.Memory.{word_at}
use Rattle.paging_core.specs.Pool.{is_frame_free}
use Rattle.paging_core.specs.Prefix.{prefix_of}
use Rattle.paging_core.specs.Tree.{IsTreeIn}
use Rattle.paging_core.specs.Walk.{Place, reach, top}
use Rattle.paging_core.specs.declared.page_table.PageBits.{PageBits}
use Rattle.paging_core.proofs.Areas.{own_table}
use Rattle.paging_core.proofs.Made.{taken_flag, fewer_flags}
use Rattle.paging_core.proofs.Words.{word_at_set_other}
use Rattle.kernel_tables.specs.Flush.{page_alone, pages_of_slot, pages_of_range}
use Rattle.kernel_tables.specs.TableState.{TableState, DoTablesStay}
use Rattle.kernel_tables.specs.Words.{IsOnTheWay, KeepsOtherWords}

-- nothing is changed
pub words_same : (pages : ℕ → Bool) (state : TableState) → KeepsOtherWords pages state state
words_same pages state = record {
  fewer = λ f e. e;
  made = λ l n met lt none is. absurd (let e = sym none ∙ is in cc);
  words = λ f i li still off. refl;
}

-- the entry is found in a table that is met or in none
met_or : (o : Option Place) → (o ≡ None) ⊎ ((p : Place) × (o ≡ Some p))
met_or None = inl refl
met_or (Some p) = inr (p, refl)

-- a flag that is not false
not_false : (b : Bool) → (b ≡ false → ⊥) → b ≡ true
not_false true n = refl
not_false false n = absurd (n refl)

some_same : (o : Option Place) (a b : Place) → o ≡ Some a → o ≡ Some b → a ≡ b
some_same o a b x y = let e : ◌≡◌ {A = Option Place} (Some a) (Some b) = sym x ∙ y in cc

-- one change behind another
module _ {first second pages : ℕ → Bool} {old mid new : TableState} (a : KeepsOtherWords first old mid) (b : KeepsOtherWords second mid new)
    (stay : DoTablesStay old mid) (stay' : DoTablesStay mid new)
    (of_first : (page : ℕ) → first page ≡ true → pages page ≡ true) (of_second : (page : ℕ) → second page ≡ true → pages page ≡ true) where
  -- a frame that was free in between was free before
  before : (f : ℕ) → is_frame_free mid.free f ≡ true → is_frame_free old.free f ≡ true
  before f e = not_false (is_frame_free old.free f) (λ no. let x = a.fewer f no in absurd (cc))

  made : (l n : ℕ) (met : Place) → l < 4 → reach old.words old.root l n ≡ None → reach new.words new.root l n ≡ Some met →
      (reach mid.words mid.root l n ≡ None) ⊎ ((p : Place) × (reach mid.words mid.root l n ≡ Some p)) →
      (is_frame_free old.free met.frame ≡ true) × (is_frame_free new.free met.frame ≡ false)
  made l n met lt none is (inl e) = let m = b.made l n met lt e is in (before met.frame m.0, m.1)
  made l n met lt none is (inr x) =
      let m = a.made l n x.0 lt none x.1 in
      let e : x.0 ≡ met = some_same (reach new.words new.root l n) x.0 met (stay' l n x.0 lt x.1) is in
      let m0 = m.0 in
      let m1 = b.fewer x.0.frame m.1 in
      (subst (λ (p : Place). is_frame_free old.free p.frame ≡ true) e m0, subst (λ (p : Place). is_frame_free new.free p.frame ≡ false) e m1)

  pub words_then : KeepsOtherWords pages old new
  words_then = record {
    fewer = λ f e. b.fewer f (a.fewer f e);
    made = λ l n met lt none is. made l n met lt none is (met_or (reach mid.words mid.root l n));
    words = λ f i li still off.
        b.words f i li (λ e. still (before f e)) (λ w. off (back f i still w (met_or (reach old.words old.root w.level (prefix_of w.page w.level)))))
        ∙ a.words f i li (λ e. kept f (still e)) (λ w. off (widen f i w));
  }
    where
      kept : (f : ℕ) → is_frame_free new.free f ≡ true → is_frame_free mid.free f ≡ true
      kept f e = not_false (is_frame_free mid.free f) (λ no. let x = b.fewer f no in absurd (cc))

      widen : (f i : ℕ) → IsOnTheWay first old f i → IsOnTheWay pages old f i
      widen f i w = record {
        page = w.page;
        level = w.level;
        table = w.table;
        named = of_first w.page w.named;
        of_table = w.of_table;
        met = w.met;
        here = w.here;
        by_index = w.by_index;
      }

      back : (f i : ℕ) → (is_frame_free old.free f ≡ true → is_frame_free new.free f ≡ true) → (w : IsOnTheWay second mid f i) →
          (reach old.words old.root w.level (prefix_of w.page w.level) ≡ None)
          ⊎ ((p : Place) × (reach old.words old.root w.level (prefix_of w.page w.level) ≡ Some p)) →
          IsOnTheWay pages old f i
      back f i still w (inr x) =
          let e : x.0 ≡ w.table =
          some_same (reach mid.words mid.root w.level (prefix_of w.page w.level)) x.0 w.table (stay w.level (prefix_of w.page w.level) x.0 w.of_table x.1) w.met in
          record {
            page = w.page;
            level = w.level;
            table = x.0;
            named = of_second w.page w.named;
            of_table = w.of_table;
            met = x.1;
            here = ap (λ (p : Place). p.frame) e ∙ w.here;
            by_index = w.by_index;
          }
      back f i still w (inl none) =
          let m = a.made w.level (prefix_of w.page w.level) w.table w.of_table none w.met in
          let was : is_frame_free old.free f ≡ true = subst (λ g. is_frame_free old.free g ≡ true) w.here m.0 in
          let not : is_frame_free mid.free f ≡ false = subst (λ g. is_frame_free mid.free g ≡ false) w.here m.1 in
          let gone : is_frame_free new.free f ≡ false = b.fewer f not in
          let is = still was in
          absurd (cc)

-- one entry on the way to a page was written, and no table is met elsewhere
pub entry_words : (pages : ℕ → Bool) (state : TableState) (words : List ℕ) (area : Area) (page level value : ℕ) (table : Place) →
    pages page ≡ true → level < 4 → reach state.words state.root level (prefix_of page level) ≡ Some table →
    words ≡ set state.words (512 * table.frame + prefix_of page (level + 1) % 512) value →
    ((l n : ℕ) → l < 4 → reach words state.root l n ≡ reach state.words state.root l n) →
    KeepsOtherWords pages state (record { words = words; area = area; root = state.root; free = state.free; shared = state.shared })
entry_words pages state words area page level value table named lt met written stayed = record {
  fewer = λ f e. e;
  made = λ l n met ll none is. absurd (let e = sym none ∙ (sym (stayed l n ll) ∙ is) in cc);
  words = λ f i li still off.
      ap (λ ws. word_at ws f i) written
      ∙ word_at_set_other state.words table.frame (prefix_of page (level + 1) % 512) value f i (omega arith) li
      (λ ef ei. off (record {
        page = page;
        level = level;
        table = table;
        named = named;
        of_table = lt;
        met = met;
        here = sym ef;
        by_index = ei;
      }));
}

-- the large page of a page's slot was split
pub split_words : (pages : ℕ → Bool) (old new : TableState) (page slot : ℕ) → pages page ≡ true → slot ≡ page / 512 → new.root ≡ old.root →
    IsLargeSplit old.words new.words old.free new.free old.root slot → KeepsOtherWords pages old new
split_words pages old new page slot named here root split = record {
  fewer = λ f e. rw split.taken (fewer_flags old.free split.made f e);
  made = λ l n met lt none is. made l n met none (rw root at is) (cases_eq l 3) (cases_eq n (slot_of slot)) lt;
  words = λ f i li still off. split.words f i li (λ e. fresh f still e) (λ at is ef ei. off (record {
    page = page;
    level = 2;
    table = at;
    named = named;
    of_table = omega arith;
    met = ap (reach old.words old.root 2) two ∙ is;
    here = sym ef;
    by_index = ei ∙ last;
  }));
}
  where
    two : prefix_of page 2 ≡ above slot 2
    two = omega (arith, here)

    last : slot_of slot % 512 ≡ prefix_of page 3 % 512
    last = omega (arith, here)

    free_now : is_frame_free new.free split.made ≡ false
    free_now = rw split.taken (taken_flag old.free split.made split.was_free)

    fresh : (f : ℕ) → (is_frame_free old.free f ≡ true → is_frame_free new.free f ≡ true) → f ≡ split.made → ⊥
    fresh f still e =
        let was : is_frame_free old.free f ≡ true = rw e split.was_free in
        let is = still was in
        let no : is_frame_free new.free f ≡ false = rw e free_now in
        absurd (cc)

    made : (l n : ℕ) (met : Place) → reach old.words old.root l n ≡ None → reach new.words old.root l n ≡ Some met →
        (l ≡ 3) ⊎ (l ≡ 3 → ⊥) → (n ≡ slot_of slot) ⊎ (n ≡ slot_of slot → ⊥) → l < 4 →
        (is_frame_free old.free met.frame ≡ true) × (is_frame_free new.free met.frame ≡ false)
    made l n met none is (inl e) (inl s) lt =
        let m : met ≡ top split.made = some_same (reach new.words old.root 3 (slot_of slot)) met (top split.made) (rw (e, s) at is) split.table in
        (rw m split.was_free, rw m free_now)
    made l n met none is (inr e) s lt = absurd (let x = sym none ∙ (sym (split.others l n (omega (arith, lt)) (λ y _. e y)) ∙ is) in cc)
    made l n met none is (inl e) (inr s) lt = absurd (let x = sym none ∙ (sym (split.others l n (omega (arith, lt)) (λ _ y. s y)) ∙ is) in cc)

-- ---- which pages these are

pub alone_is : (page : ℕ) → page_alone page page ≡ true
alone_is page = grind (arith, nat_tests)

pub alone_within : (page pages at : ℕ) → page ≤ at → at < page + pages → (other : ℕ) → page_alone at other ≡ true → pages_of_range page pages other ≡ true
alone_within page pages at lo hi other e = grind (arith, nat_tests)

pub slot_within : (page pages slot : ℕ) → page ≤ 512 * slot → 512 * slot + 512 ≤ page + pages → (other : ℕ) → pages_of_slot slot other ≡ true → pages_of_range page pages other ≡ true
slot_within page pages slot lo hi other e =
    let s : other / 512 ≡ slot = is_slot other slot e in
    within page pages other (omega arith) (omega arith)
  where
    is_slot : (other slot : ℕ) → pages_of_slot slot other ≡ true → other / 512 ≡ slot
    is_slot other slot e = grind (arith, nat_tests)

    within : (page pages other : ℕ) → page ≤ other → other < page + pages → pages_of_range page pages other ≡ true
    within page pages other lo hi = grind (arith, nat_tests)

pub slot_has : (slot : ℕ) → pages_of_slot slot (512 * slot) ≡ true
slot_has slot = let e : 512 * slot / 512 ≡ slot = omega arith in rw e (alone_is slot)

pub slot_index : (slot : ℕ) → slot_of slot % 512 ≡ prefix_of (512 * slot) 3 % 512
slot_index slot = omega arith

-- ---- pages that were mapped

-- one of the levels below `k` meets the frame, or none does
any_hit : (hit : ℕ → Type 0) → (k : ℕ) → ((l : ℕ) → l < k → hit l ⊎ (hit l → ⊥)) → ((l : ℕ) → l < k → hit l → ⊥) ⊎ ((l : ℕ) × (l < k) × hit l)
any_hit hit zero test = inl (λ l lt h. omega (arith, lt))
any_hit hit (suc k) test = go (any_hit hit k (λ l lt. test l (omega (arith, lt)))) (test k (omega arith))
  where
    go : ((l : ℕ) → l < k → hit l → ⊥) ⊎ ((l : ℕ) × (l < k) × hit l) → hit k ⊎ (hit k → ⊥) →
        ((l : ℕ) → l < suc k → hit l → ⊥) ⊎ ((l : ℕ) × (l < suc k) × hit l)
    go (inr x) t = let lt = x.1 in inr (x.0, omega (arith, lt), x.2)
    go (inl none) (inl h) = inr (k, omega arith, h)
    go (inl none) (inr off) = inl (λ l lt h. each l lt h (cases_eq l k))
      where
        each : (l : ℕ) → l < suc k → hit l → (l ≡ k) ⊎ (l ≡ k → ⊥) → ⊥
        each l lt h (inl e) = off (subst hit e h)
        each l lt h (inr ne) = none l (omega (arith, lt, ne)) h

meets_or : (o : Option Place) (f : ℕ) → ((p : Place) → o ≡ Some p → p ≡ top p.frame) → (o ≡ Some (top f)) ⊎ (o ≡ Some (top f) → ⊥)
meets_or None f rights = inr (λ e. absurd (cc))
meets_or (Some p) f rights = go (cases_eq p.frame f)
  where
    go : (p.frame ≡ f) ⊎ (p.frame ≡ f → ⊥) → (◌≡◌ {A = Option Place} (Some p) (Some (top f))) ⊎ (◌≡◌ {A = Option Place} (Some p) (Some (top f)) → ⊥)
    go (inl e) = inl (ap Some (rights p refl ∙ ap top e))
    go (inr ne) = inr (λ e. let x : p ≡ top f = cc in ne (ap (λ (q : Place). q.frame) x))

index_of : (n i p : ℕ) → i < 512 → 512 * n + i ≡ p → i ≡ p % 512
index_of n i p li e = omega (arith, li, e)

module _ (pages : ℕ → Bool) (old new : TableState) (area : Area) (page frame : ℕ) (rights : PageBits) (named : pages page ≡ true) (root : new.root ≡ old.root)
    (added : IsPageAdded old.words new.words old.free new.free old.root page frame rights) (tree : IsTreeIn area new.words old.root new.free) where
  pub added_words : KeepsOtherWords pages old new
  added_words = record {
    fewer = added.fewer;
    made = λ l n met lt none is. made l n met lt none (rw root at is) (cases_eq n (prefix_of page l));
    words = λ f i li still off.
        words f i li still off (any_hit (λ l. reach new.words old.root l (prefix_of page l) ≡ Some (top f)) 4
        (λ l lt. meets_or (reach new.words old.root l (prefix_of page l)) f (λ p is. tree.rights l (prefix_of page l) p lt is)));
  }
    where
      made : (l n : ℕ) (met : Place) → l < 4 → reach old.words old.root l n ≡ None → reach new.words old.root l n ≡ Some met →
          (n ≡ prefix_of page l) ⊎ (n ≡ prefix_of page l → ⊥) → (is_frame_free old.free met.frame ≡ true) × (is_frame_free new.free met.frame ≡ false)
      made l n met lt none is (inl e) =
          let m = added.made l lt (rw e at none) in
          let same : met ≡ top m.0 = some_same (reach new.words old.root l (prefix_of page l)) met (top m.0) (rw e at is) m.1 in
          let was = m.2 in
          (rw same was, tree.used l n met (own_table area l lt) is)
      made l n met lt none is (inr ne) = absurd (let x = sym none ∙ (sym (added.others l n (omega (arith, lt)) ne) ∙ is) in cc)

      entry : (f i l : ℕ) → i < 512 → (is_frame_free old.free f ≡ true → is_frame_free new.free f ≡ true) → (IsOnTheWay pages old f i → ⊥) → l < 4 →
          reach new.words old.root l (prefix_of page l) ≡ Some (top f) →
          (reach old.words old.root l (prefix_of page l) ≡ None) ⊎ ((p : Place) × (reach old.words old.root l (prefix_of page l) ≡ Some p)) →
          word_at new.words f i ≡ word_at old.words f i
      entry f i l li still off lt hit (inl none) =
          let m = made l (prefix_of page l) (top f) lt none hit (inl refl) in
          let is = still m.0 in
          let no = m.1 in
          absurd (cc)
      entry f i l li still off lt hit (inr x) =
          let same : x.0 ≡ top f = some_same (reach new.words old.root l (prefix_of page l)) x.0 (top f) (added.stayed l (prefix_of page l) x.0 lt x.1) hit in
          let was : reach old.words old.root l (prefix_of page l) ≡ Some (top f) = x.1 ∙ ap Some same in
          added.entries.old_words l (prefix_of page l) f i lt li was
          (added.others (l + 1) (512 * prefix_of page l + i) (omega (arith, lt)) (λ e. off (record {
            page = page;
            level = l;
            table = top f;
            named = named;
            of_table = lt;
            met = was;
            here = refl;
            by_index = index_of (prefix_of page l) i (prefix_of page (l + 1)) li e;
          })))

      words : (f i : ℕ) → i < 512 → (is_frame_free old.free f ≡ true → is_frame_free new.free f ≡ true) → (IsOnTheWay pages old f i → ⊥) →
          ((l : ℕ) → l < 4 → reach new.words old.root l (prefix_of page l) ≡ Some (top f) → ⊥)
          ⊎ ((l : ℕ) × (l < 4) × (reach new.words old.root l (prefix_of page l) ≡ Some (top f))) →
          word_at new.words f i ≡ word_at old.words f i
      words f i li still off (inl none) = added.words f i li none
      words f i li still off (inr x) = entry f i x.0 li still off x.1 x.2 (met_or (reach old.words old.root x.0 (prefix_of page x.0)))

module _ (pages : ℕ → Bool) (old new : TableState) (area : Area) (slot frame : ℕ) (rights : PageBits) (named : pages (512 * slot) ≡ true) (root : new.root ≡ old.root)
    (added : IsLargeAdded old.words new.words old.free new.free old.root slot frame rights) (tree : IsTreeIn area new.words old.root new.free) where
  pub large_words : KeepsOtherWords pages old new
  large_words = record {
    fewer = added.fewer;
    made = λ l n met lt none is. made l n met lt none (rw root at is) (cases_lt l 3) (cases_eq n (above slot l));
    words = λ f i li still off.
        words f i li still off (any_hit (λ l. reach new.words old.root l (above slot l) ≡ Some (top f)) 3
        (λ l lt. meets_or (reach new.words old.root l (above slot l)) f (λ p is. tree.rights l (above slot l) p (omega (arith, lt)) is)));
  }
    where
      made : (l n : ℕ) (met : Place) → l < 4 → reach old.words old.root l n ≡ None → reach new.words old.root l n ≡ Some met → (l < 3) ⊎ (3 ≤ l) →
          (n ≡ above slot l) ⊎ (n ≡ above slot l → ⊥) → (is_frame_free old.free met.frame ≡ true) × (is_frame_free new.free met.frame ≡ false)
      made l n met lt none is (inl lt3) (inl e) =
          let m = added.made l lt3 (rw e at none) in
          let same : met ≡ top m.0 = some_same (reach new.words old.root l (above slot l)) met (top m.0) (rw e at is) m.1 in
          let was = m.2 in
          (rw same was, tree.used l n met (own_table area l lt) is)
      made l n met lt none is (inl lt3) (inr ne) =
          absurd (let x = sym none ∙ (sym (added.others l n (omega (arith, lt)) (λ _. ne) (λ e _. absurd (omega (arith, lt, e)))) ∙ is) in cc)
      made l n met lt none is (inr ge) ne =
          absurd (let x = sym none ∙ (sym (added.others l n (omega (arith, lt)) (λ k _. omega (arith, k, ge)) (λ e _. absurd (omega (arith, lt, e)))) ∙ is) in cc)

      third : (l : ℕ) → l ≡ 2 → slot_of slot ≡ above slot (l + 1)
      third l two = rw two (let e : slot_of slot ≡ above slot 3 = omega arith in e)

      entry : (f i l : ℕ) → i < 512 → (is_frame_free old.free f ≡ true → is_frame_free new.free f ≡ true) → (IsOnTheWay pages old f i → ⊥) → l < 3 →
          reach new.words old.root l (above slot l) ≡ Some (top f) →
          (reach old.words old.root l (above slot l) ≡ None) ⊎ ((p : Place) × (reach old.words old.root l (above slot l) ≡ Some p)) →
          word_at new.words f i ≡ word_at old.words f i
      entry f i l li still off lt hit (inl none) =
          let m = made l (above slot l) (top f) (omega (arith, lt)) none hit (inl lt) (inl refl) in
          let is = still m.0 in
          let no = m.1 in
          absurd (cc)
      entry f i l li still off lt hit (inr x) =
          let same : x.0 ≡ top f = some_same (reach new.words old.root l (above slot l)) x.0 (top f) (added.stayed l (above slot l) x.0 (omega (arith, lt)) x.1) hit in
          let was : reach old.words old.root l (above slot l) ≡ Some (top f) = x.1 ∙ ap Some same in
          let not : 512 * above slot l + i ≡ above slot (l + 1) → ⊥ = λ e. off (record {
            page = 512 * slot;
            level = l;
            table = top f;
            named = named;
            of_table = omega (arith, lt);
            met = was;
            here = refl;
            by_index = index_of (above slot l) i (above slot (l + 1)) li e;
          }) in
          added.entries.old_words l (above slot l) f i (omega (arith, lt)) li was
          (added.others (l + 1) (512 * above slot l + i) (omega (arith, lt)) (λ _. not) (λ e _. absurd (omega (arith, lt, e))))
          (λ two e. not (e ∙ third l two))

      words : (f i : ℕ) → i < 512 → (is_frame_free old.free f ≡ true → is_frame_free new.free f ≡ true) → (IsOnTheWay pages old f i → ⊥) →
          ((l : ℕ) → l < 3 → reach new.words old.root l (above slot l) ≡ Some (top f) → ⊥)
          ⊎ ((l : ℕ) × (l < 3) × (reach new.words old.root l (above slot l) ≡ Some (top f))) →
          word_at new.words f i ≡ word_at old.words f i
      words f i li still off (inl none) = added.words f i li none
      words f i li still off (inr x) = entry f i x.0 li still off x.1 x.2 (met_or (reach old.words old.root x.0 (above slot x.0)))

-- ---- from inside: the root stays

module _ {old inside : TableState} {words : List ℕ} {area area' : Area} {free : List Bool} (view : inside ≡ old) (page frame : ℕ) (rights : PageBits) where
  pub added_words_seen : IsPageAdded inside.words words inside.free free inside.root page frame rights → IsTreeIn area words inside.root free →
      KeepsOtherWords (page_alone page) old (record { words = words; area = area'; root = inside.root; free = free; shared = inside.shared })
  added_words_seen added tree =
      subst (λ (s : TableState). KeepsOtherWords (page_alone page) s (record { words = words; area = area'; root = inside.root; free = free; shared = inside.shared })) view
      (added_words (page_alone page) inside (record { words = words; area = area'; root = inside.root; free = free; shared = inside.shared }) area page frame rights (alone_is page) refl added tree)

  pub large_words_seen : IsLargeAdded inside.words words inside.free free inside.root page frame rights → IsTreeIn area words inside.root free →
      KeepsOtherWords (pages_of_slot page) old (record { words = words; area = area'; root = inside.root; free = free; shared = inside.shared })
  large_words_seen added tree =
      subst (λ (s : TableState). KeepsOtherWords (pages_of_slot page) s (record { words = words; area = area'; root = inside.root; free = free; shared = inside.shared })) view
      (large_words (pages_of_slot page) inside (record { words = words; area = area'; root = inside.root; free = free; shared = inside.shared }) area page frame rights (slot_has page) refl added tree)
