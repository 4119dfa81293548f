-- Ranges of pages that are mapped one after the other.
use Rattle.std.proofs.Common.{◌≡◌, ℕ, ◌+◌, ◌*◌, ◌/◌, ◌%◌, ◌<◌, ◌≤◌, Bool, true, false, List, Some, None, refl, sym, ap, ◌∙◌, ◌⊎◌, inl, inr, arith}
use Rattle.std.proofs.lemmas.Bool.{cases_lt, cases_Bool}
use Rattle.std.specs.Prelude.{IsTrue}
use Rattle.paging_core.specs.Address.{is_canonical, IsCanonicalRange}
use Rattle.paging_core.specs.Memory.{word_at, byte_of}
use Rattle.paging_core.specs.Entry.{table_entry, page_entry}
use Rattle.paging_core.specs.Prefix.{prefix_of}
use Rattle.paging_core.specs.Pool.{is_frame_free, free_count}
use Rattle.paging_core.specs.Walk.{Place, reach, large_of, walk_of, reached, top, place_with}
use Rattle.paging_core.specs.Tree.{IsTree}
use Rattle.paging_core.specs.Missing.{missing_of}
use Rattle.paging_core.specs.Mapping.{IsNewPage, IsRangeAdded}
use Rattle.paging_core.specs.declared.page_table.PageBits.{PageBits}
use Rattle.paging_core.proofs.Prefixes.{walk_reach, none_child}
use Rattle.paging_core.proofs.Reach.{reach_none, table_none}
use Rattle.paging_core.proofs.LastEntry.{some_or_none}
use Rattle.paging_core.proofs.Ranges.{missing_none, missing_step, missing_le, page_in, page_canonical, range_front, same_number}
use Rattle.paging_core.proofs.FreshFrame.{free_before}

pub range_start : (words : List ℕ) (free : List Bool) (root first : ℕ) (rights : PageBits) → IsTree words root free →
    IsRangeAdded words words free free root first 0 rights
range_start words free root first rights tree = record {
  size = refl;
  flags = refl;
  tree = tree;
  mapped = λ k lt. absurd (omega arith);
  tables = λ l k lt lk. absurd (omega arith);
  others = λ l n le ne. refl;
  larges = λ n. refl;
  stayed = λ l n met le is. is;
  made = λ l n met lt none is. absurd (cc);
  fewer = λ f e. e;
  lowest = λ f g was now other. absurd (cc);
  kept = λ f e ne. e;
  count = let z = missing_none words root first in omega arith;
  ascending = λ j k place later lt lk was now. absurd (omega arith);
  tables_before = λ j k l table later lt lk ll none now found. absurd (omega arith);
  tables_after = λ k l place table lk ll none apart found now. absurd (omega arith);
  pages_stay = λ other place is. is;
  bytes_stay = λ other place i is li. refl;
  words = λ f i li held untabled. refl;
  free_words = λ f i li still. refl;
  entries = record {
    old_words = λ l n f i lt li was keeps. refl;
    blank = λ l n f i lt li none now gone. absurd (cc);
    table_words = λ l n f i made lt li here none now. absurd (cc);
    page_words = λ n f i place li here none now. absurd (cc);
  };
}

module _ (old mid : List ℕ) (free free1 : List Bool) (root first pages k : ℕ) (rights : PageBits)
    (range : IsCanonicalRange first pages)
    (lt : k < pages)
    (added : IsRangeAdded old mid free free1 root first k rights) where
  step_count : missing_of old root first (k + 1) ≡ missing_of old root first k + missing_of mid root (first + k) 1
  step_count = missing_step old mid root first k (range_front first pages k range lt) added.tables added.others

  -- the pool still has a frame for the next page and for the tables that it misses
  pub next_room : pages + missing_of old root first pages ≤ free_count free → 1 + missing_of mid root (first + k) 1 ≤ free_count free1
  next_room room =
      let s = step_count in
      let c = added.count in
      let m = missing_le old root first (k + 1) pages range (omega arith) in
      omega arith

  -- the next page is not mapped yet
  pub next_unmapped : walk_of old root (first + k) ≡ None → walk_of mid root (first + k) ≡ None
  next_unmapped none =
      walk_reach mid root (first + k)
      ∙ (added.others 4 (prefix_of (first + k) 4) (omega arith) (λ j lj e.
      let pj = page_in first pages j range (omega arith) in
      let pk = page_in first pages k range lt in
      omega arith)
      ∙ (sym (walk_reach old root (first + k)) ∙ none))

  module _ (new : List ℕ) (free' : List Bool) (next : IsRangeAdded mid new free1 free' root (first + k) 1 rights) where
    last : first + k + 0 ≡ first + k
    last = omega arith

    mapped_of : (j : ℕ) → j < k + 1 → (j < k) ⊎ (k ≤ j) → IsNewPage new free free' root (first + j) rights
    mapped_of j lj (inl h) =
        let p = added.mapped j h in
        record {
          frame = p.frame;
          found = next.pages_stay (first + j) _ p.found;
          was_free = p.was_free;
          taken = next.fewer p.frame p.taken;
          zeros = λ i li. next.bytes_stay (first + j) _ i p.found li ∙ p.zeros i li;
        }
    mapped_of j lj (inr h) =
        let p = next.mapped 0 (omega arith) in
        let e : first + j ≡ first + k + 0 = omega arith in
        rw e (record {
          frame = p.frame;
          found = p.found;
          was_free = free_before free free1 added.fewer p.frame p.was_free;
          taken = p.taken;
          zeros = p.zeros;
        })

    -- where a page of the range is found, and what was found there before
    same_place : (j : ℕ) (place : Place) → (h : j < k) → walk_of new root (first + j) ≡ Some place → walk_of mid root (first + j) ≡ Some place
    same_place j place h found =
        let p = added.mapped j h in
        let now = next.pages_stay (first + j) (place_with p.frame rights) p.found in
        let same : place_with p.frame rights ≡ place = cc in
        p.found ∙ ap Some same

    ascending : (i j : ℕ) (place later : Place) → i < j → j < k + 1 → walk_of new root (first + i) ≡ Some place → walk_of new root (first + j) ≡ Some later →
        (j < k) ⊎ (k ≤ j) → place.frame < later.frame
    ascending i j place later lt lj was now (inl h) =
        added.ascending i j place later lt h (same_place i place (omega arith) was) (same_place j later h now)
    ascending i j place later lt lj was now (inr h) =
        let p = added.mapped i (omega arith) in
        let q = next.mapped 0 (omega arith) in
        let e : first + k + 0 ≡ first + j = omega arith in
        let there : walk_of new root (first + j) ≡ Some (place_with q.frame rights) = rw (← e) q.found in
        let here = same_place i place (omega arith) was in
        let a = p.found in
        let x : place_with p.frame rights ≡ place = cc in
        let y : place_with q.frame rights ≡ later = cc in
        let f : p.frame ≡ place.frame = ap (λ m. m.frame) x in
        let g : q.frame ≡ later.frame = ap (λ m. m.frame) y in
        rw (← f, ← g) (added.lowest p.frame q.frame p.was_free p.taken q.was_free)

    tables_before : (i j l : ℕ) (table later : Place) → i < j → j < k + 1 → l < 4 → reach old root l (prefix_of (first + i) l) ≡ None →
        reach new root l (prefix_of (first + i) l) ≡ Some table → walk_of new root (first + j) ≡ Some later → (j < k) ⊎ (k ≤ j) → table.frame < later.frame
    tables_before i j l table later lt lj ll none now found side = go side
      where
        t : (t : ℕ) × (reach mid root l (prefix_of (first + i) l) ≡ Some (top t))
        t = added.tables l i ll (omega arith)

        here : reach mid root l (prefix_of (first + i) l) ≡ Some table
        here =
            let was = t in
            let s = next.stayed l (prefix_of (first + i) l) (top was.0) (omega arith) was.1 in
            let same : top was.0 ≡ table = cc in
            was.1 ∙ ap Some same

        go : (j < k) ⊎ (k ≤ j) → table.frame < later.frame
        go (inl h) = added.tables_before i j l table later lt h ll none here (same_place j later h found)
        go (inr h) =
            let q = next.mapped 0 (omega arith) in
            let e : first + k + 0 ≡ first + j = omega arith in
            let there : walk_of new root (first + j) ≡ Some (place_with q.frame rights) = rw (← e) q.found in
            let y : place_with q.frame rights ≡ later = cc in
            let g : q.frame ≡ later.frame = ap (λ m. m.frame) y in
            let was : is_frame_free free table.frame ≡ true = added.made l (prefix_of (first + i) l) table ll none here in
            let gone : is_frame_free free1 table.frame ≡ false = added.tree.used l (prefix_of (first + i) l) table (omega arith) here in
            rw (← g) (added.lowest table.frame q.frame was gone q.was_free)

    tables_after : (j l : ℕ) (place table : Place) → j < k + 1 → l < 4 → reach old root l (prefix_of (first + j) l) ≡ None →
        ((i : ℕ) → i < j → prefix_of (first + j) l ≡ prefix_of (first + i) l → ⊥) → walk_of new root (first + j) ≡ Some place →
        reach new root l (prefix_of (first + j) l) ≡ Some table → (j < k) ⊎ (k ≤ j) → place.frame < table.frame
    tables_after j l place table lj ll none apart found now (inl h) =
        let t = added.tables l j ll h in
        let s = next.stayed l (prefix_of (first + j) l) (top t.0) (omega arith) t.1 in
        let same : top t.0 ≡ table = cc in
        added.tables_after j l place table h ll none apart (same_place j place h found) (t.1 ∙ ap Some same)
    tables_after j l place table lj ll none apart found now (inr h) =
        let e : j ≡ k = omega arith in
        let z : first + j ≡ first + k + 0 = omega arith in
        let gone : reach mid root l (prefix_of (first + j) l) ≡ None =
        added.others l (prefix_of (first + j) l) (omega arith) (λ i li. apart i (omega arith)) ∙ none in
        next.tables_after 0 l place table (omega arith) ll (rw z at gone) (λ i li. absurd (omega arith)) (rw z at found) (rw z at now)

    tables_of : (l j : ℕ) → l < 4 → j < k + 1 → (j < k) ⊎ (k ≤ j) → (table : ℕ) × (reach new root l (prefix_of (first + j) l) ≡ Some (top table))
    tables_of l j ll lj (inl h) =
        let t = added.tables l j ll h in
        (t.0, next.stayed l (prefix_of (first + j) l) (top t.0) (omega arith) t.1)
    tables_of l j ll lj (inr h) = let e : first + j ≡ first + k + 0 = omega arith in rw e (next.tables l 0 ll (omega arith))

    made_of : (l n : ℕ) (met : Place) → l < 4 → reach old root l n ≡ None → reach new root l n ≡ Some met →
        ((m : Place) × (reach mid root l n ≡ Some m)) ⊎ (reach mid root l n ≡ None) → is_frame_free free met.frame ≡ true
    made_of l n met ll none now (inl p) =
        let s = next.stayed l n p.0 (omega arith) p.1 in
        let same : p.0 ≡ met = cc in
        added.made l n met ll none (p.1 ∙ ap Some same)
    made_of l n met ll none now (inr gone) = free_before free free1 added.fewer met.frame (next.made l n met ll gone now)

    words_of : (f i : ℕ) → i < 512 → is_frame_free free f ≡ false → ((l n : ℕ) → l < 4 → reach old root l n ≡ Some (top f) →
        ⊥) → word_at new f i ≡ word_at old f i
    words_of f i li held untabled =
        next.words f i li (added.fewer f held) (λ l n ll now. table l n ll now (some_or_none (reach old root l n)))
        ∙ added.words f i li held untabled
      where
        table : (l n : ℕ) → l < 4 → reach mid root l n ≡ Some (top f) →
            ((m : Place) × (reach old root l n ≡ Some m)) ⊎ (reach old root l n ≡ None) → ⊥
        table l n ll now (inl p) =
            let s = added.stayed l n p.0 (omega arith) p.1 in
            let same : p.0 ≡ top f = cc in
            untabled l n ll (p.1 ∙ ap Some same)
        table l n ll now (inr none) = let m : is_frame_free free f ≡ true = added.made l n (top f) ll none now in cc

    lowest_of : (f g : ℕ) → is_frame_free free f ≡ true → is_frame_free free' f ≡ false → is_frame_free free' g ≡ true →
        (is_frame_free free1 f ≡ true) ⊎ (is_frame_free free1 f ≡ false) → f < g
    lowest_of f g was now other (inl still) = next.lowest f g still now other
    lowest_of f g was now other (inr gone) = added.lowest f g was gone (free_before free1 free' next.fewer g other)

    -- what is met neither before nor after is not met between
    none_between : (l n : ℕ) → l ≤ 4 → reach new root l n ≡ None → reach mid root l n ≡ None
    none_between l n le gone = go (some_or_none (reach mid root l n))
      where
        go : ((m : Place) × (reach mid root l n ≡ Some m)) ⊎ (reach mid root l n ≡ None) → reach mid root l n ≡ None
        go (inr e) = e
        go (inl p) = let s = next.stayed l n p.0 le p.1 in absurd (cc)

    old_words : (l n f i : ℕ) → l < 4 → i < 512 → reach old root l n ≡ Some (top f) →
        reach new root (l + 1) (512 * n + i) ≡ reach old root (l + 1) (512 * n + i) → word_at new f i ≡ word_at old f i
    old_words l n f i ll li was keeps =
        next.entries.old_words l n f i ll li (added.stayed l n (top f) (omega arith) was) (keeps ∙ sym between)
        ∙ added.entries.old_words l n f i ll li was between
      where
        go : ((m : Place) × (reach old root (l + 1) (512 * n + i) ≡ Some m)) ⊎ (reach old root (l + 1) (512 * n + i) ≡ None) →
            reach mid root (l + 1) (512 * n + i) ≡ reach old root (l + 1) (512 * n + i)
        go (inl p) = added.stayed (l + 1) (512 * n + i) p.0 (omega arith) p.1 ∙ sym p.1
        go (inr none) = none_between (l + 1) (512 * n + i) (omega arith) (keeps ∙ none) ∙ sym none

        between : reach mid root (l + 1) (512 * n + i) ≡ reach old root (l + 1) (512 * n + i)
        between = go (some_or_none (reach old root (l + 1) (512 * n + i)))

    -- a word of a table that was there between, if it led to this place already
    word_between : (l n f i : ℕ) (m p : Place) → l < 4 → i < 512 → reach new root l n ≡ Some (top f) → reach mid root l n ≡ Some m →
        reach mid root (l + 1) (512 * n + i) ≡ Some p → (reach mid root l n ≡ Some (top f)) × (word_at new f i ≡ word_at mid f i)
    word_between l n f i m p ll li here was on =
        let s = next.stayed l n m (omega arith) was in
        let same : m ≡ top f = cc in
        let t : reach mid root l n ≡ Some (top f) = was ∙ ap Some same in
        (t, next.entries.old_words l n f i ll li t (next.stayed (l + 1) (512 * n + i) p (omega arith) on ∙ sym on))

    -- what is met past a table shows the table
    parent : (words : List ℕ) (l n i : ℕ) (p : Place) → l < 3 → i < 512 → reach words root (l + 1) (512 * n + i) ≡ Some p →
        (m : Place) × (reach words root l n ≡ Some m)
    parent words l n i p low li on = go (some_or_none (reach words root l n))
      where
        go : ((m : Place) × (reach words root l n ≡ Some m)) ⊎ (reach words root l n ≡ None) → (m : Place) × (reach words root l n ≡ Some m)
        go (inl q) = q
        go (inr none) = let gone = none_child words root l n i low li none in absurd (cc)

    -- a page that was there between, in a slot that has a table after
    its_table : (n f i : ℕ) (p : Place) → i < 512 → reach new root 3 n ≡ Some (top f) → reach mid root 4 (512 * n + i) ≡ Some p →
        (m : Place) × (reach mid root 3 n ≡ Some m)
    its_table n f i p li here on = go (some_or_none (reach mid root 3 n))
      where
        e : (512 * n + i) / 512 ≡ n
        e = omega arith

        go : ((m : Place) × (reach mid root 3 n ≡ Some m)) ⊎ (reach mid root 3 n ≡ None) → (m : Place) × (reach mid root 3 n ≡ Some m)
        go (inl q) = q
        go (inr none) =
            let z = reach_none mid root (512 * n + i) (ap (reach mid root 3) e ∙ none)
            (ap (large_of mid root) e ∙ (sym (next.larges n) ∙ table_none new root n (top f) here)) in
            absurd (cc)

    blank : (l n f i : ℕ) → l < 4 → i < 512 → reach old root l n ≡ None → reach new root l n ≡ Some (top f) →
        reach new root (l + 1) (512 * n + i) ≡ None → word_at new f i ≡ 0
    blank l n f i ll li none now gone = go (some_or_none (reach mid root l n))
      where
        go : ((m : Place) × (reach mid root l n ≡ Some m)) ⊎ (reach mid root l n ≡ None) → word_at new f i ≡ 0
        go (inr e) = next.entries.blank l n f i ll li e now gone
        go (inl p) =
            let s = next.stayed l n p.0 (omega arith) p.1 in
            let same : p.0 ≡ top f = cc in
            let t : reach mid root l n ≡ Some (top f) = p.1 ∙ ap Some same in
            let empty = none_between (l + 1) (512 * n + i) (omega arith) gone in
            next.entries.old_words l n f i ll li t (gone ∙ sym empty) ∙ added.entries.blank l n f i ll li none t empty

    table_words : (l n f i made : ℕ) → l < 3 → i < 512 → reach new root l n ≡ Some (top f) → reach old root (l + 1) (512 * n + i) ≡ None →
        reach new root (l + 1) (512 * n + i) ≡ Some (top made) → word_at new f i ≡ table_entry made
    table_words l n f i made ll li here none now = go (some_or_none (reach mid root (l + 1) (512 * n + i)))
      where
        go : ((m : Place) × (reach mid root (l + 1) (512 * n + i) ≡ Some m)) ⊎ (reach mid root (l + 1)
            (512 * n + i) ≡ None) → word_at new f i ≡ table_entry made
        go (inr e) = next.entries.table_words l n f i made ll li here e now
        go (inl p) =
            let q = parent mid l n i p.0 ll li p.1 in
            let w = word_between l n f i q.0 p.0 (omega arith) li here q.1 p.1 in
            let s = next.stayed (l + 1) (512 * n + i) p.0 (omega arith) p.1 in
            let same : p.0 ≡ top made = cc in
            w.1 ∙ added.entries.table_words l n f i made ll li w.0 none (p.1 ∙ ap Some same)

    page_words : (n f i : ℕ) (place : Place) → i < 512 → reach new root 3 n ≡ Some (top f) → reach old root 4 (512 * n + i) ≡ None →
        reach new root 4 (512 * n + i) ≡ Some place → word_at new f i ≡ page_entry place.frame rights
    page_words n f i place li here none now = go (some_or_none (reach mid root 4 (512 * n + i)))
      where
        go : ((m : Place) × (reach mid root 4 (512 * n + i) ≡ Some m)) ⊎ (reach mid root 4 (512 * n + i) ≡ None) →
            word_at new f i ≡ page_entry place.frame rights
        go (inr e) = next.entries.page_words n f i place li here e now
        go (inl p) =
            let q = its_table n f i p.0 li here p.1 in
            let w = word_between 3 n f i q.0 p.0 (omega arith) li here q.1 p.1 in
            let s = next.stayed 4 (512 * n + i) p.0 (omega arith) p.1 in
            let same : p.0 ≡ place = cc in
            w.1 ∙ added.entries.page_words n f i place li w.0 none (p.1 ∙ ap Some same)

    pub range_more : IsRangeAdded old new free free' root first (k + 1) rights
    range_more = record {
      size = next.size ∙ added.size;
      flags = next.flags ∙ added.flags;
      tree = next.tree;
      mapped = λ j lj. mapped_of j lj (cases_lt j k);
      tables = λ l j ll lj. tables_of l j ll lj (cases_lt j k);
      others = λ l n le ne.
          next.others l n le (λ j lj e. ne k (omega arith) (let z : first + k + j ≡ first + k = omega arith in e ∙ ap (λ p. prefix_of p l) z))
          ∙ added.others l n le (λ j lj e. ne j (omega arith) e);
      larges = λ n. next.larges n ∙ added.larges n;
      stayed = λ l n met le is. next.stayed l n met le (added.stayed l n met le is);
      made = λ l n met ll none now. made_of l n met ll none now (some_or_none (reach mid root l n));
      fewer = λ f e. next.fewer f (added.fewer f e);
      lowest = λ f g was now other. lowest_of f g was now other (cases_Bool (is_frame_free free1 f));
      kept = λ f e unmet. next.kept f (added.kept f e (λ l n met le is. unmet l n met le (next.stayed l n met le is))) unmet;
      count = let s = step_count in let a = added.count in let b = next.count in omega arith;
      ascending = λ i j place later lt lj was now. ascending i j place later lt lj was now (cases_lt j k);
      tables_before = λ i j l table later lt lj ll none now found. tables_before i j l table later lt lj ll none now found (cases_lt j k);
      tables_after = λ j l place table lj ll none apart found now. tables_after j l place table lj ll none apart found now (cases_lt j k);
      pages_stay = λ other place is. next.pages_stay other place (added.pages_stay other place is);
      bytes_stay = λ other place i is li. next.bytes_stay other place i (added.pages_stay other place is) li ∙ added.bytes_stay other place i is li;
      words = words_of;
      free_words = λ f i li still. next.free_words f i li still ∙ added.free_words f i li (free_before free1 free' next.fewer f still);
      entries = record { old_words = old_words; blank = blank; table_words = table_words; page_words = page_words };
    }

module _ (old new : List ℕ) (free free' : List Bool) (root first pages step : ℕ) (rights : PageBits)
    (range : IsCanonicalRange first pages)
    (whole : step ≡ pages)
    (added : IsRangeAdded old new free free' root first step rights) where
  -- no walk of another page is changed
  pub range_elsewhere : (other : ℕ) → IsTrue (is_canonical (other * 4096)) → ((k : ℕ) → k < pages → other ≡ first + k → ⊥) →
      walk_of new root other ≡ walk_of old root other
  range_elsewhere other canonical ne =
      walk_reach new root other
      ∙ (added.others 4 (prefix_of other 4) (omega arith) (λ k lk e.
      ne k (omega arith) (same_number other (first + k) canonical (page_canonical first pages k range (omega arith)) (omega arith)))
      ∙ sym (walk_reach old root other))

  zero_byte : (k : ℕ) → byte_of 0 k ≡ 0
  zero_byte k = omega arith

  -- each byte of a new page is 0
  pub range_zeros : (address k : ℕ) → k < pages → address / 4096 ≡ first + k → reached new root address ≡ Some 0
  range_zeros address k lt at =
      let p = added.mapped k (omega arith) in
      let z : word_at new p.frame (address % 4096 / 8) ≡ 0 = p.zeros (address % 4096 / 8) (omega arith) in
      let b : byte_of (word_at new p.frame (address % 4096 / 8)) (address % 8) ≡ 0 = rw z (zero_byte (address % 8)) in
      rw (at, p.found) (ap Some b)
