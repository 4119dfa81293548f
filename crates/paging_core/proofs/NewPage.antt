-- One page is mapped to a frame that was free and is cleared.
use Rattle.std.proofs.Common.{◌≡◌, ℕ, ◌+◌, ◌*◌, ◌<◌, ◌≤◌, Bool, true, false, List, length, set, Some, None, refl, sym, ap, ◌∙◌, ◌⊎◌, inl, inr, arith, length-set}
use Rattle.std.proofs.lemmas.Bool.{cases_eq, cases_lt}
use Rattle.std.proofs.lemmas.List.{get_or-set_other}
use Rattle.paging_core.specs.Memory.{word_at, frame_count, cleared}
use Rattle.paging_core.specs.Prefix.{prefix_of}
use Rattle.paging_core.specs.Pool.{is_frame_free, FreeBelow, AreLowestTaken}
use Rattle.paging_core.specs.Walk.{Place, reach, large_of, walk_of, top, place_with}
use Rattle.paging_core.specs.Tree.{IsTree}
use Rattle.paging_core.specs.Missing.{missing_of}
use Rattle.paging_core.specs.Mapping.{HasExactEntries, IsPageAdded, IsRangeAdded}
use Rattle.paging_core.specs.declared.page_table.PageBits.{PageBits}
use Rattle.paging_core.proofs.Reach.{reach_same, larges_same}
use Rattle.paging_core.proofs.Prefixes.{walk_reach}
use Rattle.paging_core.proofs.Made.{tree_same}
use Rattle.paging_core.proofs.FreshFrame.{free_before, fresh_size, fresh_fewer, fresh_other, fresh_zero, fresh_used, fresh_count}
use Rattle.paging_core.proofs.LastEntry.{some_or_none}
use Rattle.paging_core.proofs.Ranges.{missing_same}

module _ (old mid : List ℕ) (free free1 : List Bool) (root frame : ℕ)
    (root_in : root < frame_count old)
    (known : FreeBelow free (frame_count old))
    (tree : IsTree old root free)
    (was_free : is_frame_free free frame ≡ true)
    (lowest : (g : ℕ) → g < frame → is_frame_free free g ≡ false)
    (taken : free1 ≡ set free frame false)
    (blank : mid ≡ cleared old frame) where
  mid_size : length mid ≡ length old
  mid_size = fresh_size old mid free free1 frame known was_free taken blank

  mid_fewer : (f : ℕ) → is_frame_free free f ≡ false → is_frame_free free1 f ≡ false
  mid_fewer = fresh_fewer old mid free free1 frame known was_free taken blank

  pub mid_unmet : (l n : ℕ) (m : Place) → l ≤ 4 → reach old root l n ≡ Some m → m.frame ≡ frame → ⊥
  mid_unmet l n m le is e =
      let u : is_frame_free free m.frame ≡ false = tree.used l n m le is in
      let x = ap (is_frame_free free) e in cc

  mid_other : (f i : ℕ) → i < 512 → (f ≡ frame → ⊥) → word_at mid f i ≡ word_at old f i
  mid_other = fresh_other old mid free free1 frame known was_free taken blank

  pub mid_same : (l n : ℕ) → l ≤ 4 → reach mid root l n ≡ reach old root l n
  mid_same = reach_same old mid root mid_size (λ l n b j lt is lj. mid_other b.frame j lj (mid_unmet l n b (omega arith) is))

  mid_larges : (n : ℕ) → large_of mid root n ≡ large_of old root n
  mid_larges = larges_same old mid root mid_size (λ l n b j lt is lj. mid_other b.frame j lj (mid_unmet l n b (omega arith) is))

  pub mid_tree : IsTree mid root free1
  mid_tree =
      let t : IsTree mid root free = tree_same old mid root free mid_size
      (λ l n b j lt is lj. mid_other b.frame j lj (mid_unmet l n b (omega arith) is)) tree in
      record {
        rights = t.rights;
        distinct = t.distinct;
        plain = t.plain;
        inside = λ _ _ _ _ _. refl;
        used =
            λ l n m le is. mid_fewer m.frame (t.used l n m le is);
      }

  pub mid_walk : (page : ℕ) → walk_of mid root page ≡ walk_of old root page
  mid_walk page = walk_reach mid root page ∙ (mid_same 4 (prefix_of page 4) (omega arith) ∙ sym (walk_reach old root page))

  mid_used : is_frame_free free1 frame ≡ false
  mid_used = fresh_used old mid free free1 frame known was_free taken blank

  pub mid_unmet_now : (l n : ℕ) (m : Place) → l ≤ 4 → reach mid root l n ≡ Some m → m.frame ≡ frame → ⊥
  mid_unmet_now l n m le is = mid_unmet l n m le (sym (mid_same l n le) ∙ is)

  pub mid_missing : (page : ℕ) → missing_of mid root page 1 ≡ missing_of old root page 1
  mid_missing page = missing_same old mid root page 1 mid_same

  module _ (new : List ℕ) (free' : List Bool) (page : ℕ) (rights : PageBits)
      (unmapped : walk_of old root page ≡ None)
      (added : IsPageAdded mid new free1 free' root page frame rights)
      (tree' : IsTree new root free') where
    old_none : reach old root 4 (prefix_of page 4) ≡ None
    old_none = sym (walk_reach old root page) ∙ unmapped

    there : reach new root 4 (prefix_of page 4) ≡ Some (place_with frame rights)
    there = sym (walk_reach new root page) ∙ added.there

    stayed : (l n : ℕ) (m : Place) → l ≤ 4 → reach old root l n ≡ Some m → reach new root l n ≡ Some m
    stayed l n m le is = go (cases_eq l 4) (cases_eq n (prefix_of page 4))
      where
        was : reach mid root l n ≡ Some m
        was = mid_same l n le ∙ is

        go : (l ≡ 4) ⊎ (l ≡ 4 → ⊥) → (n ≡ prefix_of page 4) ⊎ (n ≡ prefix_of page 4 → ⊥) → reach new root l n ≡ Some m
        go (inr low) _ = added.stayed l n m (omega arith) was
        go (inl e) (inr ne) = added.others l n le (λ x. ne (x ∙ ap (prefix_of page) e)) ∙ was
        go (inl e) (inl x) = let h : reach old root 4 (prefix_of page 4) ≡ Some m = rw (← e, ← x) is in let k = old_none in absurd (cc)

    -- what the new walk meets in a frame that was met before was met there before
    no_table : (l n k j : ℕ) (m : Place) → l ≤ 4 → k < 4 → reach old root l n ≡ Some m → reach new root k j ≡ Some (top m.frame) → (l ≡ k) × (n ≡ j)
    no_table l n k j m le lt is now = tree'.distinct l n k j m (top m.frame) le (omega arith) (stayed l n m le is) now refl

    table_of : (l : ℕ) → l < 4 → ((m : Place) × (reach mid root l (prefix_of page l) ≡ Some m)) ⊎ (reach mid root l (prefix_of page l) ≡ None) →
        (table : ℕ) × (reach new root l (prefix_of page l) ≡ Some (top table))
    table_of l lt (inl p) =
        let now = added.stayed l (prefix_of page l) p.0 lt p.1 in
        let full : p.0 ≡ top p.0.frame = tree'.rights l (prefix_of page l) p.0 lt now in
        (p.0.frame, now ∙ ap Some full)
    table_of l lt (inr none) = let t = added.made l lt none in (t.0, t.1)

    -- a table that was not there was made for the page, in a frame that was free
    made_of : (l n : ℕ) (m : Place) → l < 4 → reach old root l n ≡ None → reach new root l n ≡ Some m → is_frame_free free1 m.frame ≡ true
    made_of l n m lt none now = go (cases_eq n (prefix_of page l))
      where
        go : (n ≡ prefix_of page l) ⊎ (n ≡ prefix_of page l → ⊥) → is_frame_free free1 m.frame ≡ true
        go (inr ne) = let e = added.others l n (omega arith) ne in let s = mid_same l n (omega arith) in absurd (cc)
        go (inl e) =
            let gone : reach mid root l (prefix_of page l) ≡ None = rw (← e) (mid_same l n (omega arith) ∙ none) in
            let t = added.made l lt gone in
            let here : reach new root l (prefix_of page l) ≡ Some m = rw (← e) now in
            let same : m ≡ top t.0 = cc in
            let f : m.frame ≡ t.0 = ap (λ p. p.frame) same in
            rw f t.2

    page_frame : (l n : ℕ) → l < 4 → reach new root l n ≡ Some (top frame) → ⊥
    page_frame l n lt now =
        let p : (l ≡ 4) × (n ≡ prefix_of page 4) = tree'.distinct l n 4 (prefix_of page 4) (top frame)
        (place_with frame rights) (omega arith) (omega arith) now there refl in
        omega arith

    fewer : (f : ℕ) → is_frame_free free f ≡ false → is_frame_free free' f ≡ false
    fewer f e = added.fewer f (mid_fewer f e)

    -- the frame is the lowest that was free, and the tables come after it
    lowest_of : AreLowestTaken free free'
    lowest_of f g was now other = go (cases_eq f frame) (cases_lt g frame)
      where
        before : is_frame_free free1 g ≡ true
        before = free_before free1 free' added.fewer g other

        go : (f ≡ frame) ⊎ (f ≡ frame → ⊥) → (g < frame) ⊎ (frame ≤ g) → f < g
        go (inr ne) _ = added.lowest f g (rw taken (get_or-set_other free frame f false false ne ∙ was)) now other
        go (inl e) (inl lt) = let x = lowest g lt in let y = free_before free free1 mid_fewer g before in absurd (cc)
        go (inl e) (inr le) = past (cases_eq g frame)
          where
            past : (g ≡ frame) ⊎ (g ≡ frame → ⊥) → f < g
            past (inl same) = let x = mid_used in let y = rw same at before in absurd (cc)
            past (inr ne) = omega arith

    -- the page's frame is taken before its tables
    after_page : (l : ℕ) (place table : Place) → l < 4 → reach old root l (prefix_of page l) ≡ None → walk_of new root page ≡ Some place →
        reach new root l (prefix_of page l) ≡ Some table → place.frame < table.frame
    after_page l place table lt none found now = go (cases_lt table.frame frame) (cases_eq table.frame frame)
      where
        still : is_frame_free free1 table.frame ≡ true
        still = made_of l (prefix_of page l) table lt none now

        at : frame ≡ place.frame
        at = let t = added.there in let s : place_with frame rights ≡ place = cc in ap (λ p. p.frame) s

        go : (table.frame < frame) ⊎ (frame ≤ table.frame) → (table.frame ≡ frame) ⊎ (table.frame ≡ frame → ⊥) → place.frame < table.frame
        go (inl lower) _ = let x = lowest table.frame lower in let y = free_before free free1 mid_fewer table.frame still in absurd (cc)
        go (inr le) (inl same) = let x = mid_used in let y = rw same at still in absurd (cc)
        go (inr le) (inr ne) = let a = at in omega arith

    kept_of : (f : ℕ) → is_frame_free free f ≡ true → ((l n : ℕ) (met : Place) → l ≤ 4 → reach new root l n ≡ Some met → met.frame ≡ f → ⊥) →
        is_frame_free free' f ≡ true
    kept_of f e unmet =
        let apart : f ≡ frame → ⊥ = λ x. unmet 4 (prefix_of page 4) (place_with frame rights) (omega arith) there (sym x) in
        added.kept f (rw taken (get_or-set_other free frame f false false apart ∙ e))
        (λ l lt now. unmet l (prefix_of page l) (top f) (omega arith) now refl)

    other_page : (other : ℕ) (place : Place) → walk_of old root other ≡ Some place → walk_of new root other ≡ Some place
    other_page other place is =
        walk_reach new root other ∙ stayed 4 (prefix_of other 4) place (omega arith) (sym (walk_reach old root other) ∙ is)

    other_bytes : (other : ℕ) (place : Place) (i : ℕ) → walk_of old root other ≡ Some place → i < 512 → word_at new place.frame i ≡ word_at old place.frame i
    other_bytes other place i is li =
        let met : reach old root 4 (prefix_of other 4) ≡ Some place = sym (walk_reach old root other) ∙ is in
        added.words place.frame i li
        (λ l lt now. let p = no_table 4 (prefix_of other 4) l (prefix_of page l) place (omega arith) lt met now in let e : 4 ≡ l = p.0 in omega arith)
        ∙ mid_other place.frame i li (mid_unmet 4 (prefix_of other 4) place (omega arith) met)

    words_of : (f i : ℕ) → i < 512 → is_frame_free free f ≡ false → ((l n : ℕ) → l < 4 → reach old root l n ≡ Some (top f) →
        ⊥) → word_at new f i ≡ word_at old f i
    words_of f i li held untabled =
        added.words f i li (λ l lt now. table l lt now (some_or_none (reach old root l (prefix_of page l))))
        ∙ mid_other f i li (λ e. let x = ap (is_frame_free free) e in let w = was_free in absurd (cc))
      where
        table : (l : ℕ) → l < 4 → reach new root l (prefix_of page l) ≡ Some (top f) →
            ((m : Place) × (reach old root l (prefix_of page l) ≡ Some m)) ⊎ (reach old root l (prefix_of page l) ≡ None) → ⊥
        table l lt now (inl p) =
            let s = stayed l (prefix_of page l) p.0 (omega arith) p.1 in
            let same : p.0 ≡ top f = cc in
            untabled l (prefix_of page l) lt (p.1 ∙ ap Some same)
        table l lt now (inr none) =
            let m = made_of l (prefix_of page l) (top f) lt none now in
            let h = mid_fewer f held in cc

    -- a frame that is still free is neither the page's nor a table's
    free_words : (f i : ℕ) → i < 512 → is_frame_free free' f ≡ true → word_at new f i ≡ word_at old f i
    free_words f i li still =
        added.words f i li (λ l lt now. let u : is_frame_free free' f ≡ false = tree'.used l (prefix_of page l) (top f) (omega arith) now in absurd (cc))
        ∙ mid_other f i li (λ e. let u = added.fewer frame mid_used in let x = ap (is_frame_free free') e in absurd (cc))

    apart : (l n f : ℕ) → l < 4 → reach old root l n ≡ Some (top f) → f ≡ frame → ⊥
    apart l n f lt is e = mid_unmet l n (top f) (omega arith) is e

    entries : HasExactEntries old new root rights
    entries = record {
      old_words = λ l n f i lt li was keeps.
          added.entries.old_words l n f i lt li (mid_same l n (omega arith) ∙ was) (keeps ∙ sym (mid_same (l + 1) (512 * n + i) (omega arith)))
          ∙ mid_other f i li (apart l n f lt was);
      blank = λ l n f i lt li none now gone. added.entries.blank l n f i lt li (mid_same l n (omega arith) ∙ none) now gone;
      table_words = λ l n f i made lt li here none now.
          added.entries.table_words l n f i made lt li here (mid_same (l + 1) (512 * n + i) (omega arith) ∙ none) now;
      page_words = λ n f i place li here none now.
          added.entries.page_words n f i place li here (mid_same 4 (512 * n + i) (omega arith) ∙ none) now;
    }

    pub new_page : IsRangeAdded old new free free' root page 1 rights
    new_page = record {
      size = added.size ∙ mid_size;
      flags = added.flags ∙ (ap length taken ∙ length-set free frame false);
      tree = tree';
      mapped = λ k lt.
          let e : page + k ≡ page = omega arith in
          rw e (record {
            frame = frame;
            found = added.there;
            was_free = was_free;
            taken = added.fewer frame mid_used;
            zeros = λ i li. added.words frame i li (λ l ll now. page_frame l (prefix_of page l) ll now)
                ∙ fresh_zero old mid free free1 frame known was_free taken blank i li;
          });
      tables = λ l k lt lk.
          let e : page + k ≡ page = omega arith in
          rw e (table_of l lt (some_or_none (reach mid root l (prefix_of page l))));
      others = λ l n le ne.
          let e : page + 0 ≡ page = omega arith in
          added.others l n le (λ x. ne 0 (omega arith) (x ∙ ap (λ p. prefix_of p l) (sym e))) ∙ mid_same l n le;
      larges = λ n. added.larges n ∙ mid_larges n;
      stayed = stayed;
      made = λ l n m lt none now. free_before free free1 mid_fewer m.frame (made_of l n m lt none now);
      fewer = fewer;
      lowest = lowest_of;
      kept = kept_of;
      count = let a = added.count in let b = mid_missing page in let c = fresh_count old mid free free1 frame known was_free taken blank in omega arith;
      ascending = λ j k place next lt lk was now. absurd (omega arith);
      tables_before = λ j k l table next lt lk ll none now found. absurd (omega arith);
      tables_after = λ k l place table lk ll none first found now.
          let e : page + k ≡ page = omega arith in
          after_page l place table ll (rw e at none) (rw e at found) (rw e at now);
      pages_stay = other_page;
      bytes_stay = other_bytes;
      words = words_of;
      free_words = free_words;
      entries = entries;
    }
