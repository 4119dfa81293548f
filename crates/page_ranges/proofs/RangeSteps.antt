-- A piece of a range is added by tables, or a slot of it in a large page.
use Rattle.std.proofs.Common.{◌≡◌, ℕ, ◌+◌, ◌-◌, ◌*◌, ◌/◌, ◌%◌, ◌^◌, ◌<◌, ◌≤◌, Bool, true, false, List, Option, Some, None, refl, sym, ap, ◌∙◌, ◌⊎◌, inl, inr, arith}
use Rattle.std.specs.Prelude.{IsSome}
use Rattle.std.proofs.lemmas.Bool.{cases_eq, cases_lt}
use Rattle.paging_core.specs.Address.{IsCanonicalRange}
use Rattle.paging_core.specs.Memory.{word_at, frame_count}
use Rattle.paging_core.specs.Entry.{page_entry, large_entry}
use Rattle.paging_core.specs.Prefix.{prefix_of}
use Rattle.paging_core.specs.Pool.{is_frame_free, free_count, FreeBelow}
use Rattle.paging_core.specs.Runs.{IsRunFree, IsRunSet}
use Rattle.paging_core.specs.Walk.{Place, reach, large_of, walk_of, top, place_with}
use Rattle.paging_core.specs.Tree.{IsTree}
use Rattle.paging_core.specs.Missing.{missing_of}
use Rattle.paging_core.specs.Mapping.{IsRangeAdded}
use Rattle.paging_core.specs.Large.{slot_of, above, missing_above, IsSlotEmpty, AreFramesCleared, IsLargeAdded}
use Rattle.page_ranges.specs.RangeMapping.{IsNewPlace, ArePagesAdded, IsOpenSlot, IsUsedFor, AreSlotsAdded}
use Rattle.paging_core.specs.declared.page_table.PageBits.{PageBits}
use Rattle.paging_core.proofs.Prefixes.{walk_reach, small_page}
use Rattle.paging_core.proofs.Reach.{large_none}
use Rattle.paging_core.proofs.LastEntry.{some_or_none}
use Rattle.paging_core.proofs.FreshFrame.{free_before}
use Rattle.paging_core.proofs.Ranges.{page_in as range_page}
use Rattle.paging_core.proofs.RunTaken.{run_fewer, unmet, stays, run_same, run_larges, run_walk, slot_words}
use Rattle.page_ranges.proofs.PagesAdded.{pages_more}
use Rattle.page_ranges.proofs.Pieces.{piece_range, unmapped_step, missing_step_in}

pub none_some : (o : Option Place) → o ≡ None → IsSome o → ⊥
none_some None e h = absurd (cc)
none_some (Some x) e h = absurd (cc)

-- ---- a piece, by tables

module _ (old new : List ℕ) (free free' : List Bool) (root first pages p m : ℕ) (rights : PageBits)
    (range : IsCanonicalRange first pages)
    (lo : first ≤ p)
    (hi : p + m ≤ first + pages)
    (some : 0 < m)
    (none : (k : ℕ) → k < m → walk_of old root (p + k) ≡ None)
    (next : IsRangeAdded old new free free' root p m rights) where
  outside : (l n : ℕ) → ((k : ℕ) → k < pages → n ≡ prefix_of (first + k) l → ⊥) → (k : ℕ) → k < m → n ≡ prefix_of (p + k) l → ⊥
  outside l n ne k lk e =
      let j : p + k ≡ first + (p + k - first) = omega arith in
      ne (p + k - first) (omega arith) (e ∙ ap (λ q. prefix_of q l) j)

  numbered : (k : ℕ) → k < m → prefix_of (p + k) 4 ≡ prefix_of p 4 + k
  numbered k lt = let h = range_page p m k (piece_range first pages p m range lo hi some) lt in omega arith

  added_in : (page : ℕ) (place : Place) → walk_of old root page ≡ None → walk_of new root page ≡ Some place →
      (prefix_of p 4 ≤ prefix_of page 4) ⊎ (prefix_of page 4 < prefix_of p 4) →
      (prefix_of page 4 < prefix_of p 4 + m) ⊎ (prefix_of p 4 + m ≤ prefix_of page 4) →
      IsNewPlace new free place rights
  added_in page place gone now (inl a) (inl b) =
      let e = numbered (prefix_of page 4 - prefix_of p 4) (omega arith) in
      let f : prefix_of (p + (prefix_of page 4 - prefix_of p 4)) 4 ≡ prefix_of page 4 = omega arith in
      let x = next.mapped (prefix_of page 4 - prefix_of p 4) (omega arith) in
      let now' : walk_of new root page ≡ Some (place_with x.frame rights) =
      walk_reach new root page ∙ (ap (reach new root 4) (sym f) ∙ (sym (walk_reach new root (p + (prefix_of page 4 - prefix_of p 4))) ∙ x.found)) in
      let same : place_with x.frame rights ≡ place = cc in
      rw (← same) (record { granted_all = refl; was_free = x.was_free; zeros = x.zeros })
  added_in page place gone now (inr a) _ = absurd (let s = away page (λ k lk e. let h = numbered k lk in omega arith) in cc)
    where
      away : (page : ℕ) → ((k : ℕ) → k < m → prefix_of page 4 ≡ prefix_of (p + k) 4 → ⊥) → walk_of new root page ≡ walk_of old root page
      away page ne = walk_reach new root page ∙ (next.others 4 (prefix_of page 4) (omega arith) ne ∙ sym (walk_reach old root page))
  added_in page place gone now (inl a) (inr b) = absurd (let s = away page (λ k lk e. let h = numbered k lk in omega arith) in cc)
    where
      away : (page : ℕ) → ((k : ℕ) → k < m → prefix_of page 4 ≡ prefix_of (p + k) 4 → ⊥) → walk_of new root page ≡ walk_of old root page
      away page ne = walk_reach new root page ∙ (next.others 4 (prefix_of page 4) (omega arith) ne ∙ sym (walk_reach old root page))

  le_or_lt : (a b : ℕ) → (a ≤ b) ⊎ (b < a)
  le_or_lt a b = go (cases_lt b a)
    where
      go : (b < a) ⊎ (a ≤ b) → (a ≤ b) ⊎ (b < a)
      go (inl x) = inr x
      go (inr x) = inl x

  pub piece_added : ArePagesAdded old new free free' root first pages rights
  piece_added = record {
    size = next.size;
    flags = next.flags;
    tree = next.tree;
    added = λ page place gone now. added_in page place gone now (le_or_lt (prefix_of p 4) (prefix_of page 4)) (cases_lt (prefix_of page 4) (prefix_of p 4 + m));
    large_added = λ n large gone now. let s = next.larges n in absurd (cc);
    others = λ l n le ne. next.others l n le (outside l n ne);
    other_larges = λ n ne. next.larges n;
    stayed = next.stayed;
    large_stayed = λ n large is. next.larges n ∙ is;
    made = next.made;
    fewer = next.fewer;
    kept = next.kept;
    count =
        let u = unmapped_step first pages p m range lo hi some old new root (λ k lk. sym (walk_reach old root (p + k)) ∙ none k lk)
        (λ n ne. next.others 4 n (omega arith) ne)
        (λ k lk. let x = next.mapped k lk in (place_with x.frame rights, sym (walk_reach new root (p + k)) ∙ x.found)) in
        let v = missing_step_in first pages p m range lo hi old new root (λ l n lt ne. next.others l n (omega arith) ne)
        (λ l k lt lk. let t = next.tables l k lt lk in (top t.0, t.1)) some in
        let c = next.count in
        omega arith;
    bytes_stay = next.bytes_stay;
    words = next.words;
    free_words = next.free_words;
    entries = record {
      old_words = λ l n f i lt li was keeps large. next.entries.old_words l n f i lt li was keeps;
      blank = λ l n f i lt li gone now nowhere small. next.entries.blank l n f i lt li gone now nowhere;
      table_words = next.entries.table_words;
      page_words = next.entries.page_words;
      large_words = λ n f i large li here gone now. let s = next.larges (512 * n + i) in absurd (cc);
    };
  }

-- ---- a slot, in a large page

module _ (old mid new : List ℕ) (free free1 free' : List Bool) (root first pages page run : ℕ) (rights : PageBits)
    (range : IsCanonicalRange first pages)
    (lo : first ≤ 512 * page)
    (hi : 512 * page + 512 ≤ first + pages)
    (known : FreeBelow free (frame_count old))
    (tree : IsTree old root free)
    (empty : IsSlotEmpty old root page)
    (was_free : IsRunFree free run)
    (taken : IsRunSet free free1 run false)
    (blank : AreFramesCleared old mid (512 * run) 512)
    (added : IsLargeAdded mid new free1 free' root page run rights)
    (tree' : IsTree new root free')
    (missing : missing_of new root first pages + missing_above old root page ≡ missing_of old root first pages)
    (count : free_count free' + 512 + missing_above old root page ≡ free_count free) where
  same : (l n : ℕ) → l ≤ 4 → reach mid root l n ≡ reach old root l n
  same = run_same old mid free free1 root run known tree was_free taken blank

  larges : (n : ℕ) → large_of mid root n ≡ large_of old root n
  larges = run_larges old mid free free1 root run known tree was_free taken blank

  fewer1 : (f : ℕ) → is_frame_free free f ≡ false → is_frame_free free1 f ≡ false
  fewer1 = run_fewer old mid free free1 root run known tree was_free taken blank

  not_met : (l n : ℕ) (m : Place) → l ≤ 4 → reach old root l n ≡ Some m → m.frame / 512 ≡ run → ⊥
  not_met = unmet old mid free free1 root run known tree was_free taken blank

  stay : (f i : ℕ) → i < 512 → (f / 512 ≡ run → ⊥) → word_at mid f i ≡ word_at old f i
  stay = stays old mid free free1 root run known tree was_free taken blank

  slot_number : slot_of page ≡ prefix_of (512 * page) 3
  slot_number = omega arith

  page_number : (k : ℕ) → k < 512 → prefix_of (512 * page + k) 4 ≡ 512 * slot_of page + k
  page_number k lt = omega arith

  -- the prefixes of the slot are those of pages of the range
  outside_slot : (l n : ℕ) → ((k : ℕ) → k < pages → n ≡ prefix_of (first + k) l → ⊥) → n ≡ above page l → ⊥
  outside_slot l n ne e =
      let j : 512 * page ≡ first + (512 * page - first) = omega arith in
      ne (512 * page - first) (omega arith) (e ∙ ap (λ q. prefix_of q l) j)

  outside_page : (n : ℕ) → ((k : ℕ) → k < pages → n ≡ prefix_of (first + k) 4 → ⊥) → n / 512 ≡ slot_of page → ⊥
  outside_page n ne e =
      let j : 512 * page + n % 512 ≡ first + (512 * page + n % 512 - first) = omega arith in
      let h : n ≡ prefix_of (512 * page + n % 512) 4 = (let z = page_number (n % 512) (omega arith) in omega arith) in
      ne (512 * page + n % 512 - first) (omega arith) (h ∙ ap (λ q. prefix_of q 4) j)

  others : (l n : ℕ) → l ≤ 4 → (l < 3 → n ≡ above page l → ⊥) → (l ≡ 4 → n / 512 ≡ slot_of page → ⊥) → reach new root l n ≡ reach old root l n
  others l n le a b = added.others l n le a b ∙ same l n le

  no_large : large_of old root (slot_of page) ≡ None
  no_large =
      let z : 512 * page + 0 ≡ 512 * page = omega arith in
      let n : walk_of old root (512 * page) ≡ None = ap (walk_of old root) (sym z) ∙ empty.unmapped 0 (omega arith) in
      ap (large_of old root) slot_number ∙ small_page old root (512 * page) (sym (walk_reach old root (512 * page)) ∙ n)

  other_large : (n : ℕ) → (n ≡ slot_of page → ⊥) → large_of new root n ≡ large_of old root n
  other_large n ne = added.larges n ne ∙ larges n

  large_stayed : (n : ℕ) (large : Place) → large_of old root n ≡ Some large → large_of new root n ≡ Some large
  large_stayed n large is = other_large n (λ e. let x = no_large in let y : large_of old root n ≡ None = ap (large_of old root) e ∙ x in cc) ∙ is

  large_added : (n : ℕ) (large : Place) → large_of old root n ≡ None → large_of new root n ≡ Some large →
      (n ≡ slot_of page) × (large ≡ place_with (512 * run) rights)
  large_added n large gone now = go (cases_eq n (slot_of page))
    where
      go : (n ≡ slot_of page) ⊎ (n ≡ slot_of page → ⊥) → (n ≡ slot_of page) × (large ≡ place_with (512 * run) rights)
      go (inl e) =
          let x : large_of new root n ≡ Some (place_with (512 * run) rights) = ap (large_of new root) e ∙ added.large in
          let s : large ≡ place_with (512 * run) rights = cc in
          (e, s)
      go (inr ne) = let x = other_large n ne in absurd (cc)

  -- a table that is new is one above the slot, and its frame was left by the run
  made_left : (l n : ℕ) (met : Place) → l < 4 → reach old root l n ≡ None → reach new root l n ≡ Some met → is_frame_free free1 met.frame ≡ true
  made_left l n met ll gone now = go (cases_lt l 3) (cases_eq n (above page l))
    where
      go : (l < 3) ⊎ (3 ≤ l) → (n ≡ above page l) ⊎ (n ≡ above page l → ⊥) → is_frame_free free1 met.frame ≡ true
      go (inl lt) (inl e) =
          let t = added.made l lt (same l (above page l) (omega arith) ∙ (ap (reach old root l) (sym e) ∙ gone)) in
          let x : reach new root l n ≡ Some (top t.0) = ap (reach new root l) e ∙ t.1 in
          let s : top t.0 ≡ met = cc in
          rw (← s) t.2
      go (inl lt) (inr ne) = let x = others l n (omega arith) (λ _. ne) (λ e. absurd (omega arith)) in absurd (cc)
      go (inr ge) _ = let x = others l n (omega arith) (λ lt. absurd (omega arith)) (λ e. absurd (omega arith)) in absurd (cc)

  made : (l n : ℕ) (met : Place) → l < 4 → reach old root l n ≡ None → reach new root l n ≡ Some met → is_frame_free free met.frame ≡ true
  made l n met ll gone now = free_before free free1 fewer1 met.frame (made_left l n met ll gone now)

  page_added : (other : ℕ) (place : Place) → walk_of old root other ≡ None → walk_of new root other ≡ Some place → IsNewPlace new free place rights
  page_added other place gone now = go (cases_eq (other / 512 % 2 ^ 27) (slot_of page))
    where
      go : (other / 512 % 2 ^ 27 ≡ slot_of page) ⊎ (other / 512 % 2 ^ 27 ≡ slot_of page → ⊥) → IsNewPlace new free place rights
      go (inr ne) = let x = added.pages other ne in let y = run_walk old mid free free1 root run known tree was_free taken blank other in absurd (cc)
      go (inl e) =
          let n : prefix_of other 4 ≡ prefix_of (512 * page + other % 512) 4 = (let z = page_number (other % 512) (omega arith) in omega arith) in
          let x : walk_of new root other ≡ Some (place_with (512 * run + other % 512) rights) =
          walk_reach new root other ∙ (ap (reach new root 4) n ∙ (sym (walk_reach new root (512 * page + other % 512))
          ∙ added.there (other % 512) (omega arith))) in
          let s : place_with (512 * run + other % 512) rights ≡ place = cc in
          rw (← s) (record {
            granted_all = refl;
            was_free = was_free (512 * run + other % 512) (omega arith);
            zeros = λ i li. slot_words old mid free free1 root run known tree was_free taken blank new free' page rights
                added tree' (other % 512) i (omega arith) li;
          })

  kept : (f : ℕ) → is_frame_free free f ≡ true → ((l n : ℕ) (met : Place) → l ≤ 4 → reach new root l n ≡ Some met →
      met.frame ≡ f → ⊥) → is_frame_free free' f ≡ true
  kept f is unseen = go (cases_eq (f / 512) run)
    where
      go : (f / 512 ≡ run) ⊎ (f / 512 ≡ run → ⊥) → is_frame_free free' f ≡ true
      go (inr ne) = added.kept f (taken.elsewhere f ne ∙ is) (λ l lt here. unseen l (above page l) (top f) (omega arith) here refl)
      go (inl e) = absurd (unseen 4 (prefix_of (512 * page + f % 512) 4) (place_with (512 * run + f % 512) rights) (omega arith)
          (sym (walk_reach new root (512 * page + f % 512)) ∙ added.there (f % 512) (omega arith))
          (let h : 512 * run + f % 512 ≡ f = omega arith in h))

  bytes_stay : (other : ℕ) (place : Place) (i : ℕ) → walk_of old root other ≡ Some place → i < 512 → word_at new place.frame i ≡ word_at old place.frame i
  bytes_stay other place i is li =
      let was : reach old root 4 (prefix_of other 4) ≡ Some place = sym (walk_reach old root other) ∙ is in
      let now : reach new root 4 (prefix_of other 4) ≡ Some place = added.stayed 4 (prefix_of other 4) place (omega arith)
      (same 4 (prefix_of other 4) (omega arith) ∙ was) in
      added.words place.frame i li
      (λ l ll here. let d = tree'.distinct 4 (prefix_of other 4) l (above page l) place (top place.frame) (omega arith)
      (omega arith) now here refl in absurd (omega (arith, d.0)))
      ∙ stay place.frame i li (not_met 4 (prefix_of other 4) place (omega arith) was)

  words_of : (f i : ℕ) → i < 512 → is_frame_free free f ≡ false → ((l n : ℕ) → l < 4 → reach old root l n ≡ Some (top f) →
      ⊥) → word_at new f i ≡ word_at old f i
  words_of f i li held untabled =
      added.words f i li (λ l ll here. table l ll here (some_or_none (reach old root l (above page l))))
      ∙ stay f i li (λ e. let h = was_free f e in cc)
    where
      table : (l : ℕ) → l < 3 → reach new root l (above page l) ≡ Some (top f) →
          ((m : Place) × (reach old root l (above page l) ≡ Some m)) ⊎ (reach old root l (above page l) ≡ None) → ⊥
      table l ll here (inr gone) = let x = made l (above page l) (top f) (omega arith) gone here in let y : is_frame_free free f ≡ true = x in cc
      table l ll here (inl q) =
          let s = added.stayed l (above page l) q.0 (omega arith) (same l (above page l) (omega arith) ∙ q.1) in
          let e : q.0 ≡ top f = cc in
          untabled l (above page l) (omega arith) (q.1 ∙ ap Some e)

  old_words : (l n f i : ℕ) → l < 4 → i < 512 → reach old root l n ≡ Some (top f) →
      reach new root (l + 1) (512 * n + i) ≡ reach old root (l + 1) (512 * n + i) →
      (l ≡ 2 → large_of new root (512 * n + i) ≡ large_of old root (512 * n + i)) → word_at new f i ≡ word_at old f i
  old_words l n f i ll li was keeps large =
      added.entries.old_words l n f i ll li (same l n (omega arith) ∙ was) (keeps ∙ sym (same (l + 1) (512 * n + i) (omega arith)))
      (λ e x. let a : large_of new root (512 * n + i) ≡ Some (place_with (512 * run) rights) = ap (large_of new root) x ∙ added.large in
      let b : large_of old root (512 * n + i) ≡ None = ap (large_of old root) x ∙ no_large in
      let c = large e in cc)
      ∙ stay f i li (not_met l n (top f) (omega arith) was)

  table_new : (l n f i : ℕ) → l < 4 → i < 512 → reach old root l n ≡ None → reach new root l n ≡ Some (top f) →
      reach new root (l + 1) (512 * n + i) ≡ None → (l ≡ 2 → large_of new root (512 * n + i) ≡ None) → word_at new f i ≡ 0
  table_new l n f i ll li gone now nowhere small =
      added.entries.blank l n f i ll li (same l n (omega arith) ∙ gone) now nowhere
      (λ e x. let a : large_of new root (512 * n + i) ≡ Some (place_with (512 * run) rights) = ap (large_of new root) x ∙ added.large in
      let c = small e in cc)

  page_words : (n f i : ℕ) (place : Place) → i < 512 → reach new root 3 n ≡ Some (top f) → reach old root 4 (512 * n + i) ≡ None →
      reach new root 4 (512 * n + i) ≡ Some place → word_at new f i ≡ page_entry place.frame rights
  page_words n f i place li here gone now = go (cases_eq n (slot_of page))
    where
      q : (512 * n + i) / 512 ≡ n
      q = omega arith

      go : (n ≡ slot_of page) ⊎ (n ≡ slot_of page → ⊥) → word_at new f i ≡ page_entry place.frame rights
      go (inl e) = let x = large_none new root n (place_with (512 * run) rights) (ap (large_of new root) e ∙ added.large) in absurd (cc)
      go (inr ne) = let x = others 4 (512 * n + i) (omega arith) (λ lt. absurd (omega arith)) (λ _ e. ne (sym q ∙ e)) in absurd (cc)

  large_words : (n f i : ℕ) (large : Place) → i < 512 → reach new root 2 n ≡ Some (top f) → large_of old root (512 * n + i) ≡ None →
      large_of new root (512 * n + i) ≡ Some large → word_at new f i ≡ large_entry large.frame rights
  large_words n f i large li here gone now =
      let x = large_added (512 * n + i) large gone now in
      let a : n ≡ above page 2 = let e : 512 * n + i ≡ slot_of page = x.0 in omega arith in
      let b : i ≡ slot_of page % 512 = let e : 512 * n + i ≡ slot_of page = x.0 in omega arith in
      let w = added.entries.large_word f (ap (reach new root 2) (sym a) ∙ here) in
      let g : large.frame ≡ 512 * run = ap (λ m. m.frame) x.1 in
      ap (word_at new f) b ∙ (w ∙ ap (λ h. large_entry h rights) (sym g))

  pub slot_added : ArePagesAdded old new free free' root first pages rights
  slot_added = record {
    size = added.size ∙ blank.size;
    flags = added.flags ∙ taken.size;
    tree = tree';
    added = page_added;
    large_added = λ n large gone now.
        let x = large_added n large gone now in
        let g : large.frame ≡ 512 * run = ap (λ m. m.frame) x.1 in
        x.1 ∙ ap (λ f. place_with f rights) (sym g);
    others = λ l n le ne. others l n le (λ lt. outside_slot l n ne)
        (λ e. outside_page n (λ k lk x. ne k lk (x ∙ ap (prefix_of (first + k)) (sym e))));
    other_larges = λ n ne. other_large n (λ e. outside_slot 3 n ne (e ∙ slot_number));
    stayed = λ l n met le is. added.stayed l n met le (same l n le ∙ is);
    large_stayed = large_stayed;
    made = made;
    fewer = λ f e. added.fewer f (fewer1 f e);
    kept = kept;
    count =
        let u = unmapped_step first pages (512 * page) 512 range lo hi (omega arith) old new root
        (λ k lk. sym (walk_reach old root (512 * page + k)) ∙ empty.unmapped k lk)
        (λ n ne. others 4 n (omega arith) (λ lt. absurd (omega arith))
        (λ _ e. ne (n % 512) (omega arith) (let z = page_number (n % 512) (omega arith) in omega arith)))
        (λ k lk. (place_with (512 * run + k) rights, sym (walk_reach new root (512 * page + k)) ∙ added.there k lk)) in
        omega arith;
    bytes_stay = bytes_stay;
    words = words_of;
    free_words = λ f i li e.
        added.words f i li (λ l lt here. let x = tree'.used l (above page l) (top f) (omega arith) here in cc)
        ∙ stay f i li (λ at. let x = taken.here f at in let y = free_before free1 free' added.fewer f e in cc);
    entries = record {
      old_words = old_words;
      blank = table_new;
      table_words = λ l n f i m lt li here gone now. added.entries.table_words l n f i m lt li here (same (l + 1) (512 * n + i) (omega arith) ∙ gone) now;
      page_words = page_words;
      large_words = large_words;
    };
  }

  -- and the slots before it were gone through
  module _ (start : List ℕ) (flags : List Bool)
      (before : AreSlotsAdded start old flags free root first pages page rights)
      (lowest_run : (lower : ℕ) → lower < run → ¬ (IsRunFree free lower)) where
    some_of : (o o' : Option Place) → ((m : Place) → o ≡ Some m → o' ≡ Some m) → IsSome o → IsSome o'
    some_of None o' h is = absurd (cc)
    some_of (Some m) o' h is = rw (h m refl) is

    large_of_slot : (slot : ℕ) → IsOpenSlot start root first pages slot → slot < page + 1 → (slot < page) ⊎ (page ≤ slot) →
        IsSome (large_of new root (slot_of slot))
    large_of_slot slot whole lt (inl x) =
        some_of (large_of old root (slot_of slot)) (large_of new root (slot_of slot)) (λ m e. large_stayed (slot_of slot) m e) (before.slots.large slot whole x)
    large_of_slot slot whole lt (inr x) =
        let e : slot ≡ page = omega arith in
        rw (e, added.large) (let h : IsSome (Some (place_with (512 * run) rights)) = cc in h)

    mine : IsOpenSlot start root first pages page
    mine = record { from = lo; to = hi; no_table = sym (before.tables (slot_of page)) ∙ empty.no_table }

    page_stays : (n : ℕ) → large_of new root (n / 512) ≡ large_of start root (n / 512) → (n / 512 ≡ slot_of page) ⊎ (n / 512 ≡ slot_of page → ⊥) →
        reach new root 4 n ≡ reach start root 4 n
    page_stays n keeps (inl e) =
        let a : large_of new root (n / 512) ≡ Some (place_with (512 * run) rights) = ap (large_of new root) e
        ∙ added.large in
        let b : large_of old root (n / 512) ≡ None = ap (large_of old root) e ∙ no_large in
        let c = before.pages_added.large_stayed (n / 512) (place_with (512 * run) rights) (sym keeps ∙ a) in
        absurd (cc)
    page_stays n keeps (inr ne) =
        others 4 n (omega arith) (λ lt. absurd (omega arith)) (λ _. ne) ∙ before.others n (sym (other_large (n / 512) ne) ∙ keeps)

    -- what was used for a slot before is used for it still
    used_still : (slot f : ℕ) → IsUsedFor old root slot f → IsUsedFor new root slot f
    used_still slot f (inl used) = inl (used.0, large_stayed (slot_of slot) used.0 used.1, used.2)
    used_still slot f (inr used) =
        let low = used.1 in inr (
          used.0,
          used.1,
          added.stayed used.0 (above slot used.0) (top f) (omega (arith, low))
              (same used.0 (above slot used.0) (omega (arith, low)) ∙ used.2),
        )

    large_before : (slot : ℕ) (large : Place) → IsOpenSlot start root first pages slot → slot < page → large_of new root (slot_of slot) ≡ Some large →
        large_of old root (slot_of slot) ≡ Some large
    large_before slot large whole lt is = go (some_or_none (large_of old root (slot_of slot)))
      where
        go : ((m : Place) × (large_of old root (slot_of slot) ≡ Some m)) ⊎ (large_of old root (slot_of slot) ≡ None) →
            large_of old root (slot_of slot) ≡ Some large
        go (inl p) =
            let s = large_stayed (slot_of slot) p.0 p.1 in
            let e : p.0 ≡ large = cc in
            p.1 ∙ ap Some e
        go (inr none) = absurd (none_some (large_of old root (slot_of slot)) none (before.slots.large slot whole lt))

    spent : (f : ℕ) → is_frame_free flags f ≡ true → ((slot : ℕ) → IsOpenSlot start root first pages slot → slot < page + 1 → ¬ (IsUsedFor new root slot f)) →
        is_frame_free free' f ≡ true
    spent f was unused = go (cases_eq (f / 512) run)
      where
        go : (f / 512 ≡ run) ⊎ (f / 512 ≡ run → ⊥) → is_frame_free free' f ≡ true
        go (inl e) = absurd (unused page mine (omega arith) (inl (place_with (512 * run) rights, added.large, omega (arith, e))))
        go (inr ne) =
            added.kept f (taken.elsewhere f ne ∙ before.spent f was (λ slot whole lt used. unused slot whole (omega (arith, lt)) (used_still slot f used)))
            (λ l lt here. unused page mine (omega arith) (inr (l, lt, here)))

    lowest_runs : (slot spare : ℕ) (large : Place) → IsOpenSlot start root first pages slot → slot < page + 1 → large_of new root (slot_of slot) ≡ Some large →
        512 * spare < large.frame → IsRunFree flags spare →
        ((f earlier : ℕ) → f / 512 ≡ spare → IsOpenSlot start root first pages earlier → earlier < slot → ¬ (IsUsedFor new root earlier f)) → ⊥
    lowest_runs slot spare large whole lt is less was unused = go (cases_lt slot page)
      where
        go : (slot < page) ⊎ (page ≤ slot) → ⊥
        go (inl x) =
            before.lowest_runs slot spare large whole x (large_before slot large whole x is) less was
            (λ f earlier at its sooner used. unused f earlier at its sooner (used_still earlier f used))
        go (inr x) =
            let e : slot ≡ page = omega arith in
            let here : large_of new root (slot_of slot) ≡ Some (place_with (512 * run) rights) = ap (λ s. large_of new root (slot_of s)) e ∙ added.large in
            let s : large ≡ place_with (512 * run) rights = cc in
            let g : large.frame ≡ 512 * run = ap (λ m. m.frame) s in
            lowest_run spare (omega (arith, less, g))
            (λ f at. before.spent f (was f at) (λ earlier its sooner used. unused f earlier at its (omega (arith, sooner, e)) (used_still earlier f used)))

    lowest_tables : (l n table f : ℕ) → l < 3 → reach start root l n ≡ None → reach new root l n ≡ Some (top table) → is_frame_free free' f ≡ true → table < f
    lowest_tables l n table f ll gone now left = go (some_or_none (reach old root l n))
      where
        go : ((m : Place) × (reach old root l n ≡ Some m)) ⊎ (reach old root l n ≡ None) → table < f
        go (inl p) =
            let s = added.stayed l n p.0 (omega arith) (same l n (omega arith) ∙ p.1) in
            let e : p.0 ≡ top table = cc in
            before.lowest_tables l n table f ll gone (p.1 ∙ ap Some e) (free_before free free1 fewer1 f (free_before free1 free' added.fewer f left))
        go (inr none) = added.lowest table f (made_left l n (top table) (omega arith) none now) (tree'.used l n (top table) (omega arith) now) left

    pub slots_more : AreSlotsAdded start new flags free' root first pages (page + 1) rights
    slots_more = record {
      pages_added = pages_more start old new flags free free' root first pages rights before.pages_added slot_added;
      slots = record {
        large = λ slot whole lt. large_of_slot slot whole lt (cases_lt slot page);
        small = λ n ne. other_large n (λ e. ne page mine (omega arith) e) ∙ before.slots.small n (λ slot whole lt e. ne slot whole (omega arith) e);
      };
      tables = λ n. others 3 n (omega arith) (λ lt. absurd (omega arith)) (λ e. absurd (omega arith)) ∙ before.tables n;
      others = λ n keeps. page_stays n keeps (cases_eq (n / 512) (slot_of page));
      spent = spent;
      lowest_runs = lowest_runs;
      lowest_tables = lowest_tables;
    }
