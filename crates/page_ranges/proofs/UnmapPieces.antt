-- Pages of one slot that were unmapped: by its table, by the entry of a large page, or by a cut.
use Rattle.std.proofs.Common.{◌≡◌, ℕ, ◌+◌, ◌*◌, ◌/◌, ◌%◌, ◌<◌, ◌≤◌, Bool, true, false, List, length, Some, None, refl, sym, ap, ◌∙◌, ◌⊎◌, inl, inr, arith}
use Rattle.std.specs.Prelude.{IsSome}
use Rattle.std.proofs.lemmas.Bool.{cases_eq, cases_lt}
use Rattle.paging_core.specs.Address.{IsCanonicalRange}
use Rattle.paging_core.specs.Memory.{word_at, frame_count}
use Rattle.paging_core.specs.Entry.{table_entry}
use Rattle.paging_core.specs.Prefix.{prefix_of}
use Rattle.paging_core.specs.Pool.{is_frame_free, free_count}
use Rattle.paging_core.specs.Runs.{IsRunOut, IsRunSet}
use Rattle.paging_core.specs.Walk.{Place, reach, large_of, walk_of, page_in, top}
use Rattle.paging_core.specs.Tree.{IsTree}
use Rattle.paging_core.specs.PageChanges.{ArePagesFreed, among}
use Rattle.paging_core.specs.Large.{slot_of, above, IsLargeCleared, IsLargeRemoved, IsLargeCut}
use Rattle.page_ranges.specs.RangeUnmapping.{NoLargePageReachesOver, cuts_large_page, IsCutPage, AreUnmapped}
use Rattle.paging_core.proofs.Words.{word_at_set_same, word_at_set_other}
use Rattle.paging_core.proofs.Prefixes.{walk_reach, prefix_parent}
use Rattle.paging_core.proofs.Reach.{reach_in, either_way, ByEntry, InLarge, large_none}
use Rattle.paging_core.proofs.Given.{out_of}
use Rattle.paging_core.proofs.LargeGone.{slot_place}
use Rattle.paging_core.proofs.Made.{reach_below}
use Rattle.paging_core.proofs.PageChanged.{some_place}
use Rattle.page_ranges.proofs.Unmapped.{among_is, among_from, among_to, no_cut_small, no_cut_whole, cut_is, cut_none, cut_one}

-- the pages from `first` on lie in one slot
module _ (first pages : ℕ)
    (range : IsCanonicalRange first pages)
    (one_slot : first % 512 + pages ≤ 512) where
  pub slot_at : (k : ℕ) → k < pages → prefix_of (first + k) 3 ≡ slot_of (first / 512)
  slot_at k lt = let e : (first + k) / 512 ≡ first / 512 = omega arith in omega arith

  pub first_slot : prefix_of first 3 ≡ slot_of (first / 512)
  first_slot = omega arith

  -- the page by its index in the slot
  index : (n : ℕ) → among first pages n ≡ true → (n / 512 ≡ slot_of (first / 512)) × (first % 512 ≤ n % 512) × (n % 512 < first % 512 + pages)
  index n x =
      let lo = among_from first pages n x in
      let hi = among_to first pages n x in
      let s : prefix_of first 4 ≡ 512 * slot_of (first / 512) + first % 512 = omega arith in (omega arith, omega arith, omega arith)

  of_index : (n : ℕ) → n / 512 ≡ slot_of (first / 512) → first % 512 ≤ n % 512 → n % 512 < first % 512 + pages → among first pages n ≡ true
  of_index n e lo hi =
      let s : prefix_of first 4 ≡ 512 * slot_of (first / 512) + first % 512 = omega arith in
      among_is first pages n (omega arith) (omega arith)

  -- a page of the slot in a large page
  at_large : (words : List ℕ) (root n : ℕ) (large : Place) → large_of words root (slot_of (first / 512)) ≡ Some large → n / 512 ≡ slot_of (first / 512) →
      reach words root 4 n ≡ Some (page_in (n % 512) large)
  at_large words root n large was e = reach_in words root n large (ap (large_of words root) e ∙ was)

  frame_in : (words : List ℕ) (root n : ℕ) (large place : Place) → large_of words root (slot_of (first / 512)) ≡ Some large → n / 512 ≡ slot_of (first / 512) →
      reach words root 4 n ≡ Some place → place.frame ≡ large.frame + n % 512
  frame_in words root n large place was e at =
      let w = at_large words root n large was e in
      let q : place ≡ page_in (n % 512) large = cc in
      ap (λ p. p.frame) q

  -- the slot of a large page has no table
  no_third : (words : List ℕ) (root n i f : ℕ) (large : Place) → large_of words root (slot_of (first / 512)) ≡ Some large →
      among first pages (512 * n + i) ≡ true →
      i < 512 → reach words root 3 n ≡ Some (top f) → ⊥
  no_third words root n i f large was x li at =
      let j = index (512 * n + i) x in
      let e : n ≡ slot_of (first / 512) = (let k = j.0 in omega arith) in
      let z = large_none words root (slot_of (first / 512)) large was in
      let w : reach words root 3 n ≡ None = ap (reach words root 3) e ∙ z in
      cc

  -- each page has an entry in the slot's table, if it has no large page
  pub piece_small : (words : List ℕ) (root : ℕ) → large_of words root (slot_of (first / 512)) ≡ None →
      ((k : ℕ) → k < pages → IsSome (walk_of words root (first + k))) → (k : ℕ) → k < pages → IsSome (reach words root 3 (prefix_of (first + k) 3))
  piece_small words root small mapped k lt =
      let p = some_place (walk_of words root (first + k)) (mapped k lt) in
      go p.0 (either_way words root (prefix_of (first + k) 4) p.0 (sym (walk_reach words root (first + k)) ∙ p.1))
    where
      e : prefix_of (first + k) 4 / 512 ≡ prefix_of (first + k) 3
      e = prefix_parent (first + k) 3 (omega arith)

      go : (place : Place) → ByEntry words root (prefix_of (first + k) 4) place ⊎ InLarge words root (prefix_of (first + k) 4) place →
          IsSome (reach words root 3 (prefix_of (first + k) 3))
      go place (inl x) = let t : reach words root 3 (prefix_of (first + k) 3) ≡ Some x.table = ap (reach words root 3) (sym e) ∙ x.met in rw t refl
      go place (inr x) =
          let t : large_of words root (slot_of (first / 512)) ≡ Some x.large = ap (large_of words root) (sym (slot_at k lt))
          ∙ (ap (large_of words root) (sym e) ∙ x.met) in
          absurd (cc)

  -- a large page of the slot ends with the pages
  pub ends_with_slot : (words : List ℕ) (root : ℕ) (large : Place) → large_of words root (slot_of (first / 512)) ≡ Some large →
      NoLargePageReachesOver words root first pages → first % 512 + pages ≡ 512
  ends_with_slot words root large was ends =
      let s = range.some in
      let here : large_of words root (prefix_of (first + 0) 3) ≡ Some large = ap (large_of words root) (slot_at 0 s) ∙ was in
      let h = ends 0 s (rw here refl) in
      omega arith

  -- by the slot's table
  module _ (old new : List ℕ) (free free' : List Bool) (root : ℕ)
      (small : large_of old root (slot_of (first / 512)) ≡ None)
      (freed : ArePagesFreed old new free free' root (among first pages))
      (count : free_count free' ≡ free_count free + pages) where
    small_first : large_of old root (prefix_of first 3) ≡ None
    small_first = ap (large_of old root) first_slot ∙ small

    uncut : (large : Place) → IsCutPage old root first large → ⊥
    uncut large it = let h = it.there in let s = small_first in cc

    pub unmapped_by_table : AreUnmapped old new free free' root first pages
    unmapped_by_table = record {
      size = freed.removed.size;
      flags = freed.flags;
      gone = λ n x. let m = freed.removed.mapped n x in freed.removed.changed n m.0 x m.1;
      large_gone = λ k lt. freed.removed.larges (prefix_of (first + k) 3) ∙ (ap (large_of old root) (slot_at k lt) ∙ small);
      pages_stay = λ n x. freed.removed.stayed 4 n (omega arith) (λ _. x);
      larges_stay = λ n ne. freed.removed.larges n;
      tables_stay = λ l n lt h. freed.removed.stayed l n (omega arith) (λ e. absurd (omega arith));
      table = λ large it. absurd (uncut large it);
      given = λ n place x at nc. freed.given n place x at;
      used = λ large it. absurd (uncut large it);
      kept = freed.kept;
      count = let z = cut_none old root first (no_cut_small old root first small_first) in omega arith;
      entries = record {
        page_words = λ n f i li x at. let m = freed.removed.mapped (512 * n + i) x in freed.removed.entries n i f m.0 li x at m.1;
        large_words = λ n f i large li at was now nc. absurd (let s = freed.removed.larges (512 * n + i) in cc);
        table_word = λ f large it at. absurd (uncut large it);
        kept_words = λ k large it lt. absurd (uncut large it);
        blank = λ k large it lo lt. absurd (uncut large it);
        words = λ f i li thirds seconds apart. freed.removed.words f i li thirds;
      };
    }

  -- the frames of the run are those of the pages
  pub run_out : (words : List ℕ) (free : List Bool) (root run : ℕ) (large : Place) → IsTree words root free → frame_count words ≤ length free →
      large_of words root (slot_of (first / 512)) ≡ Some large → 512 * run ≡ large.frame → 512 * run + 511 < frame_count words → IsRunOut free run
  run_out words free root run large tree flags was framed below f e =
      let i : (512 * slot_of (first / 512) + f % 512) / 512 ≡ slot_of (first / 512) = omega arith in
      let j : (512 * slot_of (first / 512) + f % 512) % 512 ≡ f % 512 = omega arith in
      let at = at_large words root (512 * slot_of (first / 512) + f % 512) large was i in
      let u = tree.used 4 (512 * slot_of (first / 512) + f % 512) (page_in ((512 * slot_of (first / 512) + f % 512) % 512) large) (omega arith) at in
      let g : large.frame + (512 * slot_of (first / 512) + f % 512) % 512 ≡ f = omega arith in
      out_of free f (omega arith) (ap (is_frame_free free) (sym g) ∙ u)

  -- by the entry of a large page
  module _ (old new : List ℕ) (free free' : List Bool) (root run : ℕ) (large : Place)
      (root_in : root < frame_count old)
      (tree : IsTree old root free)
      (starts : first % 512 ≡ 0)
      (all : pages ≡ 512)
      (was : large_of old root (slot_of (first / 512)) ≡ Some large)
      (framed : 512 * run ≡ large.frame)
      (cleared : IsLargeCleared old new root (first / 512))
      (removed : IsLargeRemoved old new root (first / 512))
      (set_free : IsRunSet free free' run true)
      (count : free_count free' ≡ free_count free + 512) where
    never_cut : (cut : Place) → IsCutPage old root first cut → ⊥
    never_cut cut it = let h = it.behind in let s = starts in omega arith

    of_slot : (n : ℕ) → n / 512 ≡ slot_of (first / 512) → among first pages n ≡ true
    of_slot n e = of_index n e (omega arith) (omega arith)

    -- the entry of the slot
    entry_place : 512 * above (first / 512) 2 + slot_of (first / 512) % 512 ≡ slot_of (first / 512)
    entry_place = slot_place (first / 512)

    table_in : cleared.table.frame < frame_count old
    table_in = reach_below old root 2 (above (first / 512) 2) cleared.table (omega arith) root_in cleared.met

    the_table : cleared.table ≡ top cleared.table.frame
    the_table = tree.rights 2 (above (first / 512) 2) cleared.table (omega arith) cleared.met

    word_stays : (f i : ℕ) → i < 512 → (f ≡ cleared.table.frame → i ≡ slot_of (first / 512) % 512 → ⊥) → word_at new f i ≡ word_at old f i
    word_stays f i li ne =
        ap (λ w. word_at w f i) cleared.words
        ∙ word_at_set_other old cleared.table.frame (slot_of (first / 512) % 512) 0 f i (omega arith) li ne

    zero_here : word_at new cleared.table.frame (slot_of (first / 512) % 512) ≡ 0
    zero_here =
        ap (λ w. word_at w cleared.table.frame (slot_of (first / 512) % 512)) cleared.words
        ∙ word_at_set_same old cleared.table.frame (slot_of (first / 512) % 512) 0 table_in (omega arith)

    large_word : (n f i : ℕ) (other : Place) → i < 512 → reach old root 2 n ≡ Some (top f) → large_of old root (512 * n + i) ≡ Some other →
        large_of new root (512 * n + i) ≡ None → word_at new f i ≡ 0
    large_word n f i other li at before now = go (cases_eq (512 * n + i) (slot_of (first / 512)))
      where
        go : (512 * n + i ≡ slot_of (first / 512)) ⊎ (512 * n + i ≡ slot_of (first / 512) → ⊥) → word_at new f i ≡ 0
        go (inr ne) = let s = removed.larges (512 * n + i) ne in absurd (cc)
        go (inl e) =
            let s = entry_place in
            let a : n ≡ above (first / 512) 2 = omega arith in
            let b : i ≡ slot_of (first / 512) % 512 = omega arith in
            let m = cleared.met in
            let t : reach old root 2 (above (first / 512) 2) ≡ Some (top f) = ap (reach old root 2) (sym a) ∙ at in
            let q : cleared.table ≡ top f = cc in
            let g : f ≡ cleared.table.frame = sym (ap (λ p. p.frame) q) in
            ap (λ k. word_at new k i) g ∙ (ap (λ k. word_at new cleared.table.frame k) b ∙ zero_here)

    pub unmapped_whole : AreUnmapped old new free free' root first pages
    unmapped_whole = record {
      size = removed.size;
      flags = set_free.size;
      gone = λ n x.
          let j = index n x in
          let e : prefix_of (512 * (first / 512) + n % 512) 4 ≡ n = (let k = j.0 in omega arith) in
          ap (reach new root 4) (sym e) ∙ (sym (walk_reach new root (512 * (first / 512) + n % 512)) ∙ removed.gone (n % 512) (omega arith));
      large_gone = λ k lt. ap (large_of new root) (slot_at k lt) ∙ removed.no_large;
      pages_stay = λ n x. removed.others 4 n (omega arith) (λ _ e. let y = of_slot n e in cc);
      larges_stay = λ n ne. removed.larges n (λ e. ne 0 (omega arith) (e ∙ sym (slot_at 0 (omega arith))));
      tables_stay = λ l n lt h. removed.others l n (omega arith) (λ e _. absurd (omega arith));
      table = λ cut it. absurd (never_cut cut it);
      given = λ n place x at nc.
          let j = index n x in
          let f = frame_in old root n large place was j.0 at in
          set_free.here place.frame (omega arith);
      used = λ cut it. absurd (never_cut cut it);
      kept = λ f ne. set_free.elsewhere f (λ e.
          let i : (512 * slot_of (first / 512) + f % 512) / 512 ≡ slot_of (first / 512) = omega arith in
          let at = at_large old root (512 * slot_of (first / 512) + f % 512) large was i in
          ne (512 * slot_of (first / 512) + f % 512) (page_in ((512 * slot_of (first / 512) + f % 512) % 512) large)
          (of_slot (512 * slot_of (first / 512) + f % 512) i) at (omega arith));
      count = let z = cut_none old root first (no_cut_whole old root first starts) in omega arith;
      entries = record {
        page_words = λ n f i li x at. absurd (no_third old root n i f large was x li at);
        large_words = λ n f i other li at before now nc. large_word n f i other li at before now;
        table_word = λ f cut it at. absurd (never_cut cut it);
        kept_words = λ k cut it lt. absurd (never_cut cut it);
        blank = λ k cut it lo lt. absurd (never_cut cut it);
        words = λ f i li thirds seconds apart. word_stays f i li (λ e b.
            let s = entry_place in
            let at : reach old root 2 (above (first / 512) 2) ≡ Some (top f) =
            cleared.met ∙ ap Some (the_table ∙ ap top (sym e)) in
            let k = seconds (above (first / 512) 2) at in
            let g : 512 * above (first / 512) 2 + i ≡ slot_of (first / 512) = omega arith in
            let y : large_of new root (slot_of (first / 512)) ≡ large_of old root (slot_of (first / 512)) =
            ap (large_of new root) (sym g) ∙ (k ∙ ap (large_of old root) g) in
            let z = removed.no_large in
            cc);
      };
    }

  -- by a cut of the large page
  module _ (old new : List ℕ) (free free' : List Bool) (root : ℕ)
      (tree : IsTree old root free)
      (behind : 0 < first % 512)
      (to_end : first % 512 + pages ≡ 512)
      (keep : ℕ)
      (asked : IsLargeCut old new free free' root (first / 512) keep)
      (keeps : keep ≡ first % 512) where
    cut : IsLargeCut old new free free' root (first / 512) (first % 512)
    cut = rw keeps at asked

    it : IsCutPage old root first cut.large
    it = record { there = ap (large_of old root) first_slot ∙ cut.was; behind = behind }

    -- there is one large page that is cut
    is_it : (large : Place) → IsCutPage old root first large → large ≡ cut.large
    is_it large other = let a = other.there in let b = it.there in cc

    made_is : (large : Place) → IsCutPage old root first large → large.frame + first % 512 ≡ cut.large.frame + first % 512
    made_is large other = ap (λ p. p.frame + first % 512) (is_it large other)

    -- a page of the slot by its index
    in_slot : (n : ℕ) → n / 512 ≡ slot_of (first / 512) → prefix_of (512 * (first / 512) + n % 512) 4 ≡ n
    in_slot n e = omega arith

    walk_in : (words : List ℕ) (n : ℕ) → n / 512 ≡ slot_of (first / 512) → reach words root 4 n ≡ walk_of words root (512 * (first / 512) + n % 512)
    walk_in words n e = ap (reach words root 4) (sym (in_slot n e)) ∙ sym (walk_reach words root (512 * (first / 512) + n % 512))

    pages_stay : (n : ℕ) → among first pages n ≡ false → reach new root 4 n ≡ reach old root 4 n
    pages_stay n x = go (cases_eq (n / 512) (slot_of (first / 512)))
      where
        go : (n / 512 ≡ slot_of (first / 512)) ⊎ (n / 512 ≡ slot_of (first / 512) → ⊥) → reach new root 4 n ≡ reach old root 4 n
        go (inl e) = walk_in new n e ∙ (cut.stays (n % 512) (before (cases_lt (n % 512) (first % 512))) ∙ sym (walk_in old n e))
          where
            before : (n % 512 < first % 512) ⊎ (first % 512 ≤ n % 512) → n % 512 < first % 512
            before (inl lt) = lt
            before (inr ge) = let y = of_index n e ge (omega arith) in absurd (cc)
        go (inr ne) = cut.others 4 n (omega arith) (λ e _. absurd (omega arith)) (λ _ e. ne e)

    tables_stay : (l n : ℕ) → l < 4 → (l ≡ 3 → n ≡ prefix_of first 3 → cuts_large_page old root first ≡ false) → reach new root l n ≡ reach old root l n
    tables_stay l n lt h = cut.others l n (omega arith)
        (λ e f. let z = h e (f ∙ sym first_slot) in let y = cut_is old root first cut.large it in cc)
        (λ e _. absurd (omega arith))

    -- the frame at an index of the large page
    frame_at : (k : ℕ) → k < 512 → reach old root 4 (512 * slot_of (first / 512) + k) ≡ Some (page_in k cut.large)
    frame_at k lt =
        let i : (512 * slot_of (first / 512) + k) / 512 ≡ slot_of (first / 512) = omega arith in
        let j : (512 * slot_of (first / 512) + k) % 512 ≡ k = omega arith in
        at_large old root (512 * slot_of (first / 512) + k) cut.large cut.was i ∙ ap (λ m. Some (page_in m cut.large)) j

    frame_among : (k : ℕ) → first % 512 ≤ k → k < 512 → among first pages (512 * slot_of (first / 512) + k) ≡ true
    frame_among k lo lt = of_index (512 * slot_of (first / 512) + k) (omega arith) (omega arith) (omega arith)

    given : (n : ℕ) (place : Place) → among first pages n ≡ true → reach old root 4 n ≡ Some place →
        ((large : Place) → IsCutPage old root first large → n ≡ prefix_of first 4 → ⊥) →
        is_frame_free free' place.frame ≡ true
    given n place x at nc =
        let j = index n x in
        let f = frame_in old root n cut.large place cut.was j.0 at in
        let lo = j.1 in
        let ne : n % 512 ≡ first % 512 → ⊥ = λ e. nc cut.large it (let k = j.0 in omega arith) in
        ap (is_frame_free free') f ∙ cut.given (n % 512) (after (cases_eq (n % 512) (first % 512)) lo ne) (omega arith)
      where
        after : (n % 512 ≡ first % 512) ⊎ (n % 512 ≡ first % 512 → ⊥) → first % 512 ≤ n % 512 → (n % 512 ≡ first % 512 → ⊥) → first % 512 < n % 512
        after (inl e) lo ne = absurd (ne e)
        after (inr q) lo ne = omega arith

    used : is_frame_free free' (cut.large.frame + first % 512) ≡ false
    used =
        cut.kept (cut.large.frame + first % 512) (λ k lo lt e. omega arith)
        ∙ tree.used 4 (512 * slot_of (first / 512) + first % 512) (page_in (first % 512) cut.large) (omega arith) (frame_at (first % 512) (omega arith))

    kept : (f : ℕ) → ((n : ℕ) (place : Place) → among first pages n ≡ true → reach old root 4 n ≡ Some place → place.frame ≡ f → ⊥) →
        is_frame_free free' f ≡ is_frame_free free f
    kept f ne = cut.kept f (λ k lo lt e.
        ne (512 * slot_of (first / 512) + k) (page_in k cut.large) (frame_among k (omega arith) lt) (frame_at k lt) (sym e))

    second_slot : prefix_of first 2 ≡ above (first / 512) 2
    second_slot = omega arith

    large_words : (n f i : ℕ) (large : Place) → i < 512 → reach old root 2 n ≡ Some (top f) → large_of old root (512 * n + i) ≡ Some large →
        large_of new root (512 * n + i) ≡ None → (cuts_large_page old root first ≡ true → 512 * n + i ≡ prefix_of first 3 → ⊥) → word_at new f i ≡ 0
    large_words n f i large li at before now nc =
        let ne : 512 * n + i ≡ slot_of (first / 512) → ⊥ = λ e. nc (cut_is old root first cut.large it) (e ∙ sym first_slot) in
        let s = cut.larges (512 * n + i) ne in
        absurd (cc)

    words : (f i : ℕ) → i < 512 → ((n : ℕ) → reach old root 2 n ≡ Some (top f) → large_of new root (512 * n + i) ≡ large_of old root (512 * n + i)) →
        ((large : Place) → IsCutPage old root first large → f ≡ large.frame + first % 512 → ⊥) → word_at new f i ≡ word_at old f i
    words f i li seconds apart = cut.words f i li (apart cut.large it) (λ at met e b.
        let s = slot_place (first / 512) in
        let q : at ≡ top f = tree.rights 2 (above (first / 512) 2) at (omega arith) met ∙ ap top (sym e) in
        let k = seconds (above (first / 512) 2) (met ∙ ap Some q) in
        let g : 512 * above (first / 512) 2 + i ≡ slot_of (first / 512) = omega arith in
        let y : large_of new root (slot_of (first / 512)) ≡ large_of old root (slot_of (first / 512)) =
        ap (large_of new root) (sym g) ∙ (k ∙ ap (large_of old root) g) in
        let z = cut.no_large in
        let w = cut.was in
        cc)

    pub unmapped_cut : AreUnmapped old new free free' root first pages
    unmapped_cut = record {
      size = cut.size;
      flags = cut.flags;
      gone = λ n x. let j = index n x in walk_in new n j.0 ∙ cut.gone (n % 512) j.1 (omega arith);
      large_gone = λ k lt. ap (large_of new root) (slot_at k lt) ∙ cut.no_large;
      pages_stay = pages_stay;
      larges_stay = λ n ne. cut.larges n (λ e. ne 0 (omega arith) (e ∙ sym (slot_at 0 (omega arith))));
      tables_stay = tables_stay;
      table = λ large other. ap (reach new root 3) first_slot ∙ (cut.table ∙ ap (λ f. Some (top f)) (sym (made_is large other)));
      given = given;
      used = λ large other. ap (is_frame_free free') (made_is large other) ∙ used;
      kept = kept;
      count = let z = cut_one old root first (cut_is old root first cut.large it) in let c = cut.count in omega arith;
      entries = record {
        page_words = λ n f i li x at. absurd (no_third old root n i f cut.large cut.was x li at);
        large_words = large_words;
        table_word = λ f large other at.
            let g : prefix_of first 3 % 512 ≡ slot_of (first / 512) % 512 = ap (λ n. n % 512) first_slot in
            ap (word_at new f) g
            ∙ (cut.entry (top f) (ap (reach old root 2) (sym second_slot) ∙ at) ∙ ap table_entry (sym (made_is large other)));
        kept_words = λ k large other lt. rw (is_it large other) (cut.page_words k lt);
        blank = λ k large other lo lt. rw (is_it large other) (cut.blank k lo lt);
        words = λ f i li thirds seconds apart. words f i li seconds apart;
      };
    }
