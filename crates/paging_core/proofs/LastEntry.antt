-- The last entry of a page is written.
use Rattle.std.proofs.Common.{◌≡◌, ℕ, ◌^◌, ◌+◌, ◌-◌, ◌*◌, ◌%◌, ◌<◌, ◌≤◌, Bool, true, false, not, ltb, List, length, set, Option, Some, None, refl, sym, ap, ◌∙◌, ◌⊎◌, inl, inr, arith, length-set}
use Rattle.std.proofs.lemmas.Bool.{cases_eq, cases_lt, lt-ltb}
use Rattle.paging_core.specs.Entry.{table_entry, page_entry}
use Rattle.paging_core.specs.Area.{Area, Whole}
use Rattle.paging_core.specs.Memory.{word_at, frame_count}
use Rattle.paging_core.specs.Prefix.{prefix_of}
use Rattle.paging_core.specs.Walk.{Place, step, reach, large_of, top, walk_of, place_with}
use Rattle.paging_core.specs.Pool.{is_frame_free}
use Rattle.paging_core.specs.Tree.{IsTreeIn}
use Rattle.paging_core.specs.Tables.{IsPrepared}
use Rattle.paging_core.specs.Mapping.{HasExactEntries, IsPageAdded}
use Rattle.paging_core.specs.declared.page_table.PageBits.{PageBits}
use Rattle.paging_core.proofs.Words.{word_at_set_same, word_at_set_other}
use Rattle.paging_core.proofs.Prefixes.{reach_page, prefix_more, prefix_split, walk_reach, none_below}
use Rattle.paging_core.proofs.PageWords.{page_bits}
use Rattle.paging_core.proofs.Plain.{plain_page}
use Rattle.paging_core.proofs.Link.{IsLink, link_there, link_others, link_larges, tree_link}
use Rattle.paging_core.proofs.Made.{reach_below}
use Rattle.paging_core.proofs.Counts.{missing_one}
use Rattle.paging_core.proofs.Areas.{own_met, own_table, own_whole}

pub not_not : (b : Bool) → not (not b) ≡ b
not_not true = refl
not_not false = refl

pub step_page : (words : List ℕ) (t j frame : ℕ) (rights : PageBits) → frame < 2 ^ 40 → frame < frame_count words →
    word_at words t j ≡ page_entry frame rights → step words 3 (top t) j ≡ Some (place_with frame rights)
unfolding step
step_page words t j frame rights small within e =
    let p : ltb frame (frame_count words) ≡ true = lt-ltb frame (frame_count words) within in
    let is = page_bits frame small rights in
    rw (e, is.names, is.present, is.writable, is.usable, is.executable, is.through, is.uncached, is.global, p, not_not) refl

pub some_or_none : {A : Type 0} (o : Option A) → ((x : A) × (o ≡ Some x)) ⊎ (o ≡ None)
some_or_none None = inr refl
some_or_none (Some x) = inl (x, refl)

-- a frame that is met nowhere is not met once the missing tables are made
pub kept_unmet : (old mid : List ℕ) (free free' : List Bool) (root page frame : ℕ) → is_frame_free free frame ≡ false →
    IsPrepared old mid free free' root page 3 →
    ((l n : ℕ) (b : Place) → l ≤ 4 → reach old root l n ≡ Some b → b.frame ≡ frame → ⊥) →
    (l n : ℕ) (b : Place) → l ≤ 4 → reach mid root l n ≡ Some b → b.frame ≡ frame → ⊥
kept_unmet old mid free free' root page frame used prepared unmet l n b le now e = go (cases_eq n (prefix_of page l)) (cases_lt 3 l)
  where
    here_of : (n ≡ prefix_of page l) → l ≤ 3 → ((x : Place) × (reach old root l (prefix_of page l) ≡ Some x)) ⊎ (reach old root l (prefix_of page l) ≡ None) → ⊥
    here_of x lo (inl p) =
        let s = prepared.stayed l p.0 le p.1 in
        let w : reach mid root l (prefix_of page l) ≡ Some b = rw (← x) now in
        let q : p.0 ≡ b = cc in
        unmet l (prefix_of page l) b le (p.1 ∙ ap Some q) e
    here_of x lo (inr p) =
        let w : reach mid root l (prefix_of page l) ≡ Some b = rw (← x) now in
        let f : is_frame_free free b.frame ≡ true = prepared.made l b lo p w in
        let g = ap (is_frame_free free) e in cc

    go : (n ≡ prefix_of page l) ⊎ (n ≡ prefix_of page l → ⊥) → (3 < l) ⊎ (l ≤ 3) → ⊥
    go (inl x) (inr lo) = here_of x lo (some_or_none (reach old root l (prefix_of page l)))
    go (inr x) _ = unmet l n b le (sym (prepared.others l n le (λ _ y. x y)) ∙ now) e
    go _ (inl hi) = unmet l n b le (sym (prepared.others l n le (λ lo _. absurd (omega arith))) ∙ now) e

module _ {area : Area} (old mid new : List ℕ) (free free' : List Bool) (root page table index frame : ℕ) (rights : PageBits)
    (root_in : root < frame_count old)
    (unmapped : walk_of old root page ≡ None)
    (small : frame < 2 ^ 40)
    (frame_in : frame < frame_count old)
    (used : area ≡ Whole → is_frame_free free frame ≡ false)
    (unmet : area ≡ Whole → (l n : ℕ) (b : Place) → l ≤ 4 → reach old root l n ≡ Some b → b.frame ≡ frame → ⊥)
    (ix : index ≡ prefix_of page 4 % 512)
    (tree : IsTreeIn area mid root free')
    (met : reach mid root 3 (prefix_of page 3) ≡ Some (top table))
    (prepared : IsPrepared old mid free free' root page 3)
    (written : new ≡ set mid (512 * table + index) (page_entry frame rights)) where
  index_in : index < 512
  index_in = omega arith

  size : length new ≡ length mid
  size = rw written (length-set mid (512 * table + index) (page_entry frame rights))

  table_in : table < frame_count mid
  table_in = let s = prepared.size in reach_below mid root 3 (prefix_of page 3) (top table) (omega arith) (omega arith) met

  place : 512 * prefix_of page 3 + index ≡ prefix_of page 4
  place = rw ix (prefix_more page 3 (omega arith))

  was : step mid 3 (top table) index ≡ None
  was =
      let a = reach_page mid root page (top table) met in
      let b = prepared.others 4 (prefix_of page 4) (omega arith) (λ le _. absurd (omega arith)) in
      ap (step mid 3 (top table)) ix ∙ (sym a ∙ (b ∙ (sym (walk_reach old root page) ∙ unmapped)))

  word_stays : (f i : ℕ) → i < 512 → (f ≡ table → i ≡ index → ⊥) → word_at new f i ≡ word_at mid f i
  word_stays f i li ne = ap (λ w. word_at w f i) written ∙ word_at_set_other mid table index (page_entry frame rights) f i index_in li ne

  written_here : word_at new table index ≡ page_entry frame rights
  written_here = ap (λ w. word_at w table index) written ∙ word_at_set_same mid table index (page_entry frame rights) table_in index_in

  link : IsLink mid new root 3 (prefix_of page 3) index (top table) (place_with frame rights)
  link = record {
    level_bound = omega arith;
    index_bound = index_in;
    here = met;
    size = size;
    elsewhere = word_stays;
    small = λ e. absurd (omega arith);
    was = was;
    is = step_page new table index frame rights small (let a = size in let b = prepared.size in omega arith) written_here;
    bare = λ lt j lj. absurd (omega arith);
    plain = rw written_here (plain_page new frame rights small (let a = size in let b = prepared.size in omega arith));
  }

  same : (l n : ℕ) → l ≤ 4 → (l ≡ 4 → n ≡ prefix_of page 4 → ⊥) → reach new root l n ≡ reach mid root l n
  same l n le ne = link_others mid new root 3 (prefix_of page 3) index (top table) (place_with frame rights) free' link tree l n le (λ x y. ne x (y ∙ place))

  there : reach new root 4 (prefix_of page 4) ≡ Some (place_with frame rights)
  there = rw (← place) (link_there mid new root 3 (prefix_of page 3) index (top table) (place_with frame rights) free' link tree)

  larges : (n : ℕ) → large_of new root n ≡ large_of old root n
  larges n = link_larges mid new root 3 (prefix_of page 3) index (top table) (place_with frame rights) free' link tree n ∙ prepared.larges n

  pub mapped_tree : IsTreeIn area new root free'
  mapped_tree = tree_link mid new root 3 (prefix_of page 3) index (top table) (place_with frame rights) free' link tree
      free'
      (λ l n b own four. kept_unmet old mid free free' root page frame (used (own_whole area four)) prepared (unmet (own_whole area four)) l n b
      (own_met area l own))
      (λ lt. absurd (omega arith)) (λ lt. absurd (omega arith)) (λ four. prepared.fewer frame (used (own_whole area four))) (λ f e. e)

  low : (l : ℕ) (n : ℕ) → l < 4 → reach new root l n ≡ reach mid root l n
  low l n lt = same l n (omega arith) (λ x _. absurd (omega arith))

  -- each table above the last is there
  made_of : (l : ℕ) → l < 4 → reach old root l (prefix_of page l) ≡ None →
      ((b : Place) × (reach mid root l (prefix_of page l) ≡ Some b)) ⊎ (reach mid root l (prefix_of page l) ≡ None) →
      (f : ℕ) × (reach new root l (prefix_of page l) ≡ Some (top f)) × (is_frame_free free f ≡ true)
  made_of l lt none (inl p) =
      let r : p.0 ≡ top p.0.frame = tree.rights l (prefix_of page l) p.0 lt p.1 in
      (p.0.frame, low l (prefix_of page l) lt ∙ (p.1 ∙ ap Some r), prepared.made l p.0 (omega arith) none p.1)
  made_of l lt none (inr e) =
      let z : l + (3 - l) ≡ 3 = omega arith in
      let h = none_below mid root page l (3 - l) (omega arith) e in
      let x : reach mid root 3 (prefix_of page 3) ≡ None = rw z at h in
      absurd (cc)

  -- the last table is met at its own prefix alone
  here_only : (l f : ℕ) → l < 4 → reach mid root l (prefix_of page l) ≡ Some (top f) → f ≡ table → l ≡ 3
  here_only l f lt now e = (tree.distinct l (prefix_of page l) 3 (prefix_of page 3) (top f) (top table) (own_table area l lt)
      (own_table area 3 (omega arith)) now met e).0

  was_low : (l n : ℕ) (m : Place) → l < 4 → reach new root l n ≡ Some m → reach mid root l n ≡ Some m
  was_low l n m lt now = sym (low l n lt) ∙ now

  others : (l n : ℕ) → l ≤ 4 → (n ≡ prefix_of page l → ⊥) → reach new root l n ≡ reach old root l n
  others l n le ne = same l n le (λ x y. ne (y ∙ ap (prefix_of page) (sym x))) ∙ prepared.others l n le (λ _ y. ne y)

  stayed : (l n : ℕ) (b : Place) → l < 4 → reach old root l n ≡ Some b → reach new root l n ≡ Some b
  stayed l n b lt was = go (cases_eq n (prefix_of page l))
    where
      go : (n ≡ prefix_of page l) ⊎ (n ≡ prefix_of page l → ⊥) → reach new root l n ≡ Some b
      go (inl e) = rw e (low l (prefix_of page l) lt ∙ prepared.stayed l b (omega arith) (rw (← e) was))
      go (inr ne) = others l n (omega arith) ne ∙ was

  mapped_page_words : (f i : ℕ) → i < 512 → ((l : ℕ) → l < 4 → reach new root l (prefix_of page l) ≡ Some (top f) → ⊥) → word_at new f i ≡ word_at old f i
  mapped_page_words f i li ne =
      word_stays f i li (λ e _. ne 3 (omega arith) (low 3 (prefix_of page 3) (omega arith) ∙ (met ∙ ap (λ k. Some (top k)) (sym e))))
      ∙ prepared.words f i li (λ l lt x. ne l lt (low l (prefix_of page l) lt ∙ x))

  -- the words of the page's tables, level by level
  at_old_table : (l f i : ℕ) → l < 4 → reach old root l (prefix_of page l) ≡ Some (top f) → i < 512 → (i ≡ prefix_of page (l + 1) % 512 → ⊥) →
      word_at new f i ≡ word_at old f i
  at_old_table l f i lt was li ne =
      let now = prepared.stayed l (top f) (omega arith) was in
      word_stays f i li (λ e x. ne (x ∙ (ix ∙ ap (λ k. prefix_of page (k + 1) % 512) (sym (here_only l f lt now e)))))
      ∙ prepared.old_table l f i lt was li (λ _ x. ne x)

  at_old_entry : (l f : ℕ) (next : Place) → l < 3 → reach old root l (prefix_of page l) ≡ Some (top f) →
      reach old root (l + 1) (prefix_of page (l + 1)) ≡ Some next →
      word_at new f (prefix_of page (l + 1) % 512) ≡ word_at old f (prefix_of page (l + 1) % 512)
  at_old_entry l f next lt was on =
      let now = prepared.stayed l (top f) (omega arith) was in
      word_stays f (prefix_of page (l + 1) % 512) (omega arith) (λ e _. let z = here_only l f (omega arith) now e in absurd (omega arith))
      ∙ prepared.old_entry l f next lt was on

  at_new_table : (l f i : ℕ) → l < 4 → reach old root l (prefix_of page l) ≡ None → reach new root l (prefix_of page l) ≡ Some (top f) → i < 512 →
      (i ≡ prefix_of page (l + 1) % 512 → ⊥) → word_at new f i ≡ 0
  at_new_table l f i lt none now li ne =
      let w : reach mid root l (prefix_of page l) ≡ Some (top f) = was_low l (prefix_of page l) (top f) lt now in
      word_stays f i li (λ e x. ne (x ∙ (ix ∙ ap (λ k. prefix_of page (k + 1) % 512) (sym (here_only l f lt w e)))))
      ∙ prepared.blank l f i (omega arith) none w li (λ _ x. ne x)

  at_new_entry : (l f made : ℕ) → l < 3 → reach new root l (prefix_of page l) ≡ Some (top f) →
      reach old root (l + 1) (prefix_of page (l + 1)) ≡ None → reach new root (l + 1) (prefix_of page (l + 1)) ≡ Some (top made) →
      word_at new f (prefix_of page (l + 1) % 512) ≡ table_entry made
  at_new_entry l f made lt here none now =
      let w : reach mid root l (prefix_of page l) ≡ Some (top f) = was_low l (prefix_of page l) (top f) (omega arith) here in
      let on : reach mid root (l + 1) (prefix_of page (l + 1)) ≡ Some (top made) = was_low (l + 1) (prefix_of page (l + 1)) (top made) (omega arith) now in
      word_stays f (prefix_of page (l + 1) % 512) (omega arith) (λ e _. let z = here_only l f (omega arith) w e in absurd (omega arith))
      ∙ prepared.table_word l f made lt w none on

  at_last_entry : (f : ℕ) → reach new root 3 (prefix_of page 3) ≡ Some (top f) → word_at new f (prefix_of page 4 % 512) ≡ page_entry frame rights
  at_last_entry f here =
      let w : reach mid root 3 (prefix_of page 3) ≡ Some (top f) = was_low 3 (prefix_of page 3) (top f) (omega arith) here in
      let fa : top f ≡ top table = cc in
      let ft : f ≡ table = ap (λ p. p.frame) fa in
      rw (ft, ← ix) written_here

  -- the walk to the page meets something at each level now
  met_now : (l : ℕ) → l < 4 → (m : Place) × (reach new root (l + 1) (prefix_of page (l + 1)) ≡ Some m)
  met_now l lt = go (cases_lt l 3) (some_or_none (reach old root (l + 1) (prefix_of page (l + 1))))
    where
      go : (l < 3) ⊎ (3 ≤ l) → ((m : Place) × (reach old root (l + 1) (prefix_of page (l + 1)) ≡ Some m)) ⊎ (reach old root
          (l + 1) (prefix_of page (l + 1)) ≡ None) →
          (m : Place) × (reach new root (l + 1) (prefix_of page (l + 1)) ≡ Some m)
      go (inr hi) _ = let e : l ≡ 3 = omega arith in (place_with frame rights, rw e there)
      go (inl lo) (inl p) = (p.0, stayed (l + 1) (prefix_of page (l + 1)) p.0 (omega arith) p.1)
      go (inl lo) (inr none) =
          let t = made_of (l + 1) (omega arith) none (some_or_none (reach mid root (l + 1) (prefix_of page (l + 1)))) in (top t.0, t.1)

  old_words : (l n f i : ℕ) → l < 4 → i < 512 → reach old root l n ≡ Some (top f) →
      reach new root (l + 1) (512 * n + i) ≡ reach old root (l + 1) (512 * n + i) → word_at new f i ≡ word_at old f i
  old_words l n f i lt li was keeps = go (cases_eq n (prefix_of page l)) (cases_eq i (prefix_of page (l + 1) % 512))
    where
      on : n ≡ prefix_of page l → i ≡ prefix_of page (l + 1) % 512 → 512 * n + i ≡ prefix_of page (l + 1)
      on x y = let p = prefix_more page l lt in omega arith

      entry : n ≡ prefix_of page l → i ≡ prefix_of page (l + 1) % 512 → (l < 3) ⊎ (3 ≤ l) →
          ((m : Place) × (reach old root (l + 1) (prefix_of page (l + 1)) ≡ Some m)) ⊎ (reach old root (l + 1) (prefix_of page (l + 1)) ≡ None) →
          word_at new f i ≡ word_at old f i
      entry x y (inl lo) (inl p) = rw y (at_old_entry l f p.0 lo (rw (← x) was) p.1)
      entry x y _ (inr none) =
          let t = met_now l lt in
          let k : reach new root (l + 1) (prefix_of page (l + 1)) ≡ reach old root (l + 1) (prefix_of page (l + 1)) = rw (← on x y) keeps in
          absurd (cc)
      entry x y (inr hi) (inl p) =
          let e : l ≡ 3 = omega arith in
          let a : reach old root 4 (prefix_of page 4) ≡ Some p.0 = rw e at p.1 in
          let b = sym (walk_reach old root page) ∙ unmapped in
          absurd (cc)

      go : (n ≡ prefix_of page l) ⊎ (n ≡ prefix_of page l → ⊥) → (i ≡ prefix_of page (l + 1) % 512) ⊎ (i ≡ prefix_of page (l + 1) % 512 → ⊥) →
          word_at new f i ≡ word_at old f i
      go (inl x) (inr ne) = at_old_table l f i lt (rw (← x) was) li ne
      go (inl x) (inl y) = entry x y (cases_lt l 3) (some_or_none (reach old root (l + 1) (prefix_of page (l + 1))))
      go (inr ne) _ =
          mapped_page_words f i li
          (λ k lk now. let p : (l ≡ k) × (n ≡ prefix_of page k) =
          mapped_tree.distinct l n k (prefix_of page k) (top f) (top f) (own_table area l lt) (own_table area k lk)
          (stayed l n (top f) lt was) now refl in
          ne (p.1 ∙ ap (prefix_of page) (sym p.0)))

  -- what was not met and is met now is met on the way to the page
  only_page : (l n : ℕ) (m : Place) → l ≤ 4 → reach old root l n ≡ None → reach new root l n ≡ Some m → n ≡ prefix_of page l
  only_page l n m le none now = go (cases_eq n (prefix_of page l))
    where
      go : (n ≡ prefix_of page l) ⊎ (n ≡ prefix_of page l → ⊥) → n ≡ prefix_of page l
      go (inl e) = e
      go (inr ne) = let o = others l n le ne in absurd (cc)

  blank : (l n f i : ℕ) → l < 4 → i < 512 → reach old root l n ≡ None → reach new root l n ≡ Some (top f) →
      reach new root (l + 1) (512 * n + i) ≡ None → word_at new f i ≡ 0
  blank l n f i lt li none now gone =
      let x = only_page l n (top f) (omega arith) none now in
      at_new_table l f i lt (rw (← x) none) (rw (← x) now) li
      (λ y. let t = met_now l lt in
      let e : 512 * n + i ≡ prefix_of page (l + 1) = (let p = prefix_more page l lt in omega arith) in
      let k : reach new root (l + 1) (prefix_of page (l + 1)) ≡ None = rw (← e) gone in
      cc)

  table_words : (l n f i made : ℕ) → l < 3 → i < 512 → reach new root l n ≡ Some (top f) → reach old root (l + 1) (512 * n + i) ≡ None →
      reach new root (l + 1) (512 * n + i) ≡ Some (top made) → word_at new f i ≡ table_entry made
  table_words l n f i made lt li here none now =
      let e = only_page (l + 1) (512 * n + i) (top made) (omega arith) none now in
      let p = prefix_split page l n i (omega arith) li e in
      rw p.1 (at_new_entry l f made lt (rw (← p.0) here) (rw (← e) none) (rw (← e) now))

  page_words : (n f i : ℕ) (place : Place) → i < 512 → reach new root 3 n ≡ Some (top f) → reach old root 4 (512 * n + i) ≡ None →
      reach new root 4 (512 * n + i) ≡ Some place → word_at new f i ≡ page_entry place.frame rights
  page_words n f i place li here none now =
      let e = only_page 4 (512 * n + i) place (omega arith) none now in
      let p = prefix_split page 3 n i (omega arith) li e in
      let is : reach new root 4 (prefix_of page 4) ≡ Some place = rw (← e) now in
      let t = there in
      let same : place_with frame rights ≡ place = cc in
      let f' : frame ≡ place.frame = ap (λ q. q.frame) same in
      rw (p.1, ← f') (at_last_entry f (rw (← p.0) here))

  exact : HasExactEntries old new root rights
  exact = record { old_words = old_words; blank = blank; table_words = table_words; page_words = page_words }

  pub mapped_page : IsPageAdded old new free free' root page frame rights
  mapped_page = record {
    size = size ∙ prepared.size;
    flags = prepared.flags;
    there = walk_reach new root page ∙ there;
    pages = λ other ne.
        walk_reach new root other ∙ (others 4 (prefix_of other 4) (omega arith) (λ e. ne (omega arith)) ∙ sym (walk_reach old root other));
    others = others;
    larges = larges;
    stayed = stayed;
    made = λ l lt none. made_of l lt none (some_or_none (reach mid root l (prefix_of page l)));
    fewer = prepared.fewer;
    lowest = prepared.lowest;
    kept = λ f e ne. prepared.kept f e (λ l le x. ne l (omega arith) (low l (prefix_of page l) (omega arith) ∙ x));
    count = let c = prepared.count in let m = missing_one old root page in omega arith;
    words = mapped_page_words;
    entries = exact;
  }
