-- The missing tables of a page are made, one level after the other.
use Rattle.std.proofs.Common.{◌≡◌, ℕ, zero, suc, ◌+◌, ◌*◌, ◌/◌, ◌%◌, ◌<◌, ◌≤◌, Bool, true, false, List, length, Option, Some, None, refl, sym, ap, ◌∙◌, ◌⊎◌, inl, inr, arith, length-set}
use Rattle.std.proofs.lemmas.Bool.{cases_eq, cases_lt, cases_Bool}
use Rattle.std.proofs.lemmas.List.{get_or-set_other}
use Rattle.paging_core.specs.Entry.{table_entry}
use Rattle.paging_core.specs.Area.{Area, in_area}
use Rattle.paging_core.specs.Memory.{word_at, frame_count, cleared}
use Rattle.paging_core.specs.Prefix.{prefix_of}
use Rattle.paging_core.specs.Pool.{is_frame_free, free_count, FreeBelow, FreeIn}
use Rattle.paging_core.specs.Walk.{Place, step, large_step, large_of, large_from, reach, next_from, top}
use Rattle.paging_core.specs.Tree.{IsTreeIn}
use Rattle.paging_core.specs.Tables.{IsTableMade, IsEnsured, IsPrepared, missing_at, missing_past}
use Rattle.paging_core.proofs.Words.{word_at_cleared_same, word_at_cleared_other, word_at_set_other, word_at_set_same, length_cleared}
use Rattle.paging_core.proofs.Prefixes.{reach_prefix, prefix_more}
use Rattle.paging_core.proofs.Reach.{large_is}
use Rattle.paging_core.proofs.Areas.{free_below, free_inside, free_in, own_table}
use Rattle.paging_core.proofs.Made.{made_tree, made_there, made_others, made_larges, made_size, fewer_flags, lowest_more, taken_count, reach_below}

pub prepared_start : (words : List ℕ) (free : List Bool) (root page : ℕ) → IsPrepared words words free free root page 0
prepared_start words free root page = record {
  size = refl;
  flags = refl;
  others = λ l n le ne. refl;
  larges = λ n. refl;
  stayed = λ l m le is. is;
  made = λ l m le absent is. absurd (cc);
  fewer = λ f e. e;
  lowest = λ f g was now other. absurd (cc);
  kept = λ f e ne. e;
  count = refl;
  words = λ f i li ne. refl;
  old_table = λ l f i lt is li ne. refl;
  old_entry = λ l f next lt is on. refl;
  blank = λ l f i le absent is li ne. absurd (cc);
  table_word = λ l f made lt is absent now. absurd (omega arith);
}

pub missing_more : (words : List ℕ) (root page level : ℕ) → level < 3 →
    missing_past words root page level ≡ missing_at words root page (level + 1) + missing_past words root page (level + 1)
missing_more words root page zero lt = omega arith
missing_more words root page (suc zero) lt = refl
missing_more words root page (suc (suc zero)) lt = omega arith
missing_more words root page (suc (suc (suc n))) lt = absurd (omega arith)

-- fewer are missing past a later level
missing_fewer : (words : List ℕ) (root page a b : ℕ) → a ≤ b → b ≤ 3 → missing_past words root page b ≤ missing_past words root page a
missing_fewer words root page zero zero le top = omega arith
missing_fewer words root page zero (suc zero) le top = omega arith
missing_fewer words root page zero (suc (suc zero)) le top = omega arith
missing_fewer words root page (suc zero) (suc zero) le top = omega arith
missing_fewer words root page (suc zero) (suc (suc zero)) le top = omega arith
missing_fewer words root page (suc (suc zero)) (suc (suc zero)) le top = omega arith
missing_fewer words root page a (suc (suc (suc n))) le top = omega arith
missing_fewer words root page (suc (suc n)) (suc zero) le top = absurd (omega arith)
missing_fewer words root page (suc n) zero le top = absurd (omega arith)
missing_fewer words root page (suc (suc (suc n))) (suc (suc zero)) le top = absurd (omega arith)

missing_none : (words : List ℕ) (root page level : ℕ) → reach words root level (prefix_of page level) ≡ None → missing_at words root page level ≡ 1
missing_none words root page level e = rw e refl

missing_some : (words : List ℕ) (root page level : ℕ) (m : Place) → reach words root level (prefix_of page level) ≡ Some m →
    missing_at words root page level ≡ 0
missing_some words root page level m e = rw e refl

module _ {area : Area} (old mid : List ℕ) (free freem : List Bool) (root page level table index : ℕ)
    (root_in : root < frame_count old)
    (known : FreeIn area free (frame_count old))
    (lt : level < 3)
    (ix : index ≡ prefix_of page (level + 1) % 512)
    (tree : IsTreeIn area mid root freem)
    (met : reach mid root level (prefix_of page level) ≡ Some (top table))
    (prepared : IsPrepared old mid free freem root page level)
    (slot : level ≡ 2 → large_of old root (prefix_of page 3) ≡ None) where
  -- what the walk meets one level on
  child : reach mid root (level + 1) (prefix_of page (level + 1)) ≡ step mid level (top table) index
  child =
      reach_prefix mid root page level (omega arith)
      ∙ (ap (λ o. next_from mid level o (prefix_of page (level + 1) % 512)) met ∙ ap (step mid level (top table)) (sym ix))

  -- the entry maps no large page
  small : level ≡ 2 → large_step mid (top table) index ≡ None
  small e =
      let p : prefix_of page 3 / 512 ≡ prefix_of page 2 = omega arith in
      let q : prefix_of page 3 % 512 ≡ index = ap (λ l. prefix_of page (l + 1) % 512) (sym e) ∙ sym ix in
      let m : reach mid root 2 (prefix_of page 3 / 512) ≡ Some (top table) = ap (reach mid root 2) p
      ∙ (ap (λ l. reach mid root l (prefix_of page l)) (sym e) ∙ met) in
      ap (large_step mid (top table)) (sym q)
      ∙ (sym (ap (λ o. large_from mid o (prefix_of page 3 % 512)) m)
      ∙ (sym (large_is mid root (prefix_of page 3)) ∙ (prepared.larges (prefix_of page 3) ∙ slot e)))

  child_old : reach old root (level + 1) (prefix_of page (level + 1)) ≡ step mid level (top table) index
  child_old = sym (prepared.others (level + 1) (prefix_of page (level + 1)) (omega arith) (λ le _. absurd (omega arith))) ∙ child

  pub table_below : table < frame_count mid
  table_below = let s = prepared.size in reach_below mid root level (prefix_of page level) (top table) (omega arith) (omega arith) met

  -- a frame that is free was free at first
  first_free : (f : ℕ) → is_frame_free freem f ≡ true → is_frame_free free f ≡ true
  first_free f e = go (cases_Bool (is_frame_free free f))
    where
      go : (is_frame_free free f ≡ true) ⊎ (is_frame_free free f ≡ false) → is_frame_free free f ≡ true
      go (inl h) = h
      go (inr h) = let x = prepared.fewer f h in absurd (cc)

  below_mid : FreeBelow freem (frame_count mid)
  below_mid f e = let s = prepared.size in let b = free_below area free (frame_count old) known f (first_free f e) in omega arith

  pub known_mid : FreeIn area freem (frame_count mid)
  known_mid = free_in area freem (frame_count mid) below_mid (λ f e. free_inside area free (frame_count old) known f (first_free f e))

  pub table_inside : in_area area table ≡ true
  table_inside = tree.inside level (prefix_of page level) (top table) (omega arith) met

  pub room_for : (levels : ℕ) → level < levels → levels ≤ 3 → missing_past old root page 0 ≤ free_count free + missing_past old root page levels →
      step mid level (top table) index ≡ None → 0 < free_count freem
  room_for levels on le room absent =
      let past = missing_fewer old root page (level + 1) levels (omega arith) le in
      let c = prepared.count in
      let m = missing_more old root page level lt in
      let one : missing_at old root page (level + 1) ≡ 1 = missing_none old root page (level + 1) (child_old ∙ absent) in
      omega arith

  -- the table was there
  same_more : (m : Place) → step mid level (top table) index ≡ Some m → IsPrepared old mid free freem root page (level + 1)
  same_more m is = record {
    size = prepared.size;
    flags = prepared.flags;
    others = λ l n le ne. prepared.others l n le (λ ll e. ne (omega arith) e);
    larges = prepared.larges;
    stayed = prepared.stayed;
    made = λ l b le absent now. made_of l b absent now (cases_lt level l) le;
    fewer = prepared.fewer;
    lowest = prepared.lowest;
    kept = λ f e ne. prepared.kept f e (λ l le x. ne l (omega arith) x);
    count =
        let c = prepared.count in
        let p = missing_more old root page level lt in
        let o : missing_at old root page (level + 1) ≡ 0 = missing_some old root page (level + 1) m (child_old ∙ is) in
        omega arith;
    words = prepared.words;
    old_table = λ l f i lt4 was li ne. prepared.old_table l f i lt4 was li (λ ll e. ne (omega arith) e);
    old_entry = prepared.old_entry;
    blank = λ l f i le absent now li ne. blank_of l f i absent now li ne (cases_lt level l) le;
    table_word = λ l f made ll here absent now. table_word_of l f made here absent now (cases_lt l level) ll;
  }
    where
      made_of : (l : ℕ) (b : Place) → reach old root l (prefix_of page l) ≡ None → reach mid root l (prefix_of page l) ≡ Some b →
          (level < l) ⊎ (l ≤ level) → l ≤ level + 1 → is_frame_free free b.frame ≡ true
      made_of l b absent now (inr h) le = prepared.made l b h absent now
      made_of l b absent now (inl h) le =
          let e : l ≡ level + 1 = omega arith in
          let x : reach old root l (prefix_of page l) ≡ Some m = rw e (child_old ∙ is) in
          absurd (cc)

      blank_of : (l f i : ℕ) → reach old root l (prefix_of page l) ≡ None → reach mid root l (prefix_of page l) ≡ Some (top f) → i < 512 →
          (l < level + 1 → i ≡ prefix_of page (l + 1) % 512 → ⊥) → (level < l) ⊎ (l ≤ level) → l ≤ level + 1 → word_at mid f i ≡ 0
      blank_of l f i absent now li ne (inr h) le = prepared.blank l f i h absent now li (λ ll e. ne (omega arith) e)
      blank_of l f i absent now li ne (inl h) le =
          let e : l ≡ level + 1 = omega arith in
          let x : reach old root l (prefix_of page l) ≡ Some m = rw e (child_old ∙ is) in
          absurd (cc)

      table_word_of : (l f made : ℕ) → reach mid root l (prefix_of page l) ≡ Some (top f) →
          reach old root (l + 1) (prefix_of page (l + 1)) ≡ None → reach mid root (l + 1) (prefix_of page (l + 1)) ≡ Some (top made) →
          (l < level) ⊎ (level ≤ l) → l < level + 1 → word_at mid f (prefix_of page (l + 1) % 512) ≡ table_entry made
      table_word_of l f made here absent now (inl h) ll = prepared.table_word l f made h here absent now
      table_word_of l f made here absent now (inr h) ll =
          let e : l ≡ level = omega arith in
          let x : reach old root (l + 1) (prefix_of page (l + 1)) ≡ Some m = rw e (child_old ∙ is) in
          absurd (cc)

  -- the table was made
  module _ (new : List ℕ) (free' : List Bool) (made : ℕ)
      (absent : step mid level (top table) index ≡ None)
      (m : IsTableMade mid new freem free' table index made) where
    root_mid : root < frame_count mid
    root_mid = let s = prepared.size in omega arith

    index_in : index < 512
    index_in = omega arith

    place : 512 * prefix_of page level + index ≡ prefix_of page (level + 1)
    place = rw ix (prefix_more page level (omega arith))

    now_there : reach new root (level + 1) (prefix_of page (level + 1)) ≡ Some (top made)
    now_there = rw (← place)
        (made_there mid new freem free' root level (prefix_of page level) table index made tree lt index_in root_mid below_mid met absent small m)

    now_others : (l n : ℕ) → l ≤ 4 → (l ≡ level + 1 → n ≡ prefix_of page (level + 1) → ⊥) → reach new root l n ≡ reach mid root l n
    now_others l n le ne =
        made_others mid new freem free' root level (prefix_of page level) table index made tree lt index_in root_mid below_mid met absent small m l n le
        (λ x y. ne x (y ∙ place))

    now_tree : IsTreeIn area new root free'
    now_tree = made_tree mid new freem free' root level (prefix_of page level) table index made tree lt index_in root_mid below_mid met absent small m
        (free_inside area freem (frame_count mid) known_mid made m.was_free)

    now_larges : (n : ℕ) → large_of new root n ≡ large_of mid root n
    now_larges = made_larges mid new freem free' root level (prefix_of page level) table index made tree lt index_in root_mid below_mid met absent small m

    now_size : length new ≡ length mid
    now_size = made_size mid new freem free' root level (prefix_of page level) table index made tree lt index_in root_mid below_mid met absent small m

    grown : (l : ℕ) (b : Place) → l ≤ 4 → reach mid root l (prefix_of page l) ≡ Some b → reach new root l (prefix_of page l) ≡ Some b
    grown l b le is = go (cases_eq l (level + 1))
      where
        go : (l ≡ level + 1) ⊎ (l ≡ level + 1 → ⊥) → reach new root l (prefix_of page l) ≡ Some b
        go (inl e) = let x : reach mid root l (prefix_of page l) ≡ None = rw e (child ∙ absent) in absurd (cc)
        go (inr e) = now_others l (prefix_of page l) le (λ x _. e x) ∙ is

    made_below : made < frame_count mid
    made_below = below_mid made m.was_free

    -- a word outside the new table and the entry
    word_stays : (f i : ℕ) → i < 512 → (f ≡ made → ⊥) → (f ≡ table → i ≡ index → ⊥) → word_at new f i ≡ word_at mid f i
    word_stays f i li nf ne =
        ap (λ w. word_at w f i) m.words
        ∙ (word_at_set_other (cleared mid made) table index (table_entry made) f i index_in li ne
        ∙ word_at_cleared_other mid made f i made_below li nf)

    met_apart : (l n : ℕ) (b : Place) → l < 4 → reach mid root l n ≡ Some b → b.frame ≡ made → ⊥
    met_apart l n b le is e =
        let u : is_frame_free freem b.frame ≡ false = tree.used l n b (own_table area l le) is in
        let w = m.was_free in let x = ap (is_frame_free freem) e in cc

    -- the table is met at its own prefix alone
    here_only : (l f : ℕ) → l < 4 → reach mid root l (prefix_of page l) ≡ Some (top f) → f ≡ table → l ≡ level
    here_only l f lt4 now e =
        (tree.distinct l (prefix_of page l) level (prefix_of page level) (top f) (top table) (own_table area l lt4)
        (own_table area level (omega arith)) now met e).0

    word_linked : word_at new table index ≡ table_entry made
    word_linked =
        ap (λ w. word_at w table index) m.words
        ∙ word_at_set_same (cleared mid made) table index (table_entry made)
        (let a = table_below in let b = length_cleared mid made made_below in omega arith) index_in

    word_blank : (i : ℕ) → i < 512 → word_at new made i ≡ 0
    word_blank i li =
        ap (λ w. word_at w made i) m.words
        ∙ (word_at_set_other (cleared mid made) table index (table_entry made) made i index_in li
        (λ e _. met_apart level (prefix_of page level) (top table) (omega arith) met (sym e))
        ∙ word_at_cleared_same mid made i made_below li)

    made_more : IsPrepared old new free free' root page (level + 1)
    made_more = record {
      size = now_size ∙ prepared.size;
      flags = rw m.taken (length-set freem made false) ∙ prepared.flags;
      others = λ l n le ne.
          now_others l n le (λ x y. ne (omega arith) (y ∙ ap (prefix_of page) (sym x))) ∙ prepared.others l n le (λ x y. ne (omega arith) y);
      larges = λ n. now_larges n ∙ prepared.larges n;
      stayed = λ l b le is. grown l b le (prepared.stayed l b le is);
      made = λ l b le none now. made_of l b none now (cases_lt level l) le;
      fewer = λ f e. rw m.taken (fewer_flags freem made f (prepared.fewer f e));
      lowest = rw m.taken (lowest_more free freem made prepared.lowest m.was_free m.lowest);
      kept = λ f e ne. kept_of f e ne (cases_eq f made);
      count =
          let c = prepared.count in
          let p = missing_more old root page level lt in
          let o : missing_at old root page (level + 1) ≡ 1 = missing_none old root page (level + 1) (child_old ∙ absent) in
          let t : free_count free' + 1 ≡ free_count freem = rw m.taken (taken_count freem made m.was_free) in
          omega arith;
      words = λ f i li ne.
          word_stays f i li
          (λ e. ne (level + 1) (omega arith) (now_there ∙ ap (λ k. Some (top k)) (sym e)))
          (λ e _. ne level (omega arith) (grown level (top table) (omega arith) met ∙ ap (λ k. Some (top k)) (sym e)))
          ∙ prepared.words f i li (λ l ll is. ne l ll (grown l (top f) (omega arith) is));
      old_table = λ l f i lt4 was li ne.
          let now = prepared.stayed l (top f) (omega arith) was in
          word_stays f i li (met_apart l (prefix_of page l) (top f) (omega arith) now)
          (λ e x. let z = here_only l f lt4 now e in ne (omega arith) (x ∙ (ix ∙ ap (λ k. prefix_of page (k + 1) % 512) (sym z))))
          ∙ prepared.old_table l f i lt4 was li (λ ll e. ne (omega arith) e);
      old_entry = λ l f next lt3 was on.
          let now = prepared.stayed l (top f) (omega arith) was in
          word_stays f (prefix_of page (l + 1) % 512) (omega arith) (met_apart l (prefix_of page l) (top f) (omega arith) now)
          (λ e _. let z = here_only l f (omega arith) now e in
          let y : reach old root (l + 1) (prefix_of page (l + 1)) ≡ None = rw z (child_old ∙ absent) in absurd (cc))
          ∙ prepared.old_entry l f next lt3 was on;
      blank = λ l f i le none now li ne. blank_of l f i none now li ne (cases_lt level l) le;
      table_word = λ l f new_one ll here none now. table_word_of l f new_one here none now (cases_lt l level) ll;
    }
      where
        made_of : (l : ℕ) (b : Place) → reach old root l (prefix_of page l) ≡ None → reach new root l (prefix_of page l) ≡ Some b →
            (level < l) ⊎ (l ≤ level) → l ≤ level + 1 → is_frame_free free b.frame ≡ true
        made_of l b none now (inr h) le =
            prepared.made l b h none (sym (now_others l (prefix_of page l) (omega arith) (λ x _. absurd (omega arith))) ∙ now)
        made_of l b none now (inl h) le =
            let e : l ≡ level + 1 = omega arith in
            let x : reach new root l (prefix_of page l) ≡ Some (top made) = rw e now_there in
            let y : b ≡ top made = cc in
            rw y (first_free made m.was_free)

        kept_of : (f : ℕ) → is_frame_free free f ≡ true →
            ((l : ℕ) → l ≤ level + 1 → reach new root l (prefix_of page l) ≡ Some (top f) → ⊥) → (f ≡ made) ⊎ (f ≡ made → ⊥) → is_frame_free free' f ≡ true
        kept_of f e ne (inl x) = absurd (ne (level + 1) (omega arith) (now_there ∙ ap (λ k. Some (top k)) (sym x)))
        kept_of f e ne (inr x) = rw m.taken (get_or-set_other freem made f false false x
            ∙ prepared.kept f e (λ l le is. ne l (omega arith) (grown l (top f) (omega arith) is)))

        blank_of : (l f i : ℕ) → reach old root l (prefix_of page l) ≡ None → reach new root l (prefix_of page l) ≡ Some (top f) → i < 512 →
            (l < level + 1 → i ≡ prefix_of page (l + 1) % 512 → ⊥) → (level < l) ⊎ (l ≤ level) → l ≤ level + 1 → word_at new f i ≡ 0
        blank_of l f i none now li ne (inr h) le =
            let was : reach mid root l (prefix_of page l) ≡ Some (top f) =
            sym (now_others l (prefix_of page l) (omega arith) (λ x _. absurd (omega arith))) ∙ now in
            word_stays f i li (met_apart l (prefix_of page l) (top f) (omega arith) was)
            (λ e x. let z = here_only l f (omega arith) was e in ne (omega arith) (x ∙ (ix ∙ ap (λ k. prefix_of page (k + 1) % 512) (sym z))))
            ∙ prepared.blank l f i h none was li (λ ll e. ne (omega arith) e)
        blank_of l f i none now li ne (inl h) le =
            let e : l ≡ level + 1 = omega arith in
            let x : reach new root l (prefix_of page l) ≡ Some (top made) = rw e now_there in
            let z : top f ≡ top made = cc in
            let y : f ≡ made = ap (λ b. b.frame) z in
            rw y (word_blank i li)

        table_word_of : (l f new_one : ℕ) → reach new root l (prefix_of page l) ≡ Some (top f) →
            reach old root (l + 1) (prefix_of page (l + 1)) ≡ None → reach new root (l + 1) (prefix_of page (l + 1)) ≡ Some (top new_one) →
            (l < level) ⊎ (level ≤ l) → l < level + 1 → word_at new f (prefix_of page (l + 1) % 512) ≡ table_entry new_one
        table_word_of l f new_one here none now (inl h) ll =
            let was : reach mid root l (prefix_of page l) ≡ Some (top f) =
            sym (now_others l (prefix_of page l) (omega arith) (λ x _. absurd (omega arith))) ∙ here in
            let on : reach mid root (l + 1) (prefix_of page (l + 1)) ≡ Some (top new_one) =
            sym (now_others (l + 1) (prefix_of page (l + 1)) (omega arith) (λ x _. absurd (omega arith))) ∙ now in
            word_stays f (prefix_of page (l + 1) % 512) (omega arith) (met_apart l (prefix_of page l) (top f) (omega arith) was)
            (λ e _. let z = here_only l f (omega arith) was e in absurd (omega arith))
            ∙ prepared.table_word l f new_one h was none on
        table_word_of l f new_one here none now (inr h) ll =
            let e : l ≡ level = omega arith in
            let a : reach new root l (prefix_of page l) ≡ Some (top table) = rw e (grown level (top table) (omega arith) met) in
            let b : reach new root (l + 1) (prefix_of page (l + 1)) ≡ Some (top made) = rw e now_there in
            let fa : top f ≡ top table = cc in
            let fb : top new_one ≡ top made = cc in
            let ft : f ≡ table = ap (λ p. p.frame) fa in
            let fm : new_one ≡ made = ap (λ p. p.frame) fb in
            let at : prefix_of page (l + 1) % 512 ≡ index = ap (λ k. prefix_of page (k + 1) % 512) e ∙ sym ix in
            rw (ft, fm, at) word_linked

  -- the invariant, one level on
  pub record IsStep (new : List ℕ) (free' : List Bool) (result : ℕ) : Type 0 where
    pub tree_on : IsTreeIn area new root free'
    pub met_on : reach new root (level + 1) (prefix_of page (level + 1)) ≡ Some (top result)
    pub prepared_on : IsPrepared old new free free' root page (level + 1)

  pub ensured_more :
      (new : List ℕ) (free' : List Bool) (result : ℕ) (o : Option Place) → step mid level (top table) index ≡ o →
      IsEnsured o mid new freem free' table index result → IsStep new free' result
  ensured_more new free' result None e m = record {
    tree_on = now_tree new free' result e m;
    met_on = now_there new free' result e m;
    prepared_on = made_more new free' result e m;
  }
  ensured_more new free' result (Some b) e m =
      let full : b ≡ top b.frame = tree.rights (level + 1) (prefix_of page (level + 1)) b (omega arith) (child ∙ e) in
      rw (m.1, m.2) (record {
        tree_on = tree;
        met_on = child ∙ (e ∙ (ap Some full ∙ ap (λ k. Some (top k)) m.0));
        prepared_on = same_more b e;
      })
