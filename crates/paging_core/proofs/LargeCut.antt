-- A large page is cut: a table of single entries takes its place.
use Rattle.std.proofs.Common.{◌≡◌, ℕ, ◌^◌, ◌+◌, ◌-◌, ◌*◌, ◌/◌, ◌%◌, ◌<◌, ◌≤◌, Bool, true, false, List, length, set, Some, None, refl, sym, ap, ◌∙◌, ◌⊎◌, inl, inr, arith, length-set}
use Rattle.std.proofs.lemmas.Bool.{cases_eq, cases_lt}
use Rattle.paging_core.specs.Entry.{has_bit, table_entry, page_entry}
use Rattle.paging_core.specs.Plain.{IsPlain}
use Rattle.paging_core.proofs.Plain.{plain_kept, plain_zero, plain_table}
use Rattle.paging_core.specs.Memory.{word_at, frame_count, cleared}
use Rattle.std.specs.Prelude.{IsSome}
use Rattle.paging_core.specs.Prefix.{prefix_of}
use Rattle.paging_core.specs.Walk.{Place, reach, large_of, walk_of, reached, top, page_in}
use Rattle.paging_core.specs.Pool.{is_frame_free, free_count, FreeBelow}
use Rattle.paging_core.specs.Tree.{IsTree}
use Rattle.paging_core.specs.Large.{slot_of, above, IsLargeEntry, IsLargeCut}
use Rattle.paging_core.proofs.Reach.{step_zero, reach_in}
use Rattle.paging_core.proofs.SlotTable.{rights_of, at_page, slot_table, slot_no_large, slot_outside, slot_still, slot_inside, slot_kept, slot_plain}
use Rattle.paging_core.proofs.Prefixes.{walk_reach}
use Rattle.paging_core.proofs.Made.{large_below}
use Rattle.paging_core.proofs.PageWritten.{same_byte}
use Rattle.paging_core.proofs.PageChanged.{some_place}
use Rattle.paging_core.proofs.Words.{length_cleared, word_at_cleared_same, word_at_cleared_other, word_at_set_same, word_at_set_other}

module _ (old new : List ℕ) (free free' : List Bool) (root page keep table : ℕ) (large : Place)
    (some : 0 < keep)
    (part : keep < 512)
    (bounded : large.frame + 511 < 2 ^ 40)
    (tree : IsTree old root free)
    (was : large_of old root (slot_of page) ≡ Some large)
    (met : reach old root 2 (above page 2) ≡ Some (top table))
    (size : length new ≡ length old)
    (flags : length free' ≡ length free)
    (page_words : (k : ℕ) → k < keep → word_at new (large.frame + keep) k ≡ page_entry (large.frame + k) (rights_of large))
    (blank : (k : ℕ) → keep ≤ k → k < 512 → word_at new (large.frame + keep) k ≡ 0)
    (entry : word_at new table (slot_of page % 512) ≡ table_entry (large.frame + keep))
    (words : (f i : ℕ) → i < 512 → (f ≡ large.frame + keep → ⊥) → (f ≡ table → i ≡ slot_of page % 512 → ⊥) → word_at new f i ≡ word_at old f i)
    (given : (k : ℕ) → keep < k → k < 512 → is_frame_free free' (large.frame + k) ≡ true)
    (kept : (f : ℕ) → ((k : ℕ) → keep < k → k < 512 → f ≡ large.frame + k → ⊥) →
    is_frame_free free' f ≡ is_frame_free free f)
    (count : free_count free' + keep ≡ free_count free + 511) where
  below : large.frame + 511 < frame_count new
  below = let b = large_below old root (slot_of page) large was in omega (arith, b.1)

  -- a frame of the large page is met at its page alone
  its_page : (l n k : ℕ) (b : Place) → l ≤ 4 → k < 512 → reach old root l n ≡ Some b → b.frame ≡ large.frame + k → (l ≡ 4) × (n ≡ 512 * slot_of page + k)
  its_page l n k b le lk is e =
      let p : (512 * slot_of page + k) / 512 ≡ slot_of page = omega arith in
      let q : (512 * slot_of page + k) % 512 ≡ k = omega arith in
      let at : reach old root 4 (512 * slot_of page + k) ≡ Some (page_in k large) =
      at_page old root page large was (512 * slot_of page + k) p ∙ ap (λ j. Some (page_in j large)) q in
      tree.distinct l n 4 (512 * slot_of page + k) b (page_in k large) le (omega arith) is at e

  no_table : (l n : ℕ) (b : Place) → l < 4 → reach old root l n ≡ Some b → b.frame ≡ large.frame + keep → ⊥
  no_table l n b lt is e = let p = its_page l n keep b (omega arith) part is e in absurd (omega (arith, p.0))

  alone : (l n : ℕ) (b : Place) → l < 4 → reach old root l n ≡ Some b → b.frame ≡ table → (l ≡ 2) × (n ≡ above page 2)
  alone l n b lt is e = tree.distinct l n 2 (above page 2) b (top table) (omega arith) (omega arith) is met e

  same : (l n : ℕ) (b : Place) (j : ℕ) → l < 4 → reach old root l n ≡ Some b → j < 512 → (b.frame ≡ table → j ≡ slot_of page % 512 → ⊥) →
      word_at new b.frame j ≡ word_at old b.frame j
  same l n b j lt is lj ne = words b.frame j lj (no_table l n b lt is) ne

  keep_in : large.frame + keep < frame_count old
  keep_in = let b = large_below old root (slot_of page) large was in omega (arith, b.1)

  table_now : reach new root 3 (slot_of page) ≡ Some (top (large.frame + keep))
  table_now = slot_table old new root page keep table (large.frame + keep) large (omega arith) bounded (omega arith) keep_in
      was met size page_words entry same alone

  others : (l n : ℕ) → l ≤ 4 → (l ≡ 3 → n ≡ slot_of page → ⊥) → (l ≡ 4 → n / 512 ≡ slot_of page → ⊥) → reach new root l n ≡ reach old root l n
  others = slot_outside old new root page keep table (large.frame + keep) large (omega arith) bounded (omega arith) keep_in
      was met size page_words entry same alone

  -- the pages of the slot now
  inside_kept : (n : ℕ) → n / 512 ≡ slot_of page → n % 512 < keep → reach new root 4 n ≡ Some (page_in (n % 512) large)
  inside_kept = slot_kept old new root page keep table (large.frame + keep) large (omega arith) bounded (omega arith)
      keep_in was met size page_words entry same alone

  inside_gone : (n : ℕ) → n / 512 ≡ slot_of page → keep ≤ n % 512 → reach new root 4 n ≡ None
  inside_gone n e le =
      slot_inside old new root page keep table (large.frame + keep) large (omega arith) bounded (omega arith) keep_in was
      met size page_words entry same alone n e
      ∙ step_zero new 3 (top (large.frame + keep)) (n % 512) (blank (n % 512) le (omega arith))

  -- what is met now: a page that stays, the new table, or what was met outside the slot
  record IsKept (l n : ℕ) (b : Place) : Type 0 where
    at_four : l ≡ 4
    in_slot : n / 512 ≡ slot_of page
    low : n % 512 < keep
    framed : b.frame ≡ large.frame + n % 512

  record IsNewTable (l n : ℕ) (b : Place) : Type 0 where
    at_three : l ≡ 3
    here : n ≡ slot_of page
    is : b ≡ top (large.frame + keep)

  record IsOutside (l n : ℕ) (b : Place) : Type 0 where
    met_old : reach old root l n ≡ Some b
    away : l ≡ 4 → n / 512 ≡ slot_of page → ⊥

  ways : (l n : ℕ) (b : Place) → l ≤ 4 → reach new root l n ≡ Some b → IsKept l n b ⊎ (IsNewTable l n b ⊎ IsOutside l n b)
  ways l n b le now = go (cases_eq l 4) (cases_eq (n / 512) (slot_of page)) (cases_eq l 3) (cases_eq n (slot_of page))
    where
      four : l ≡ 4 → n / 512 ≡ slot_of page → (n % 512 < keep) ⊎ (keep ≤ n % 512) → IsKept l n b ⊎ (IsNewTable l n b ⊎ IsOutside l n b)
      four x y (inl lo) =
          let i = inside_kept n y lo in
          let w : reach new root 4 n ≡ Some b = rw (← x) now in
          let q : page_in (n % 512) large ≡ b = cc in
          inl (record { at_four = x; in_slot = y; low = lo; framed = sym (ap (λ p. p.frame) q) })
      four x y (inr hi) =
          let i = inside_gone n y hi in
          let w : reach new root 4 n ≡ Some b = rw (← x) now in
          absurd (cc)

      three : l ≡ 3 → n ≡ slot_of page → IsNewTable l n b
      three x y =
          let t = table_now in
          let w : reach new root 3 (slot_of page) ≡ Some b = rw (← x, ← y) now in
          let q : top (large.frame + keep) ≡ b = cc in
          record { at_three = x; here = y; is = sym q }

      go : (l ≡ 4) ⊎ (l ≡ 4 → ⊥) → (n / 512 ≡ slot_of page) ⊎ (n / 512 ≡ slot_of page → ⊥) → (l ≡ 3) ⊎ (l ≡ 3 → ⊥) →
          (n ≡ slot_of page) ⊎ (n ≡ slot_of page → ⊥) →
          IsKept l n b ⊎ (IsNewTable l n b ⊎ IsOutside l n b)
      go (inl x) (inl y) _ _ = four x y (cases_lt (n % 512) keep)
      go (inl x) (inr y) _ _ =
          inr (inr (record { met_old = sym (others l n le (λ e _. absurd (omega arith)) (λ _ e. y e)) ∙ now; away = λ _ e. y e }))
      go (inr x) _ (inl z) (inl v) = inr (inl (three z v))
      go (inr x) _ (inl z) (inr v) = inr (inr (record { met_old = sym (others l n le (λ _ e. v e) (λ e _. x e)) ∙ now; away = λ e _. x e }))
      go (inr x) _ (inr z) _ = inr (inr (record { met_old = sym (others l n le (λ e _. z e) (λ e _. x e)) ∙ now; away = λ e _. x e }))

  -- the index in the large page of the frame that is met, if it is one of its frames
  index_of : (l n k : ℕ) (b : Place) → l ≤ 4 → k < 512 → IsKept l n b ⊎ (IsNewTable l n b ⊎ IsOutside l n b) → b.frame ≡ large.frame + k →
      ((l ≡ 4) × (n ≡ 512 * slot_of page + k) × (k < keep)) ⊎ ((l ≡ 3) × (n ≡ slot_of page) × (k ≡ keep))
  index_of l n k b le lk (inl x) e =
      inl (x.at_four, (let f = x.framed in let s = x.in_slot in omega arith), (let f = x.framed in let w = x.low in omega arith))
  index_of l n k b le lk (inr (inl x)) e =
      let f : b.frame ≡ large.frame + keep = ap (λ p. p.frame) x.is in
      inr (x.at_three, x.here, omega arith)
  index_of l n k b le lk (inr (inr x)) e =
      let p = its_page l n k b le lk x.met_old e in
      absurd (x.away p.0 (let q : n ≡ 512 * slot_of page + k = p.1 in omega arith))

  cut_distinct : (l n k j : ℕ) (a b : Place) → l ≤ 4 → k ≤ 4 → a.frame ≡ b.frame →
      IsKept l n a ⊎ (IsNewTable l n a ⊎ IsOutside l n a) → IsKept k j b ⊎ (IsNewTable k j b ⊎ IsOutside k j b) → (l ≡ k) × (n ≡ j)
  cut_distinct l n k j a b ll lk e (inl x) y = go (index_of k j (n % 512) b lk (omega arith) y (sym e ∙ x.framed))
    where
      go : ((k ≡ 4) × (j ≡ 512 * slot_of page + n % 512) × (n % 512 < keep)) ⊎ ((k ≡ 3) × (j ≡ slot_of page) × (n % 512 ≡ keep)) → (l ≡ k) × (n ≡ j)
      go (inl p) =
          let q : j ≡ 512 * slot_of page + n % 512 = p.1 in
          (x.at_four ∙ sym p.0, (let s = x.in_slot in omega arith))
      go (inr p) = let q : n % 512 ≡ keep = p.2 in let w = x.low in absurd (omega arith)
  cut_distinct l n k j a b ll lk e (inr (inl x)) y = go (index_of k j keep b lk part y (sym e ∙ ap (λ p. p.frame) x.is))
    where
      go : ((k ≡ 4) × (j ≡ 512 * slot_of page + keep) × (keep < keep)) ⊎ ((k ≡ 3) × (j ≡ slot_of page) × (keep ≡ keep)) → (l ≡ k) × (n ≡ j)
      go (inl p) = let q : keep < keep = p.2 in absurd (omega arith)
      go (inr p) = (x.at_three ∙ sym p.0, x.here ∙ sym p.1)
  cut_distinct l n k j a b ll lk e (inr (inr x)) (inr (inr y)) = tree.distinct l n k j a b ll lk x.met_old y.met_old e
  cut_distinct l n k j a b ll lk e (inr (inr x)) (inl y) = go (index_of l n (j % 512) a ll (omega arith) (inr (inr x)) (e ∙ y.framed))
    where
      go : ((l ≡ 4) × (n ≡ 512 * slot_of page + j % 512) × (j % 512 < keep)) ⊎ ((l ≡ 3) × (n ≡ slot_of page) × (j % 512 ≡ keep)) → (l ≡ k) × (n ≡ j)
      go (inl p) =
          let q : n ≡ 512 * slot_of page + j % 512 = p.1 in
          (p.0 ∙ sym y.at_four, (let s = y.in_slot in omega arith))
      go (inr p) = let q : j % 512 ≡ keep = p.2 in let w = y.low in absurd (omega arith)
  cut_distinct l n k j a b ll lk e (inr (inr x)) (inr (inl y)) = go (index_of l n keep a ll part (inr (inr x)) (e ∙ ap (λ p. p.frame) y.is))
    where
      go : ((l ≡ 4) × (n ≡ 512 * slot_of page + keep) × (keep < keep)) ⊎ ((l ≡ 3) × (n ≡ slot_of page) × (keep ≡ keep)) → (l ≡ k) × (n ≡ j)
      go (inl p) = let q : keep < keep = p.2 in absurd (omega arith)
      go (inr p) = (p.0 ∙ sym y.at_three, p.1 ∙ sym y.here)

  -- what is met now was out before
  was_used : (l n : ℕ) (b : Place) → l ≤ 4 → IsKept l n b ⊎ (IsNewTable l n b ⊎ IsOutside l n b) → is_frame_free free b.frame ≡ false
  was_used l n b le (inl x) =
      ap (is_frame_free free) x.framed ∙ tree.used 4 n (page_in (n % 512) large) (omega arith) (at_page old root page large was n x.in_slot)
  was_used l n b le (inr (inl x)) =
      let p : (512 * slot_of page + keep) / 512 ≡ slot_of page = omega arith in
      let q : (512 * slot_of page + keep) % 512 ≡ keep = omega arith in
      let at : reach old root 4 (512 * slot_of page + keep) ≡ Some (page_in keep large) =
      at_page old root page large was (512 * slot_of page + keep) p ∙ ap (λ j. Some (page_in j large)) q in
      ap (is_frame_free free) (ap (λ m. m.frame) x.is) ∙ tree.used 4 (512 * slot_of page + keep) (page_in keep large) (omega arith) at
  was_used l n b le (inr (inr x)) = tree.used l n b le x.met_old

  pub cut_tree : IsTree new root free'
  cut_tree = record {
    rights = λ l n b lt is. rights l n b lt (ways l n b (omega arith) is);
    distinct = λ l n k j a b ll lk x y e. cut_distinct l n k j a b ll lk e (ways l n a ll x) (ways k j b lk y);
    used = λ l n b le is.
        let w = ways l n b le is in
        kept b.frame (λ k lo hi e. past k lo (index_of l n k b le hi w e)) ∙ was_used l n b le w;
    inside = λ _ _ _ _ _. refl;
    plain = record { each = λ l n i b lt li is. plain_of l n i b lt li (ways l n b (omega arith) is) };
  }
    where
      -- an entry of the new table
      in_table : (i : ℕ) → i < 512 → (i < keep) ⊎ (keep ≤ i) → has_bit (word_at new (large.frame + keep) i) 0 ≡ true →
          IsPlain new 3 (word_at new (large.frame + keep) i)
      in_table i li (inl lo) = slot_plain old new root page keep table (large.frame + keep) large (omega arith) bounded
          (omega arith) keep_in was met size page_words entry same alone i lo
      in_table i li (inr hi) = plain_zero new 3 (word_at new (large.frame + keep) i) (blank i hi li)

      -- an entry of a table that was there
      stays_plain : (l n i : ℕ) (b : Place) → l < 4 → i < 512 → reach old root l n ≡ Some b → (b.frame ≡ table → i ≡ slot_of page % 512 → ⊥) →
          has_bit (word_at new b.frame i) 0 ≡ true → IsPlain new l (word_at new b.frame i)
      stays_plain l n i b lt li at ne =
          plain_kept old new l (word_at old b.frame i) (word_at new b.frame i) size
          (words b.frame i li (no_table l n b lt at) ne) (tree.plain.each l n i b lt li at)

      was_there : (l n i : ℕ) (b : Place) → l < 4 → i < 512 → reach old root l n ≡ Some b → (b.frame ≡ table) ⊎ (b.frame ≡ table → ⊥) →
          (i ≡ slot_of page % 512) ⊎ (i ≡ slot_of page % 512 → ⊥) → has_bit (word_at new b.frame i) 0 ≡ true → IsPlain new l (word_at new b.frame i)
      was_there l n i b lt li at (inl x) (inl y) =
          let p = alone l n b lt at x in
          rw (x, y, p.0, entry) (λ _. plain_table new 2 (large.frame + keep) (omega arith) (omega arith) (let b = below in omega arith))
      was_there l n i b lt li at (inr x) _ = stays_plain l n i b lt li at (λ e _. x e)
      was_there l n i b lt li at _ (inr y) = stays_plain l n i b lt li at (λ _ e. y e)

      plain_of : (l n i : ℕ) (b : Place) → l < 4 → i < 512 → IsKept l n b ⊎ (IsNewTable l n b ⊎ IsOutside l n b) →
          has_bit (word_at new b.frame i) 0 ≡ true → IsPlain new l (word_at new b.frame i)
      plain_of l n i b lt li (inl x) = let f = x.at_four in absurd (omega arith)
      plain_of l n i b lt li (inr (inl x)) = let f = x.is in let g = x.at_three in rw (f, g) (in_table i li (cases_lt i keep))
      plain_of l n i b lt li (inr (inr x)) = was_there l n i b lt li x.met_old (cases_eq b.frame table) (cases_eq i (slot_of page % 512))

      rights : (l n : ℕ) (b : Place) → l < 4 → IsKept l n b ⊎ (IsNewTable l n b ⊎ IsOutside l n b) → b ≡ top b.frame
      rights l n b lt (inl x) = let f = x.at_four in absurd (omega arith)
      rights l n b lt (inr (inl x)) = rw x.is refl
      rights l n b lt (inr (inr x)) = tree.rights l n b lt x.met_old

      past : {l n : ℕ} (k : ℕ) → keep < k →
          ((l ≡ 4) × (n ≡ 512 * slot_of page + k) × (k < keep)) ⊎ ((l ≡ 3) × (n ≡ slot_of page) × (k ≡ keep)) → ⊥
      past k lo (inl p) = let q : k < keep = p.2 in omega arith
      past k lo (inr p) = let q : k ≡ keep = p.2 in omega arith

  number : (k : ℕ) → k < 512 → (prefix_of (512 * page + k) 4 / 512 ≡ slot_of page) × (prefix_of (512 * page + k) 4 % 512 ≡ k)
  number k lt = (omega arith, omega arith)

  pub large_cut : IsLargeCut old new free free' root page keep
  large_cut = record {
    large = large;
    was = was;
    size = size;
    flags = flags;
    stays = λ k lt.
        let p = number k (omega arith) in
        walk_reach new root (512 * page + k)
        ∙ (inside_kept (prefix_of (512 * page + k) 4) p.0 (let q : prefix_of (512 * page + k) 4 % 512 ≡ k = p.1 in omega arith)
        ∙ (sym (at_page old root page large was (prefix_of (512 * page + k) 4) p.0) ∙ sym (walk_reach old root (512 * page + k))));
    gone = λ k lo hi.
        let p = number k hi in
        walk_reach new root (512 * page + k)
        ∙ inside_gone (prefix_of (512 * page + k) 4) p.0 (let q : prefix_of (512 * page + k) 4 % 512 ≡ k = p.1 in omega arith);
    table = table_now;
    no_large = slot_no_large old new root page keep table (large.frame + keep) large (omega arith) bounded (omega arith)
        keep_in was met size page_words entry same alone;
    others = others;
    larges = slot_still old new root page keep table (large.frame + keep) large (omega arith) bounded (omega arith) keep_in
        was met size page_words entry same alone;
    given = given;
    kept = kept;
    count = count;
    page_words = page_words;
    blank = blank;
    entry = λ at is.
        let q : Some at ≡ Some (top table) = sym is ∙ met in
        let r : at ≡ top table = cc in
        ap (λ f. word_at new f (slot_of page % 512)) (ap (λ p. p.frame) r) ∙ entry;
    words = λ f i li ne apart. words f i li ne (λ e x. apart (top table) met e x);
  }

  -- no byte of a page that is mapped still is changed
  pub cut_bytes : (address : ℕ) → IsSome (walk_of new root (address / 4096)) → reached new root address ≡ reached old root address
  cut_bytes address is =
      let p = some_place (walk_of new root (address / 4096)) is in
      let now : reach new root 4 (prefix_of (address / 4096) 4) ≡ Some p.0 = sym (walk_reach new root (address / 4096)) ∙ p.1 in
      let w = ways 4 (prefix_of (address / 4096) 4) p.0 (omega arith) now in
      let o = old_of 4 (prefix_of (address / 4096) 4) p.0 refl w in
      same_byte old new root address o.0 p.0 (walk_reach old root (address / 4096) ∙ o.1) p.1 (sym o.2)
      (words o.0.frame (address % 4096 / 8) (omega arith) (λ e. not_table 4 (prefix_of (address / 4096) 4) p.0 refl w (sym o.2 ∙ e))
      (λ e _. let d = tree.distinct 4 (prefix_of (address / 4096) 4) 2 (above page 2) o.0 (top table) (omega arith) (omega arith) o.1 met e in
      absurd (omega (arith, d.0))))
    where
      not_table : (l n : ℕ) (b : Place) → l ≡ 4 → IsKept l n b ⊎ (IsNewTable l n b ⊎ IsOutside l n b) → b.frame ≡ large.frame + keep → ⊥
      not_table l n b four w e = go (index_of l n keep b (omega arith) part w e)
        where
          go : ((l ≡ 4) × (n ≡ 512 * slot_of page + keep) × (keep < keep)) ⊎ ((l ≡ 3) × (n ≡ slot_of page) × (keep ≡ keep)) → ⊥
          go (inl q) = let r : keep < keep = q.2 in omega arith
          go (inr q) = let r : l ≡ 3 = q.0 in omega arith

      old_of : (l n : ℕ) (b : Place) → l ≡ 4 → IsKept l n b ⊎ (IsNewTable l n b ⊎ IsOutside l n b) →
          (a : Place) × (reach old root l n ≡ Some a) × (a.frame ≡ b.frame)
      old_of l n b four (inl x) = (page_in (n % 512) large, ap (λ k. reach old root k n) four ∙ at_page old root page large was n x.in_slot, sym x.framed)
      old_of l n b four (inr (inl x)) = let r : l ≡ 3 = x.at_three in absurd (omega arith)
      old_of l n b four (inr (inr x)) = (b, x.met_old, refl)

  -- no page of another slot is changed
  pub cut_elsewhere : (other : ℕ) → (other / 512 % 2 ^ 27 ≡ slot_of page → ⊥) → walk_of new root other ≡ walk_of old root other
  cut_elsewhere other ne =
      let p : prefix_of other 4 / 512 ≡ other / 512 % 2 ^ 27 = omega arith in
      walk_reach new root other
      ∙ (others 4 (prefix_of other 4) (omega arith) (λ e _. absurd (omega arith)) (λ _ e. ne (sym p ∙ e)) ∙ sym (walk_reach old root other))

-- the frames of a large page are out
pub large_used : (words : List ℕ) (root page k : ℕ) (free : List Bool) (large : Place) → k < 512 → IsTree words root free →
    large_of words root (slot_of page) ≡ Some large → is_frame_free free (large.frame + k) ≡ false
large_used words root page k free large lk tree was =
    let p : (512 * slot_of page + k) / 512 ≡ slot_of page = omega arith in
    let q : (512 * slot_of page + k) % 512 ≡ k = omega arith in
    let at : reach words root 4 (512 * slot_of page + k) ≡ Some (page_in k large) =
    reach_in words root (512 * slot_of page + k) large (ap (large_of words root) p ∙ was) ∙ ap (λ j. Some (page_in j large)) q in
    tree.used 4 (512 * slot_of page + k) (page_in k large) (omega arith) at

-- the steps of the cut: a frame is cleared, filled with the entries of the pages that stay, and named as a table
module _ (old mid filled new : List ℕ) (free free' : List Bool) (root page keep table index made from count : ℕ) (large : Place)
    (some : 0 < keep)
    (part : keep < 512)
    (bounded : large.frame + 512 < 2 ^ 40)
    (tree : IsTree old root free)
    (entry : IsLargeEntry old root page table index large)
    (is_made : made ≡ large.frame + keep)
    (table_in : table < frame_count old)
    (blank : mid ≡ cleared old made)
    (fill_size : length filled ≡ length mid)
    (fill_words : (k : ℕ) → k < keep → word_at filled made k ≡ page_entry (large.frame + k) (rights_of large))
    (fill_others : (f i : ℕ) → i < 512 → (f ≡ made → i < keep → ⊥) → word_at filled f i ≡ word_at mid f i)
    (written : new ≡ set filled (512 * table + index) (table_entry made))
    (is_from : from ≡ made + 1)
    (is_count : count ≡ 511 - keep)
    (flags : length free' ≡ length free)
    (freed : (k : ℕ) → k < count → is_frame_free free' (from + k) ≡ true)
    (stayed : (f : ℕ) → ((k : ℕ) → k < count → f ≡ from + k → ⊥) → is_frame_free free' f ≡ is_frame_free free f)
    (counted : free_count free' ≡ free_count free + count) where
  made_in : made < frame_count old
  made_in = let b = large_below old root (slot_of page) large entry.found in omega (arith, b.1)

  index_in : index < 512
  index_in = let e = entry.at_index in omega arith

  met_top : reach old root 2 (above page 2) ≡ Some (top table)
  met_top =
      let r : entry.met ≡ top entry.met.frame = tree.rights 2 (above page 2) entry.met (omega arith) entry.reached in
      entry.reached ∙ (ap Some r ∙ ap (λ f. Some (top f)) entry.in_table)

  apart : table ≡ made → ⊥
  apart e =
      let p : (512 * slot_of page + keep) / 512 ≡ slot_of page = omega arith in
      let q : (512 * slot_of page + keep) % 512 ≡ keep = omega arith in
      let at : reach old root 4 (512 * slot_of page + keep) ≡ Some (page_in keep large) =
      reach_in old root (512 * slot_of page + keep) large (ap (large_of old root) p ∙ entry.found) ∙ ap (λ j. Some (page_in j large)) q in
      let d = tree.distinct 2 (above page 2) 4 (512 * slot_of page + keep) (top table) (page_in keep large) (omega arith)
      (omega arith) met_top at (e ∙ is_made) in
      absurd (omega (arith, d.0))

  mid_size : length mid ≡ length old
  mid_size = ap length blank ∙ length_cleared old made made_in

  size : length new ≡ length old
  size = ap length written ∙ (length-set filled (512 * table + index) (table_entry made) ∙ (fill_size ∙ mid_size))

  page_words : (k : ℕ) → k < keep → word_at new (large.frame + keep) k ≡ page_entry (large.frame + k) (rights_of large)
  page_words k lt =
      ap (λ f. word_at new f k) (sym is_made)
      ∙ (ap (λ w. word_at w made k) written
      ∙ (word_at_set_other filled table index (table_entry made) made k index_in (omega arith) (λ e _. apart (sym e)) ∙ fill_words k lt))

  rest_blank : (k : ℕ) → keep ≤ k → k < 512 → word_at new (large.frame + keep) k ≡ 0
  rest_blank k lo hi =
      ap (λ f. word_at new f k) (sym is_made)
      ∙ (ap (λ w. word_at w made k) written
      ∙ (word_at_set_other filled table index (table_entry made) made k index_in hi (λ e _. apart (sym e))
      ∙ (fill_others made k hi (λ _ lt. absurd (omega arith)) ∙ (ap (λ w. word_at w made k) blank ∙ word_at_cleared_same old made k made_in hi))))

  entry_word : word_at new table (slot_of page % 512) ≡ table_entry (large.frame + keep)
  entry_word =
      ap (word_at new table) (sym entry.at_index)
      ∙ (ap (λ w. word_at w table index) written
      ∙ (word_at_set_same filled table index (table_entry made) (let a = fill_size in let b = mid_size in omega arith) index_in ∙ ap table_entry is_made))

  words : (f i : ℕ) → i < 512 → (f ≡ large.frame + keep → ⊥) → (f ≡ table → i ≡ slot_of page % 512 → ⊥) → word_at new f i ≡ word_at old f i
  words f i li nf ne =
      ap (λ w. word_at w f i) written
      ∙ (word_at_set_other filled table index (table_entry made) f i index_in li (λ e x. ne e (x ∙ entry.at_index))
      ∙ (fill_others f i li (λ e _. nf (e ∙ is_made))
      ∙ (ap (λ w. word_at w f i) blank ∙ word_at_cleared_other old made f i made_in li (λ e. nf (e ∙ is_made)))))

  given : (k : ℕ) → keep < k → k < 512 → is_frame_free free' (large.frame + k) ≡ true
  given k lo hi =
      let e : from + (k - keep - 1) ≡ large.frame + k = omega arith in
      ap (is_frame_free free') (sym e) ∙ freed (k - keep - 1) (omega arith)

  kept : (f : ℕ) → ((k : ℕ) → keep < k → k < 512 → f ≡ large.frame + k → ⊥) → is_frame_free free' f ≡ is_frame_free free f
  kept f ne = stayed f (λ k lt e. ne (keep + 1 + k) (omega arith) (omega arith) (omega arith))

  total : free_count free' + keep ≡ free_count free + 511
  total = omega arith

  pub steps_tree : IsTree new root free'
  steps_tree = cut_tree old new free free' root page keep table large some part (omega arith) tree entry.found met_top size
      flags page_words rest_blank entry_word words given kept total

  pub steps_cut : IsLargeCut old new free free' root page keep
  steps_cut = large_cut old new free free' root page keep table large some part (omega arith) tree entry.found met_top size
      flags page_words rest_blank entry_word words given kept total

  pub steps_elsewhere : (other : ℕ) → (other / 512 % 2 ^ 27 ≡ slot_of page → ⊥) → walk_of new root other ≡ walk_of old root other
  steps_elsewhere = cut_elsewhere old new free free' root page keep table large some part (omega arith) tree entry.found
      met_top size flags page_words rest_blank entry_word words given kept total

  pub steps_bytes : (address : ℕ) → IsSome (walk_of new root (address / 4096)) → reached new root address ≡ reached old root address
  steps_bytes = cut_bytes old new free free' root page keep table large some part (omega arith) tree entry.found met_top
      size flags page_words rest_blank entry_word words given kept total

  -- a frame is free below the count still
  pub steps_known : FreeBelow free (frame_count old) → FreeBelow free' (frame_count new)
  steps_known known f is = go (cases_lt f (frame_count old))
    where
      go : (f < frame_count old) ⊎ (frame_count old ≤ f) → f < frame_count new
      go (inl x) = let s = size in omega arith
      go (inr x) =
          let b = large_below old root (slot_of page) large entry.found in
          let k = kept f (λ k lo hi e. absurd (omega (arith, b.1))) in
          let h = known f (sym k ∙ is) in absurd (omega arith)
