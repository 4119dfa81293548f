-- What follows from pages that were unmapped, and a range that is unmapped in pieces.
use Rattle.std.proofs.Common.{◌≡◌, ℕ, zero, suc, ◌+◌, ◌-◌, ◌*◌, ◌/◌, ◌%◌, ◌<◌, ◌≤◌, Bool, true, false, ◌&&◌, ◌==◌, is_some, List, Option, Some, None, refl, sym, ap, ◌∙◌, ◌⊎◌, inl, inr, arith}
use Rattle.std.specs.Prelude.{IsSome, IsTrue}
use Rattle.std.proofs.lemmas.Bool.{cases_Bool, cases_eq, cases_lt}
use Rattle.std.proofs.lemmas.Bool.Decides.{nat_tests}
use Rattle.paging_core.specs.Address.{is_canonical, IsCanonicalRange}
use Rattle.paging_core.specs.Memory.{word_at, frame_count}
use Rattle.paging_core.specs.Prefix.{prefix_of}
use Rattle.paging_core.specs.Pool.{is_frame_free, FreeBelow}
use Rattle.paging_core.specs.Walk.{Place, reach, large_of, walk_of, reached, page_in, top}
use Rattle.paging_core.specs.PageBits.{bits_at}
use Rattle.paging_core.specs.Tree.{IsTree}
use Rattle.paging_core.specs.PageChanges.{among}
use Rattle.page_ranges.specs.RangeUnmapping.{cuts_large_page, cut_tables, IsCutPage, AreUnmapped}
use Rattle.paging_core.proofs.Prefixes.{walk_reach, prefix_parent}
use Rattle.paging_core.proofs.Reach.{reach_in, table_none}
use Rattle.paging_core.proofs.LastEntry.{some_or_none}
use Rattle.paging_core.specs.Entry.{has_bit}
use Rattle.paging_core.specs.Plain.{IsPlain}
use Rattle.paging_core.proofs.Plain.{plain_kept, plain_zero, plain_table, plain_page}
use Rattle.paging_core.proofs.Made.{reach_below, large_below, large_small}
use Rattle.paging_core.proofs.PageChanged.{some_place}
use Rattle.paging_core.proofs.PageWritten.{same_byte}
use Rattle.paging_core.proofs.Ranges.{page_in as range_page, page_canonical, same_number}
use Rattle.page_ranges.proofs.Pieces.{at_page}

-- ---- the pages of a range by their four indices

pub among_is : (first pages n : ℕ) → prefix_of first 4 ≤ n → n < prefix_of first 4 + pages → among first pages n ≡ true
among_is first pages n lo hi = grind (arith, nat_tests)

pub among_from : (first pages n : ℕ) → among first pages n ≡ true → prefix_of first 4 ≤ n
among_from first pages n is = grind (arith, nat_tests)

pub among_to : (first pages n : ℕ) → among first pages n ≡ true → n < prefix_of first 4 + pages
among_to first pages n is = grind (arith, nat_tests)

pub among_not : (first pages n : ℕ) → (prefix_of first 4 ≤ n → n < prefix_of first 4 + pages → ⊥) → among first pages n ≡ false
among_not first pages n ne = go (cases_Bool (among first pages n))
  where
    go : (among first pages n ≡ true) ⊎ (among first pages n ≡ false) → among first pages n ≡ false
    go (inr x) = x
    go (inl x) = absurd (ne (among_from first pages n x) (among_to first pages n x))

-- whether a slot has a page of the range
pub slot_in : (first pages n : ℕ) → IsCanonicalRange first pages →
    ((k : ℕ) × ((k < pages) × (n ≡ prefix_of (first + k) 3))) ⊎ ((k : ℕ) → k < pages → n ≡ prefix_of (first + k) 3 → ⊥)
slot_in first zero n range = absurd (let s = range.some in omega arith)
slot_in first (suc more) n range = go (cases_lt n (prefix_of first 3)) (cases_lt (prefix_of (first + more) 3) n)
  where
    go : (n < prefix_of first 3) ⊎ (prefix_of first 3 ≤ n) → (prefix_of (first + more) 3 < n) ⊎ (n ≤ prefix_of (first + more) 3) →
        ((k : ℕ) × ((k < suc more) × (n ≡ prefix_of (first + k) 3))) ⊎ ((k : ℕ) → k < suc more → n ≡ prefix_of (first + k) 3 → ⊥)
    go (inl x) _ = inr (λ k lt e. let a = range_page first (suc more) k range lt in omega arith)
    go _ (inl y) = inr (λ k lt e. let a = range_page first (suc more) k range lt in let b = range_page first (suc more) more range (omega arith) in omega arith)
    go (inr x) (inr y) = inl (at_page first more 3 n range (omega arith) (omega arith) x y)

-- ---- a page that is cut

pub cut_is : (words : List ℕ) (root first : ℕ) (large : Place) → IsCutPage words root first large → cuts_large_page words root first ≡ true
cut_is words root first large it =
    let b = it.behind in
    let z : (first % 512 == 0) ≡ false = grind (arith, nat_tests) in
    rw (it.there, z) refl

-- there is none if the first page is mapped by a table
pub no_cut_small : (words : List ℕ) (root first : ℕ) → large_of words root (prefix_of first 3) ≡ None → cuts_large_page words root first ≡ false
no_cut_small words root first e = rw e refl

-- and none if the range begins with a slot
pub no_cut_whole : (words : List ℕ) (root first : ℕ) → first % 512 ≡ 0 → cuts_large_page words root first ≡ false
no_cut_whole words root first e = rw e (go (is_some (large_of words root (prefix_of first 3))))
  where
    go : (b : Bool) → (b && false) ≡ false
    go true = refl
    go false = refl

pub cut_none : (words : List ℕ) (root first : ℕ) → cuts_large_page words root first ≡ false →
    cut_tables words root first ≡ 0
cut_none words root first e = rw e refl

pub cut_one : (words : List ℕ) (root first : ℕ) → cuts_large_page words root first ≡ true → cut_tables words root first ≡ 1
cut_one words root first e = rw e refl

-- a range that is cut, or one that is not
pub cut_or_not : (words : List ℕ) (root first : ℕ) → ((large : Place) × IsCutPage words root first large) ⊎ (cuts_large_page words root first ≡ false)
cut_or_not words root first = go (some_or_none (large_of words root (prefix_of first 3))) (cases_eq (first % 512) 0)
  where
    go : ((m : Place) × (large_of words root (prefix_of first 3) ≡ Some m)) ⊎ (large_of words root (prefix_of first 3) ≡ None) →
        (first % 512 ≡ 0) ⊎ (first % 512 ≡ 0 → ⊥) → ((large : Place) × IsCutPage words root first large) ⊎ (cuts_large_page words root first ≡ false)
    go (inr none) _ = inr (no_cut_small words root first none)
    go _ (inl e) = inr (no_cut_whole words root first e)
    go (inl p) (inr ne) = inl (p.0, record { there = p.1; behind = omega arith })

-- the page that was there at the frame of the new table: the first of the range
pub cut_page : (words : List ℕ) (root first : ℕ) (large : Place) → IsCutPage words root first large →
    reach words root 4 (prefix_of first 4) ≡ Some (page_in (first % 512) large)
cut_page words root first large it =
    let i : prefix_of first 4 % 512 ≡ first % 512 = omega arith in
    reach_in words root (prefix_of first 4) large (ap (large_of words root) (prefix_parent first 3 (omega arith)) ∙ it.there)
    ∙ ap (λ j. Some (page_in j large)) i

-- ---- what follows

module _ (old new : List ℕ) (free free' : List Bool) (root first pages : ℕ)
    (some : 0 < pages)
    (tree : IsTree old root free)
    (a : AreUnmapped old new free free' root first pages) where
  first_among : among first pages (prefix_of first 4) ≡ true
  first_among = among_is first pages (prefix_of first 4) (omega arith) (omega arith)

  -- the new table, at the frame of the first page
  pub record IsNewTable (l n : ℕ) (met : Place) : Type 0 where
    pub large : Place
    pub cut : IsCutPage old root first large
    pub at_three : l ≡ 3
    pub of_slot : n ≡ prefix_of first 3
    pub framed : met ≡ top (large.frame + first % 512)

  -- any other place, that was there before
  pub record IsOld (l n : ℕ) (met : Place) : Type 0 where
    pub was : reach old root l n ≡ Some met
    pub outside : l ≡ 4 → among first pages n ≡ false

  pub ways : (l n : ℕ) (met : Place) → l ≤ 4 → reach new root l n ≡ Some met → IsNewTable l n met ⊎ IsOld l n met
  ways l n met le is = go (cases_eq l 4) (cut_or_not old root first) (cases_eq l 3) (cases_eq n (prefix_of first 3))
    where
      stays : reach new root l n ≡ reach old root l n → (l ≡ 4 → among first pages n ≡ false) → IsNewTable l n met ⊎ IsOld l n met
      stays e out = inr (record { was = sym e ∙ is; outside = out })

      last : (among first pages n ≡ true) ⊎ (among first pages n ≡ false) → l ≡ 4 → IsNewTable l n met ⊎ IsOld l n met
      last (inl x) e = let z = a.gone n x in let w : reach new root 4 n ≡ Some met = rw (← e) is in absurd (cc)
      last (inr x) e = stays (rw e (a.pages_stay n x)) (λ _. x)

      go : (l ≡ 4) ⊎ (l ≡ 4 → ⊥) → ((large : Place) × IsCutPage old root first large) ⊎ (cuts_large_page old root first ≡ false) → (l ≡ 3) ⊎ (l ≡ 3 → ⊥) →
          (n ≡ prefix_of first 3) ⊎ (n ≡ prefix_of first 3 → ⊥) → IsNewTable l n met ⊎ IsOld l n met
      go (inl e) _ _ _ = last (cases_Bool (among first pages n)) e
      go (inr ne) (inr whole) _ _ = stays (a.tables_stay l n (omega arith) (λ _ _. whole)) (λ e. absurd (ne e))
      go (inr ne) _ (inr x) _ = stays (a.tables_stay l n (omega arith) (λ e _. absurd (x e))) (λ e. absurd (ne e))
      go (inr ne) _ _ (inr x) = stays (a.tables_stay l n (omega arith) (λ _ e. absurd (x e))) (λ e. absurd (ne e))
      go (inr ne) (inl cut) (inl e) (inl f) =
          let t = a.table cut.0 cut.1 in
          let w : reach new root 3 (prefix_of first 3) ≡ Some met = rw (← f) (ap (λ k. reach new root k n) (sym e) ∙ is) in
          inl (record { large = cut.0; cut = cut.1; at_three = e; of_slot = f; framed = cc })

  -- no place but the new table is at its frame
  not_new : (l n k j : ℕ) (x y : Place) → k ≤ 4 → IsNewTable l n x → IsOld k j y → x.frame ≡ y.frame → ⊥
  not_new l n k j x y le t o e =
      let d = tree.distinct 4 (prefix_of first 4) k j (page_in (first % 512) t.large) y (omega arith) le
      (cut_page old root first t.large t.cut) o.was
      (sym (ap (λ p. p.frame) t.framed) ∙ e) in
      let out = o.outside (sym d.0) in
      let is : among first pages j ≡ true = ap (among first pages) (sym d.1) ∙ first_among in
      cc

  same_place : (l n k j : ℕ) (x y : Place) → l ≤ 4 → k ≤ 4 → IsNewTable l n x ⊎ IsOld l n x → IsNewTable k j y ⊎ IsOld k j y → x.frame ≡ y.frame →
      (l ≡ k) × (n ≡ j)
  same_place l n k j x y ll lk (inl t) (inl u) e = (t.at_three ∙ sym u.at_three, t.of_slot ∙ sym u.of_slot)
  same_place l n k j x y ll lk (inl t) (inr o) e = absurd (not_new l n k j x y lk t o e)
  same_place l n k j x y ll lk (inr o) (inl t) e = absurd (not_new k j l n y x ll t o (sym e))
  same_place l n k j x y ll lk (inr o) (inr q) e = tree.distinct l n k j x y ll lk o.was q.was e

  -- an old place is at no frame of a page of the range
  keeps_frame : (l n : ℕ) (met : Place) → l ≤ 4 → IsOld l n met → is_frame_free free' met.frame ≡ is_frame_free free
      met.frame
  keeps_frame l n met le o = a.kept met.frame (λ m place g at e.
      let d = tree.distinct 4 m l n place met (omega arith) le at o.was e in
      let out = o.outside (sym d.0) in
      let is : among first pages n ≡ true = ap (among first pages) (sym d.1) ∙ g in
      cc)

  -- a table that was there is met as before
  pub unmapped_tables : (l n : ℕ) (met : Place) → l < 4 → reach old root l n ≡ Some met → reach new root l n ≡ Some met
  unmapped_tables l n met lt is = a.tables_stay l n lt small ∙ is
    where
      small : l ≡ 3 → n ≡ prefix_of first 3 → cuts_large_page old root first ≡ false
      small e f = no_cut_small old root first (table_none old root (prefix_of first 3) met
          (ap (reach old root 3) (sym f) ∙ (ap (λ k. reach old root k n) (sym e) ∙ is)))

  -- what is met at level 4 was met before
  page_before : (n : ℕ) (met : Place) → reach new root 4 n ≡ Some met → (reach old root 4 n ≡ Some met) × (among first pages n ≡ false)
  page_before n met is = go (cases_Bool (among first pages n))
    where
      go : (among first pages n ≡ true) ⊎ (among first pages n ≡ false) → (reach old root 4 n ≡ Some met) × (among first pages n ≡ false)
      go (inl x) = let z = a.gone n x in absurd (cc)
      go (inr x) = (sym (a.pages_stay n x) ∙ is, x)

  -- the words of a page that is still mapped
  pub unmapped_words : (n i : ℕ) (met : Place) → i < 512 → reach new root 4 n ≡ Some met → word_at new met.frame i ≡ word_at old met.frame i
  unmapped_words n i met li is =
      let p = page_before n met is in
      a.entries.words met.frame i li
      (λ m at. absurd (let d = tree.distinct 3 m 4 n (top met.frame) met (omega arith) (omega arith) at p.0 refl in omega (arith, d.0)))
      (λ m at. absurd (let d = tree.distinct 2 m 4 n (top met.frame) met (omega arith) (omega arith) at p.0 refl in omega (arith, d.0)))
      (λ large it e.
      let d = tree.distinct 4 (prefix_of first 4) 4 n (page_in (first % 512) large) met (omega arith) (omega arith)
      (cut_page old root first large it) p.0 (sym e) in
      let is : among first pages n ≡ true = ap (among first pages) (sym d.1) ∙ first_among in
      let out = p.1 in
      cc)

  pub unmapped_bytes : (address : ℕ) → IsSome (walk_of new root (address / 4096)) → reached new root address ≡ reached old root address
  unmapped_bytes address is =
      let p = some_place (walk_of new root (address / 4096)) is in
      let now : reach new root 4 (prefix_of (address / 4096) 4) ≡ Some p.0 = sym (walk_reach new root (address / 4096)) ∙ p.1 in
      let q = page_before (prefix_of (address / 4096) 4) p.0 now in
      same_byte old new root address p.0 p.0 (walk_reach old root (address / 4096) ∙ q.0) p.1 refl
      (unmapped_words (prefix_of (address / 4096) 4) (address % 4096 / 8) p.0 (omega arith) now)

  pub unmapped_known : root < frame_count old → FreeBelow free (frame_count old) → FreeBelow free' (frame_count new)
  unmapped_known root_in known f is = go (cases_lt f (frame_count old))
    where
      go : (f < frame_count old) ⊎ (frame_count old ≤ f) → f < frame_count new
      go (inl x) = let s = a.size in omega arith
      go (inr x) =
          let k = a.kept f (λ n p g at e. let b = reach_below old root 4 n p (omega arith) root_in at in absurd (omega arith)) in
          let h = known f (sym k ∙ is) in absurd (omega arith)

  module _ (range : IsCanonicalRange first pages) where
    -- a large page that is there was there before
    pub unmapped_large : (n : ℕ) (large : Place) → large_of new root n ≡ Some large → large_of old root n ≡ Some large
    unmapped_large n large is = go (slot_in first pages n range)
      where
        go : ((k : ℕ) × ((k < pages) × (n ≡ prefix_of (first + k) 3))) ⊎ ((k : ℕ) → k < pages → n ≡ prefix_of (first + k) 3 → ⊥) →
            large_of old root n ≡ Some large
        go (inl k) = let z = a.large_gone k.0 k.1.0 in let w : large_of new root n ≡ None = ap (large_of new root) k.1.1 ∙ z in absurd (cc)
        go (inr ne) = sym (a.larges_stay n ne) ∙ is

    -- ---- the entries are plain still

    -- an entry of the new table
    in_table : (large : Place) → IsCutPage old root first large → (i : ℕ) → i < 512 → (i < first % 512) ⊎ (first % 512 ≤ i) →
        has_bit (word_at new (large.frame + first % 512) i) 0 ≡ true → IsPlain new 3 (word_at new (large.frame + first % 512) i)
    in_table large it i li (inl lo) =
        let e = a.entries.kept_words i large it lo in
        let b = large_below old root (prefix_of first 3) large it.there in
        let s = large_small old root (prefix_of first 3) large it.there in
        let z = a.size in
        rw e (λ _. plain_page new (large.frame + i) (bits_at large)
        (omega (arith, s, b.0)) (omega (arith, b.1)))
    in_table large it i li (inr hi) = plain_zero new 3 (word_at new (large.frame + first % 512) i) (a.entries.blank i large it hi li)

    -- no table that was there is at the frame of the new one
    not_cut : (l n : ℕ) (met : Place) → l < 4 → reach old root l n ≡ Some met → (large : Place) → IsCutPage old root first large →
        met.frame ≡ large.frame + first % 512 → ⊥
    not_cut l n met lt at large it e =
        let d = tree.distinct 4 (prefix_of first 4) l n (page_in (first % 512) large) met (omega arith) (omega arith)
        (cut_page old root first large it) at (sym e) in
        absurd (omega (arith, d.0))

    -- a word that stays
    stays_plain : (l n i : ℕ) (met : Place) → l < 4 → i < 512 → reach old root l n ≡ Some met →
        (3 ≡ l → among first pages (512 * n + i) ≡ false) → (2 ≡ l → large_of new root (512 * n + i) ≡ large_of old root (512 * n + i)) →
        has_bit (word_at new met.frame i) 0 ≡ true → IsPlain new l (word_at new met.frame i)
    stays_plain l n i met lt li at pages_out larges_out =
        plain_kept old new l (word_at old met.frame i) (word_at new met.frame i) a.size
        (a.entries.words met.frame i li
        (λ m here. let d = tree.distinct 3 m l n (top met.frame) met (omega arith) (omega arith) here at refl
        in ap (λ k. among first pages (512 * k + i)) d.1 ∙ pages_out d.0)
        (λ m here.
        let d = tree.distinct 2 m l n (top met.frame) met (omega arith) (omega arith) here at refl in
        ap (λ k. large_of new root (512 * k + i)) d.1 ∙ (larges_out d.0 ∙ ap (λ k. large_of old root (512 * k + i)) (sym d.1)))
        (not_cut l n met lt at))
        (tree.plain.each l n i met lt li at)

    -- an entry of a table of the third step, where a large page was
    large_zero : (n i : ℕ) (met large : Place) → i < 512 → reach old root 2 n ≡ Some met → large_of old root (512 * n + i) ≡ Some large →
        large_of new root (512 * n + i) ≡ None → (cuts_large_page old root first ≡ true → 512 * n + i ≡ prefix_of first 3 →
        ⊥) →
        has_bit (word_at new met.frame i) 0 ≡ true → IsPlain new 2 (word_at new met.frame i)
    large_zero n i met large li at was gone whole =
        let t : met ≡ top met.frame = tree.rights 2 n met (omega arith) at in
        plain_zero new 2 (word_at new met.frame i) (a.entries.large_words n met.frame i large li (at ∙ ap Some t) was gone whole)

    large_entry : (n i : ℕ) (met large : Place) → i < 512 → reach old root 2 n ≡ Some met → large_of old root (512 * n + i) ≡ Some large →
        large_of new root (512 * n + i) ≡ None → ((cut : Place) × IsCutPage old root first cut) ⊎ (cuts_large_page old root first ≡ false) →
        (512 * n + i ≡ prefix_of first 3) ⊎ (512 * n + i ≡ prefix_of first 3 → ⊥) →
        has_bit (word_at new met.frame i) 0 ≡ true → IsPlain new 2 (word_at new met.frame i)
    large_entry n i met large li at was gone (inl cut) (inl e) =
        let m : n ≡ prefix_of first 2 = let p = prefix_parent first 2 (omega arith) in omega arith in
        let k : i ≡ prefix_of first 3 % 512 = omega arith in
        let t : met ≡ top met.frame = tree.rights 2 n met (omega arith) at in
        let w = a.entries.table_word met.frame cut.0 cut.1 (ap (reach old root 2) (sym m) ∙ (at ∙ ap Some t)) in
        let b = large_below old root (prefix_of first 3) cut.0 cut.1.there in
        let s = large_small old root (prefix_of first 3) cut.0 cut.1.there in
        let z = a.size in
        rw (k, w) (λ _. plain_table new 2 (cut.0.frame + first % 512) (omega arith) (omega (arith, s, b.0)) (omega (arith, b.1)))
    large_entry n i met large li at was gone (inr whole) _ = large_zero n i met large li at was gone (λ c _. absurd (cc))
    large_entry n i met large li at was gone _ (inr ne) = large_zero n i met large li at was gone (λ _ e. ne e)

    third_plain : (n i : ℕ) (met : Place) → i < 512 → reach old root 2 n ≡ Some met →
        has_bit (word_at new met.frame i) 0 ≡ true → IsPlain new 2 (word_at new met.frame i)
    third_plain n i met li at = go (large_of new root (512 * n + i)) refl (large_of old root (512 * n + i)) refl
      where
        same_large : large_of new root (512 * n + i) ≡ large_of old root (512 * n + i) →
            has_bit (word_at new met.frame i) 0 ≡ true → IsPlain new 2 (word_at new met.frame i)
        same_large e = stays_plain 2 n i met (omega arith) li at (λ x. absurd (omega arith)) (λ _. e)

        go : (o : Option Place) → large_of new root (512 * n + i) ≡ o → (p : Option Place) → large_of old root (512 * n + i) ≡ p →
            has_bit (word_at new met.frame i) 0 ≡ true → IsPlain new 2 (word_at new met.frame i)
        go (Some x) now p was = same_large (now ∙ sym (unmapped_large (512 * n + i) x now))
        go None now None was = same_large (now ∙ sym was)
        go None now (Some large) was =
            large_entry n i met large li at was now (cut_or_not old root first) (cases_eq (512 * n + i) (prefix_of first 3))

    old_plain : (l n i : ℕ) (met : Place) → l < 4 → i < 512 → reach old root l n ≡ Some met → (l ≡ 3) ⊎ (l ≡ 3 → ⊥) → (l ≡ 2) ⊎ (l ≡ 2 → ⊥) →
        has_bit (word_at new met.frame i) 0 ≡ true → IsPlain new l (word_at new met.frame i)
    old_plain l n i met lt li at (inl x) _ = go (cases_Bool (among first pages (512 * n + i)))
      where
        t : reach old root 3 n ≡ Some met
        t = ap (λ k. reach old root k n) (sym x) ∙ at

        go : (among first pages (512 * n + i) ≡ true) ⊎ (among first pages (512 * n + i) ≡ false) →
            has_bit (word_at new met.frame i) 0 ≡ true → IsPlain new l (word_at new met.frame i)
        go (inl c) = plain_zero new l (word_at new met.frame i) (a.entries.page_words n met.frame i li c (t ∙ ap Some (tree.rights 3 n met (omega arith) t)))
        go (inr c) = stays_plain l n i met lt li at (λ _. c) (λ y. absurd (omega arith))
    old_plain l n i met lt li at (inr x) (inl y) = rw y (third_plain n i met li (ap (λ k. reach old root k n) (sym y) ∙ at))
    old_plain l n i met lt li at (inr x) (inr y) = stays_plain l n i met lt li at (λ z. absurd (x (sym z))) (λ z. absurd (y (sym z)))

    plain_of : (l n i : ℕ) (met : Place) → l < 4 → i < 512 → IsNewTable l n met ⊎ IsOld l n met →
        has_bit (word_at new met.frame i) 0 ≡ true → IsPlain new l (word_at new met.frame i)
    plain_of l n i met lt li (inl t) = let f = t.framed in let g = t.at_three in rw (f, g) (in_table t.large t.cut i li (cases_lt i (first % 512)))
    plain_of l n i met lt li (inr o) = old_plain l n i met lt li o.was (cases_eq l 3) (cases_eq l 2)

    pub unmapped_tree : IsTree new root free'
    unmapped_tree = record {
      rights = λ l n met lt is. rights_of l n met lt (ways l n met (omega arith) is);
      distinct = λ l n k j x y ll lk is at e. same_place l n k j x y ll lk (ways l n x ll is) (ways k j y lk at) e;
      used = λ l n met le is. used_of l n met le (ways l n met le is);
      inside = λ _ _ _ _ _. refl;
      plain = record { each = λ l n i met lt li is. plain_of l n i met lt li (ways l n met (omega arith) is) };
    }
      where
        rights_of : (l n : ℕ) (met : Place) → l < 4 → IsNewTable l n met ⊎ IsOld l n met → met ≡ top met.frame
        rights_of l n met lt (inl t) = t.framed ∙ ap top (sym (ap (λ p. p.frame) t.framed))
        rights_of l n met lt (inr o) = tree.rights l n met lt o.was

        used_of : (l n : ℕ) (met : Place) → l ≤ 4 → IsNewTable l n met ⊎ IsOld l n met →
            is_frame_free free' met.frame ≡ false
        used_of l n met le (inl t) = ap (is_frame_free free') (ap (λ p. p.frame) t.framed) ∙ a.used t.large t.cut
        used_of l n met le (inr o) = keeps_frame l n met le o ∙ tree.used l n met le o.was

    pub unmapped_gone : (k : ℕ) → k < pages → walk_of new root (first + k) ≡ None
    unmapped_gone k lt =
        let p = range_page first pages k range lt in
        walk_reach new root (first + k) ∙ a.gone (prefix_of (first + k) 4) (among_is first pages (prefix_of (first + k) 4) (omega arith) (omega arith))

    pub unmapped_elsewhere : (other : ℕ) → IsTrue (is_canonical (other * 4096)) → ((k : ℕ) → k < pages → other ≡ first + k → ⊥) →
        walk_of new root other ≡ walk_of old root other
    unmapped_elsewhere other canonical apart =
        walk_reach new root other
        ∙ (a.pages_stay (prefix_of other 4) (among_not first pages (prefix_of other 4) (λ lo hi.
        let lk : prefix_of other 4 - prefix_of first 4 < pages = omega arith in
        let p = range_page first pages (prefix_of other 4 - prefix_of first 4) range lk in
        let h = page_canonical first pages (prefix_of other 4 - prefix_of first 4) range lk in
        apart (prefix_of other 4 - prefix_of first 4) lk
        (same_number other (first + (prefix_of other 4 - prefix_of first 4)) canonical h (omega arith))))
        ∙ sym (walk_reach old root other))
