-- A range is unmapped piece by piece, each piece but the first from the begin of a slot on.
use Rattle.std.proofs.Common.{◌≡◌, ℕ, ◌+◌, ◌-◌, ◌*◌, ◌/◌, ◌%◌, ◌<◌, ◌≤◌, Bool, true, false, List, length, Some, None, refl, sym, ap, ◌∙◌, ◌⊎◌, inl, inr, arith}
use Rattle.std.specs.Prelude.{IsSome}
use Rattle.std.proofs.lemmas.Bool.{cases_Bool, cases_lt}
use Rattle.paging_core.specs.Address.{IsCanonicalRange}
use Rattle.paging_core.specs.Memory.{word_at, frame_count}
use Rattle.paging_core.specs.Prefix.{prefix_of}
use Rattle.paging_core.specs.Pool.{is_frame_free}
use Rattle.paging_core.specs.Walk.{Place, reach, large_of, walk_of, page_in, top}
use Rattle.paging_core.specs.Tree.{IsTree}
use Rattle.paging_core.specs.PageChanges.{among}
use Rattle.page_ranges.specs.RangeUnmapping.{NoLargePageReachesOver, cuts_large_page, IsCutPage, HasEntriesLeft, AreUnmapped}
use Rattle.paging_core.proofs.Prefixes.{walk_reach, prefix_more}
use Rattle.paging_core.proofs.LastEntry.{some_or_none}
use Rattle.paging_core.proofs.Ranges.{page_in as range_page}
use Rattle.page_ranges.proofs.Pieces.{piece_range}
use Rattle.page_ranges.proofs.Unmapped.{among_is, among_from, among_to, among_not, no_cut_whole, cut_none, cut_page, IsNewTable, IsOld, ways, unmapped_tree, unmapped_tables, unmapped_large}

module _ (old mid new : List ℕ) (free free1 free' : List Bool) (root first p q : ℕ)
    (range : IsCanonicalRange first (p + q))
    (some : 0 < p)
    (more : 0 < q)
    (at_slot : (first + p) % 512 ≡ 0)
    (tree : IsTree old root free)
    (a : AreUnmapped old mid free free1 root first p)
    (b : AreUnmapped mid new free1 free' root (first + p) q) where
  -- ---- the pages of the two parts

  next_place : prefix_of (first + p) 4 ≡ prefix_of first 4 + p
  next_place = let e = range_page first (p + q) p range (omega arith) in omega arith

  in_a : (n : ℕ) → among first p n ≡ true → among first (p + q) n ≡ true
  in_a n x = let lo = among_from first p n x in let hi = among_to first p n x in among_is first (p + q) n lo (omega arith)

  in_b : (n : ℕ) → among (first + p) q n ≡ true → among first (p + q) n ≡ true
  in_b n x =
      let e = next_place in
      let lo = among_from (first + p) q n x in
      let hi = among_to (first + p) q n x in
      among_is first (p + q) n (omega arith) (omega arith)

  out_a : (n : ℕ) → among first (p + q) n ≡ false → among first p n ≡ false
  out_a n x = among_not first p n (λ lo hi. let i = among_is first (p + q) n lo (omega arith) in cc)

  out_b : (n : ℕ) → among first (p + q) n ≡ false → among (first + p) q n ≡ false
  out_b n x = let e = next_place in among_not (first + p) q n (λ lo hi. let i = among_is first (p + q) n (omega arith) (omega arith) in cc)

  apart : (n : ℕ) → among first p n ≡ true → among (first + p) q n ≡ false
  apart n x = let e = next_place in let h = among_to first p n x in among_not (first + p) q n (λ lo hi. omega arith)

  not_a : (n : ℕ) → among (first + p) q n ≡ true → among first p n ≡ false
  not_a n x = let e = next_place in let h = among_from (first + p) q n x in among_not first p n (λ lo hi. omega arith)

  rest : (n : ℕ) → among first (p + q) n ≡ true → among (first + p) q n ≡ false → among first p n ≡ true
  rest n x y = go (cases_lt n (prefix_of first 4 + p))
    where
      go : (n < prefix_of first 4 + p) ⊎ (prefix_of first 4 + p ≤ n) → among first p n ≡ true
      go (inl lt) = among_is first p n (among_from first (p + q) n x) lt
      go (inr ge) =
          let e = next_place in
          let h = among_to first (p + q) n x in
          let i = among_is (first + p) q n (omega arith) (omega arith) in
          absurd (cc)

  slot_apart : (k j : ℕ) → k < p → j < q → prefix_of (first + k) 3 ≡ prefix_of (first + p + j) 3 → ⊥
  slot_apart k j lk lj e =
      let z : first + p + j ≡ first + (p + j) = omega arith in
      let u = range_page first (p + q) k range (omega arith) in
      let v = range_page first (p + q) (p + j) range (omega arith) in
      let w = range_page first (p + q) p range (omega arith) in
      let s = at_slot in
      let f : prefix_of (first + k) 3 ≡ prefix_of (first + (p + j)) 3 = e ∙ ap (λ m. prefix_of m 3) z in
      omega arith

  no_cut : cuts_large_page mid root (first + p) ≡ false
  no_cut = no_cut_whole mid root (first + p) at_slot

  whole : (large : Place) → IsCutPage mid root (first + p) large → ⊥
  whole large it = let h = it.behind in let s = at_slot in omega arith

  range_a : IsCanonicalRange first p
  range_a = piece_range first (p + q) first p range (omega arith) (omega arith) some

  range_b : IsCanonicalRange (first + p) q
  range_b = piece_range first (p + q) (first + p) q range (omega arith) (omega arith) more

  -- ---- the walk and the flags

  gone : (n : ℕ) → among first (p + q) n ≡ true → reach new root 4 n ≡ None
  gone n x = go (cases_Bool (among (first + p) q n))
    where
      go : (among (first + p) q n ≡ true) ⊎ (among (first + p) q n ≡ false) → reach new root 4 n ≡ None
      go (inl y) = b.gone n y
      go (inr y) = b.pages_stay n y ∙ a.gone n (rest n x y)

  large_gone : (k : ℕ) → k < p + q → large_of new root (prefix_of (first + k) 3) ≡ None
  large_gone k lt = go (cases_lt k p)
    where
      go : (k < p) ⊎ (p ≤ k) → large_of new root (prefix_of (first + k) 3) ≡ None
      go (inl x) = b.larges_stay (prefix_of (first + k) 3) (λ j lj e. slot_apart k j x lj e) ∙ a.large_gone k x
      go (inr x) =
          let e : first + k ≡ first + p + (k - p) = omega arith in
          ap (λ m. large_of new root (prefix_of m 3)) e ∙ b.large_gone (k - p) (omega arith)

  -- a page of the second part was there before
  was : (n : ℕ) (place : Place) → among (first + p) q n ≡ true → reach mid root 4 n ≡ Some place → reach old root 4 n ≡ Some place
  was n place y at = sym (a.pages_stay n (not_a n y)) ∙ at

  -- and not at the frame of a page of the first part
  other_frame : (n m : ℕ) (place other : Place) → among first p n ≡ true → reach old root 4 n ≡ Some place → among (first + p) q m ≡ true →
      reach mid root 4 m ≡ Some other → other.frame ≡ place.frame → ⊥
  other_frame n m place other x at g here e =
      let d = tree.distinct 4 m 4 n other place (omega arith) (omega arith) (was m other g here) at e in
      let u : among first p m ≡ true = ap (among first p) d.1 ∙ x in
      let v = not_a m g in
      cc

  given : (n : ℕ) (place : Place) → among first (p + q) n ≡ true → reach old root 4 n ≡ Some place →
      ((large : Place) → IsCutPage old root first large → n ≡ prefix_of first 4 → ⊥) →
      is_frame_free free' place.frame ≡ true
  given n place x at nc = go (cases_Bool (among (first + p) q n))
    where
      go : (among (first + p) q n ≡ true) ⊎ (among (first + p) q n ≡ false) → is_frame_free free' place.frame ≡ true
      go (inl y) = b.given n place y (a.pages_stay n (not_a n y) ∙ at) (λ large it _. whole large it)
      go (inr y) =
          let z = rest n x y in
          b.kept place.frame (λ m other g here e. other_frame n m place other z at g here e) ∙ a.given n place z at nc

  first_in : among first p (prefix_of first 4) ≡ true
  first_in = among_is first p (prefix_of first 4) (omega arith) (omega arith)

  used : (large : Place) → IsCutPage old root first large → is_frame_free free' (large.frame + first % 512) ≡ false
  used large it =
      b.kept (large.frame + first % 512)
      (λ m other g here e. other_frame (prefix_of first 4) m (page_in (first % 512) large) other first_in (cut_page old root first large it) g here e)
      ∙ a.used large it

  -- ---- the words

  tree_mid : IsTree mid root free1
  tree_mid = unmapped_tree old mid free free1 root first p some tree a range_a

  -- a word of a last table, if it is not of a page of the second part
  third_stays : (f i n : ℕ) → i < 512 → reach mid root 3 n ≡ Some (top f) → among (first + p) q (512 * n + i) ≡ false → word_at new f i ≡ word_at mid f i
  third_stays f i n li at out =
      b.entries.words f i li
      (λ m here. let d = tree_mid.distinct 3 m 3 n (top f) (top f) (omega arith) (omega arith) here at refl in
      ap (λ k. among (first + p) q (512 * k + i)) d.1 ∙ out)
      (λ m here. let d = tree_mid.distinct 2 m 3 n (top f) (top f) (omega arith) (omega arith) here at refl in absurd (omega (arith, d.0)))
      (λ large it _. whole large it)

  -- a word of a table of two indices, if it maps no large page
  second_stays : (f i n : ℕ) → i < 512 → reach mid root 2 n ≡ Some (top f) → large_of mid root (512 * n + i) ≡ None → large_of new root (512 * n + i) ≡ None →
      word_at new f i ≡ word_at mid f i
  second_stays f i n li at before now =
      b.entries.words f i li
      (λ m here. let d = tree_mid.distinct 3 m 2 n (top f) (top f) (omega arith) (omega arith) here at refl in absurd (omega (arith, d.0)))
      (λ m here.
      let d = tree_mid.distinct 2 m 2 n (top f) (top f) (omega arith) (omega arith) here at refl in
      ap (λ k. large_of new root (512 * k + i)) d.1 ∙ (now ∙ (sym before ∙ ap (λ k. large_of mid root (512 * k + i)) (sym d.1))))
      (λ large it _. whole large it)

  -- a large page that was there before and is there after was so between
  large_between : (n : ℕ) → large_of new root n ≡ large_of old root n → large_of new root n ≡ large_of mid root n
  large_between n keeps = go (some_or_none (large_of mid root n)) (some_or_none (large_of new root n))
    where
      go : ((m : Place) × (large_of mid root n ≡ Some m)) ⊎ (large_of mid root n ≡ None) →
          ((m : Place) × (large_of new root n ≡ Some m)) ⊎ (large_of new root n ≡ None) →
          large_of new root n ≡ large_of mid root n
      go (inl m) _ = keeps ∙ (unmapped_large old mid free free1 root first p some tree a range_a n m.0 m.1 ∙ sym m.1)
      go (inr none) (inr gone) = gone ∙ sym none
      go (inr none) (inl m) = let z = unmapped_large mid new free1 free' root (first + p) q more tree_mid b range_b n m.0 m.1 in absurd (cc)

  words : (f i : ℕ) → i < 512 → ((n : ℕ) → reach old root 3 n ≡ Some (top f) → among first (p + q) (512 * n + i) ≡ false) →
      ((n : ℕ) → reach old root 2 n ≡ Some (top f) → large_of new root (512 * n + i) ≡ large_of old root (512 * n + i)) →
      ((large : Place) → IsCutPage old root first large → f ≡ large.frame + first % 512 → ⊥) → word_at new f i ≡ word_at old f i
  words f i li thirds seconds apart =
      b.entries.words f i li
      (λ n at. third n (ways old mid free free1 root first p some tree a 3 n (top f) (omega arith) at))
      (λ n at. large_between (512 * n + i) (seconds n (back n at)))
      (λ large it _. whole large it)
      ∙ a.entries.words f i li (λ n at. out_a (512 * n + i) (thirds n at))
      (λ n at. let k = seconds n at in sym (large_between (512 * n + i) k) ∙ k) apart
    where
      back : (n : ℕ) → reach mid root 2 n ≡ Some (top f) → reach old root 2 n ≡ Some (top f)
      back n at = sym (a.tables_stay 2 n (omega arith) (λ e _. absurd (omega arith))) ∙ at

      third : (n : ℕ) → IsNewTable old mid free free1 root first p some tree a 3 n (top f) ⊎ IsOld old mid free free1 root first p some tree a 3 n (top f) →
          among (first + p) q (512 * n + i) ≡ false
      third n (inl t) = absurd (apart t.large t.cut (ap (λ p. p.frame) t.framed))
      third n (inr o) = out_b (512 * n + i) (thirds n o.was)

  page_words : (n f i : ℕ) → i < 512 → among first (p + q) (512 * n + i) ≡ true → reach old root 3 n ≡ Some (top f) → word_at new f i ≡ 0
  page_words n f i li x at = go (cases_Bool (among (first + p) q (512 * n + i)))
    where
      here : reach mid root 3 n ≡ Some (top f)
      here = unmapped_tables old mid free free1 root first p some tree a 3 n (top f) (omega arith) at

      go : (among (first + p) q (512 * n + i) ≡ true) ⊎ (among (first + p) q (512 * n + i) ≡ false) → word_at new f i ≡ 0
      go (inl y) = b.entries.page_words n f i li y here
      go (inr y) = third_stays f i n li here y ∙ a.entries.page_words n f i li (rest (512 * n + i) x y) at

  large_words : (n f i : ℕ) (large : Place) → i < 512 → reach old root 2 n ≡ Some (top f) → large_of old root (512 * n + i) ≡ Some large →
      large_of new root (512 * n + i) ≡ None → (cuts_large_page old root first ≡ true → 512 * n + i ≡ prefix_of first 3 → ⊥) → word_at new f i ≡ 0
  large_words n f i large li at before now nc = go (some_or_none (large_of mid root (512 * n + i)))
    where
      here : reach mid root 2 n ≡ Some (top f)
      here = unmapped_tables old mid free free1 root first p some tree a 2 n (top f) (omega arith) at

      go : ((m : Place) × (large_of mid root (512 * n + i) ≡ Some m)) ⊎ (large_of mid root (512 * n + i) ≡ None) → word_at new f i ≡ 0
      go (inl m) = b.entries.large_words n f i m.0 li here m.1 now (λ c _. let z = no_cut in cc)
      go (inr none) = second_stays f i n li here none now ∙ a.entries.large_words n f i large li at before none nc

  first_none : large_of mid root (prefix_of first 3) ≡ None
  first_none = let e : first ≡ first + 0 = omega arith in ap (λ m. large_of mid root (prefix_of m 3)) e ∙ a.large_gone 0 some

  first_gone : large_of new root (prefix_of first 3) ≡ None
  first_gone = let e : first ≡ first + 0 = omega arith in ap (λ m. large_of new root (prefix_of m 3)) e ∙ large_gone 0 (omega arith)

  entries : HasEntriesLeft old new root first (p + q)
  entries = record {
    page_words = page_words;
    large_words = large_words;
    table_word = λ f large it at.
        let m : 512 * prefix_of first 2 + prefix_of first 3 % 512 ≡ prefix_of first 3 = prefix_more first 2 (omega arith) in
        second_stays f (prefix_of first 3 % 512) (prefix_of first 2) (omega arith)
        (unmapped_tables old mid free free1 root first p some tree a 2 (prefix_of first 2) (top f) (omega arith) at)
        (ap (large_of mid root) m ∙ first_none) (ap (large_of new root) m ∙ first_gone)
        ∙ a.entries.table_word f large it at;
    kept_words = λ k large it lt. table_stays k large it (omega arith) ∙ a.entries.kept_words k large it lt;
    blank = λ k large it lo lt. table_stays k large it lt ∙ a.entries.blank k large it lo lt;
    words = words;
  }
    where
      table_stays : (k : ℕ) (large : Place) → IsCutPage old root first large → k < 512 →
          word_at new (large.frame + first % 512) k ≡ word_at mid (large.frame + first % 512) k
      table_stays k large it lt =
          let e = next_place in
          let s = at_slot in
          third_stays (large.frame + first % 512) k (prefix_of first 3) lt (a.table large it)
          (among_not (first + p) q (512 * prefix_of first 3 + k) (λ lo hi. omega arith))

  pub unmapped_more : AreUnmapped old new free free' root first (p + q)
  unmapped_more = record {
    size = b.size ∙ a.size;
    flags = b.flags ∙ a.flags;
    gone = gone;
    large_gone = large_gone;
    pages_stay = λ n x. b.pages_stay n (out_b n x) ∙ a.pages_stay n (out_a n x);
    larges_stay = λ n ne.
        b.larges_stay n (λ j lj e. let z : first + p + j ≡ first + (p + j) = omega arith in ne (p + j) (omega arith) (e ∙ ap (λ m. prefix_of m 3) z))
        ∙ a.larges_stay n (λ k lk e. ne k (omega arith) e);
    tables_stay = λ l n lt h. b.tables_stay l n lt (λ _ _. no_cut) ∙ a.tables_stay l n lt h;
    table = λ large it. b.tables_stay 3 (prefix_of first 3) (omega arith) (λ _ _. no_cut) ∙ a.table large it;
    given = given;
    used = used;
    kept = λ f ne. b.kept f (λ n place g here e. ne n place (in_b n g) (was n place g here) e) ∙ a.kept f (λ n place g at e. ne n place (in_a n g) at e);
    count = let x = a.count in let y = b.count in let z = cut_none mid root (first + p) no_cut in omega arith;
    entries = entries;
  }

-- The first `done` pages of the range are unmapped.
pub record IsUnmappedSoFar (old now : List ℕ) (free free1 : List Bool) (root first pages done : ℕ) : Type 0 where
  pub inside : done ≤ pages
  pub at_slot : 0 < done → done < pages → (first + done) % 512 ≡ 0
  pub begun : done ≡ 0 → (now ≡ old) × (free1 ≡ free)
  pub unmapped : 0 < done → AreUnmapped old now free free1 root first done

pub so_far_none : (old : List ℕ) (free : List Bool) (root first pages : ℕ) → IsUnmappedSoFar old old free free root first pages 0
so_far_none old free root first pages = record {
  inside = omega arith;
  at_slot = λ lt _. absurd (omega arith);
  begun = λ _. (refl, refl);
  unmapped = λ lt. absurd (omega arith);
}

-- a piece of the range, up to the end of a slot or of the range
module _ (old now : List ℕ) (free free1 : List Bool) (root first pages done count : ℕ)
    (root_in : root < frame_count old)
    (flags : frame_count old ≤ length free)
    (range : IsCanonicalRange first pages)
    (tree : IsTree old root free)
    (mapped : (k : ℕ) → k < pages → IsSome (walk_of old root (first + k)))
    (ends : NoLargePageReachesOver old root first pages)
    (l : IsUnmappedSoFar old now free free1 root first pages done)
    (some : 0 < count)
    (inside : done + count ≤ pages)
    (to_slot : done + count < pages → (first + done) % 512 + count ≡ 512) where
  -- nothing is done yet, or a part
  data_of : (done ≡ 0) ⊎ (0 < done)
  data_of = go (cases_lt 0 done)
    where
      go : (0 < done) ⊎ (done ≤ 0) → (done ≡ 0) ⊎ (0 < done)
      go (inl x) = inr x
      go (inr x) = inl (omega arith)

  size : length now ≡ length old
  size = go data_of
    where
      go : (done ≡ 0) ⊎ (0 < done) → length now ≡ length old
      go (inl e) = ap length (l.begun e).0
      go (inr lt) = (l.unmapped lt).size

  pub step_tree : IsTree now root free1
  step_tree = go data_of
    where
      go : (done ≡ 0) ⊎ (0 < done) → IsTree now root free1
      go (inl e) = rw ((l.begun e).0, (l.begun e).1) tree
      go (inr lt) = unmapped_tree old now free free1 root first done lt tree (l.unmapped lt) (record {
        some = lt;
        canonical = range.canonical;
        one_half = let h = range.one_half in let i = l.inside in omega arith;
      })

  page_at : (k : ℕ) → first + done + k ≡ first + (done + k)
  page_at k = omega arith

  same_page : (k : ℕ) → k < count → walk_of now root (first + done + k) ≡ walk_of old root (first + done + k)
  same_page k lk = go data_of
    where
      go : (done ≡ 0) ⊎ (0 < done) → walk_of now root (first + done + k) ≡ walk_of old root (first + done + k)
      go (inl e) = ap (λ w. walk_of w root (first + done + k)) (l.begun e).0
      go (inr lt) =
          let p = range_page first pages (done + k) range (omega arith) in
          let e : prefix_of (first + done + k) 4 ≡ prefix_of first 4 + (done + k) = ap (λ m. prefix_of m 4) (page_at k) ∙ omega arith in
          walk_reach now root (first + done + k)
          ∙ ((l.unmapped lt).pages_stay (prefix_of (first + done + k) 4) (among_not first done (prefix_of (first + done + k) 4) (λ lo hi. omega arith))
          ∙ sym (walk_reach old root (first + done + k)))

  pub step_mapped : (k : ℕ) → k < count → IsSome (walk_of now root (first + done + k))
  step_mapped k lk = rw (same_page k lk, page_at k) (mapped (done + k) (omega arith))

  same_large : (k : ℕ) → k < count → large_of now root (prefix_of (first + done + k) 3) ≡ large_of old root (prefix_of (first + done + k) 3)
  same_large k lk = go data_of
    where
      go : (done ≡ 0) ⊎ (0 < done) → large_of now root (prefix_of (first + done + k) 3) ≡ large_of old root (prefix_of (first + done + k) 3)
      go (inl e) = ap (λ w. large_of w root (prefix_of (first + done + k) 3)) (l.begun e).0
      go (inr lt) = (l.unmapped lt).larges_stay (prefix_of (first + done + k) 3) (λ j lj e.
          let s = l.at_slot lt (omega arith) in
          let u = range_page first pages j range (omega arith) in
          let v = range_page first pages (done + k) range (omega arith) in
          let w = range_page first pages done range (omega arith) in
          let f : prefix_of (first + j) 3 ≡ prefix_of (first + (done + k)) 3 = sym e ∙ ap (λ m. prefix_of m 3) (page_at k) in
          omega arith)

  pub step_ends : NoLargePageReachesOver now root (first + done) count
  step_ends k lk large = go (cases_lt (done + count) pages)
    where
      old_ends : 512 * ((first + done + k) / 512) + 512 ≤ first + pages
      old_ends = let h = ends (done + k) (omega arith) (rw (same_large k lk, page_at k) at large) in let e = page_at k in omega arith

      go : (done + count < pages) ⊎ (pages ≤ done + count) → 512 * ((first + done + k) / 512) + 512 ≤ first + done + count
      go (inl lt) = let e = to_slot lt in omega arith
      go (inr ge) = let h = old_ends in omega arith

  pub step_next : (new : List ℕ) (free' : List Bool) → AreUnmapped now new free1 free' root (first + done) count →
      IsUnmappedSoFar old new free free' root first pages (done + count)
  step_next new free' b = record {
    inside = inside;
    at_slot = λ _ lt. let e = to_slot lt in omega arith;
    begun = λ e. absurd (omega arith);
    unmapped = λ _. go data_of;
  }
    where
      go : (done ≡ 0) ⊎ (0 < done) → AreUnmapped old new free free' root first (done + count)
      go (inl e) =
          let x : first + done ≡ first = omega arith in
          let y : done + count ≡ count = omega arith in
          let w = (l.begun e).0 in
          let f = (l.begun e).1 in
          rw y (rw (x, w, f) at b)
      go (inr lt) =
          unmapped_more old now new free free1 free' root first done count
          (piece_range first pages first (done + count) range (omega arith) (omega arith) (omega arith)) lt some
          (l.at_slot lt (omega arith)) tree (l.unmapped lt) b
