-- Pages of a range that are added in several steps, by tables and in large pages.
use Rattle.std.proofs.Common.{◌≡◌, ℕ, ◌+◌, ◌*◌, ◌/◌, ◌%◌, ◌<◌, ◌≤◌, Bool, true, false, List, Some, None, refl, sym, ap, ◌∙◌, ◌⊎◌, inl, inr, arith}
use Rattle.paging_core.specs.Memory.{word_at}
use Rattle.paging_core.specs.Entry.{table_entry, page_entry, large_entry}
use Rattle.paging_core.specs.Prefix.{prefix_of}
use Rattle.paging_core.specs.Pool.{is_frame_free}
use Rattle.paging_core.specs.Walk.{Place, reach, large_of, large_from, walk_of, top, place_with}
use Rattle.paging_core.specs.Tree.{IsTree}
use Rattle.page_ranges.specs.RangeMapping.{IsNewPlace, ArePagesAdded}
use Rattle.paging_core.specs.declared.page_table.PageBits.{PageBits}
use Rattle.paging_core.proofs.Prefixes.{none_child, walk_reach}
use Rattle.paging_core.proofs.Reach.{reach_none, table_none, large_none, large_is}
use Rattle.paging_core.proofs.LastEntry.{some_or_none}
use Rattle.paging_core.proofs.FreshFrame.{free_before}

pub pages_start : (words : List ℕ) (free : List Bool) (root first pages : ℕ) (rights : PageBits) → IsTree words root free →
    ArePagesAdded words words free free root first pages rights
pages_start words free root first pages rights tree = record {
  size = refl;
  flags = refl;
  tree = tree;
  added = λ page place none now. absurd (cc);
  large_added = λ n large none now. absurd (cc);
  others = λ l n le ne. refl;
  other_larges = λ n ne. refl;
  stayed = λ l n met le is. is;
  large_stayed = λ n large is. is;
  made = λ l n met lt none is. absurd (cc);
  fewer = λ f e. e;
  kept = λ f e ne. e;
  count = refl;
  bytes_stay = λ page place i is li. refl;
  words = λ f i li held untabled. refl;
  free_words = λ f i li e. refl;
  entries = record {
    old_words = λ l n f i lt li was keeps large. refl;
    blank = λ l n f i lt li none now gone small. absurd (cc);
    table_words = λ l n f i made lt li here none now. absurd (cc);
    page_words = λ n f i place li here none now. absurd (cc);
    large_words = λ n f i large li here none now. absurd (cc);
  };
}

-- what is met past a table shows the table
pub parent : (words : List ℕ) (root l n i : ℕ) (p : Place) → l < 3 → i < 512 →
    reach words root (l + 1) (512 * n + i) ≡ Some p → (m : Place) × (reach words root l n ≡ Some m)
parent words root l n i p low li on = go (some_or_none (reach words root l n))
  where
    go : ((m : Place) × (reach words root l n ≡ Some m)) ⊎ (reach words root l n ≡ None) → (m : Place) × (reach words root l n ≡ Some m)
    go (inl q) = q
    go (inr none) = let gone = none_child words root l n i low li none in absurd (cc)

-- and so does a large page
pub large_parent : (words : List ℕ) (root n i : ℕ) (p : Place) → i < 512 → large_of words root (512 * n + i) ≡ Some p →
    (m : Place) × (reach words root 2 n ≡ Some m)
large_parent words root n i p li on = go (some_or_none (reach words root 2 n))
  where
    q : (512 * n + i) / 512 ≡ n
    q = omega arith

    go : ((m : Place) × (reach words root 2 n ≡ Some m)) ⊎ (reach words root 2 n ≡ None) → (m : Place) × (reach words root 2 n ≡ Some m)
    go (inl q) = q
    go (inr none) =
        let z : large_of words root (512 * n + i) ≡ None =
        large_is words root (512 * n + i) ∙ ap (λ o. large_from words o ((512 * n + i) % 512)) (ap (reach words root 2) q ∙ none) in
        absurd (cc)

module _ (old mid new : List ℕ) (free free1 free' : List Bool) (root first pages : ℕ) (rights : PageBits)
    (a : ArePagesAdded old mid free free1 root first pages rights)
    (b : ArePagesAdded mid new free1 free' root first pages rights) where
  -- what is met neither before nor after is not met between
  none_between : (l n : ℕ) → l ≤ 4 → reach new root l n ≡ None → reach mid root l n ≡ None
  none_between l n le gone = go (some_or_none (reach mid root l n))
    where
      go : ((m : Place) × (reach mid root l n ≡ Some m)) ⊎ (reach mid root l n ≡ None) → reach mid root l n ≡ None
      go (inr e) = e
      go (inl p) = let s = b.stayed l n p.0 le p.1 in absurd (cc)

  large_none_between : (n : ℕ) → large_of new root n ≡ None → large_of mid root n ≡ None
  large_none_between n gone = go (some_or_none (large_of mid root n))
    where
      go : ((m : Place) × (large_of mid root n ≡ Some m)) ⊎ (large_of mid root n ≡ None) → large_of mid root n ≡ None
      go (inr e) = e
      go (inl p) = let s = b.large_stayed n p.0 p.1 in absurd (cc)

  -- what is the same before and after was so between
  between : (l n : ℕ) → l ≤ 4 → reach new root l n ≡ reach old root l n → reach mid root l n ≡ reach old root l n
  between l n le keeps = go (some_or_none (reach old root l n))
    where
      go : ((m : Place) × (reach old root l n ≡ Some m)) ⊎ (reach old root l n ≡ None) → reach mid root l n ≡ reach old root l n
      go (inl p) = a.stayed l n p.0 le p.1 ∙ sym p.1
      go (inr none) = none_between l n le (keeps ∙ none) ∙ sym none

  large_between : (n : ℕ) → large_of new root n ≡ large_of old root n → large_of mid root n ≡ large_of old root n
  large_between n keeps = go (some_or_none (large_of old root n))
    where
      go : ((m : Place) × (large_of old root n ≡ Some m)) ⊎ (large_of old root n ≡ None) → large_of mid root n ≡ large_of old root n
      go (inl p) = a.large_stayed n p.0 p.1 ∙ sym p.1
      go (inr none) = large_none_between n (keeps ∙ none) ∙ sym none

  -- a page that is mapped between stays
  walk_on : (page : ℕ) (place : Place) → walk_of mid root page ≡ Some place → walk_of new root page ≡ Some place
  walk_on page place is = walk_reach new root page ∙ b.stayed 4 (prefix_of page 4) place (omega arith) (sym (walk_reach mid root page) ∙ is)

  walk_before : (page : ℕ) (place : Place) → walk_of old root page ≡ Some place → walk_of mid root page ≡ Some place
  walk_before page place is = walk_reach mid root page ∙ a.stayed 4 (prefix_of page 4) place (omega arith) (sym (walk_reach old root page) ∙ is)

  added_of : (page : ℕ) (place : Place) → walk_of old root page ≡ None → walk_of new root page ≡ Some place → IsNewPlace new free place rights
  added_of page place none now = go (some_or_none (walk_of mid root page))
    where
      go : ((m : Place) × (walk_of mid root page ≡ Some m)) ⊎ (walk_of mid root page ≡ None) → IsNewPlace new free place rights
      go (inl p) =
          let s = walk_on page p.0 p.1 in
          let same : p.0 ≡ place = cc in
          let t : walk_of mid root page ≡ Some place = p.1 ∙ ap Some same in
          let x = a.added page place none t in
          record { granted_all = x.granted_all; was_free = x.was_free; zeros = λ i li. b.bytes_stay page place i t li ∙ x.zeros i li }
      go (inr e) =
          let x = b.added page place e now in
          record { granted_all = x.granted_all; was_free = free_before free free1 a.fewer place.frame x.was_free; zeros = x.zeros }

  large_added_of : (n : ℕ) (large : Place) → large_of old root n ≡ None → large_of new root n ≡ Some large → large ≡ place_with large.frame rights
  large_added_of n large none now = go (some_or_none (large_of mid root n))
    where
      go : ((m : Place) × (large_of mid root n ≡ Some m)) ⊎ (large_of mid root n ≡ None) → large ≡ place_with large.frame rights
      go (inl p) =
          let s = b.large_stayed n p.0 p.1 in
          let same : p.0 ≡ large = cc in
          a.large_added n large none (p.1 ∙ ap Some same)
      go (inr e) = b.large_added n large e now

  made_of : (l n : ℕ) (met : Place) → l < 4 → reach old root l n ≡ None → reach new root l n ≡ Some met → is_frame_free free met.frame ≡ true
  made_of l n met ll none now = go (some_or_none (reach mid root l n))
    where
      go : ((m : Place) × (reach mid root l n ≡ Some m)) ⊎ (reach mid root l n ≡ None) → is_frame_free free met.frame ≡ true
      go (inl p) =
          let s = b.stayed l n p.0 (omega arith) p.1 in
          let same : p.0 ≡ met = cc in
          a.made l n met ll none (p.1 ∙ ap Some same)
      go (inr gone) = free_before free free1 a.fewer met.frame (b.made l n met ll gone now)

  words_of : (f i : ℕ) → i < 512 → is_frame_free free f ≡ false → ((l n : ℕ) → l < 4 → reach old root l n ≡ Some (top f) →
      ⊥) → word_at new f i ≡ word_at old f i
  words_of f i li held untabled =
      b.words f i li (a.fewer f held) (λ l n ll now. table l n ll now (some_or_none (reach old root l n)))
      ∙ a.words f i li held untabled
    where
      table : (l n : ℕ) → l < 4 → reach mid root l n ≡ Some (top f) →
          ((m : Place) × (reach old root l n ≡ Some m)) ⊎ (reach old root l n ≡ None) → ⊥
      table l n ll now (inl p) =
          let s = a.stayed l n p.0 (omega arith) p.1 in
          let same : p.0 ≡ top f = cc in
          untabled l n ll (p.1 ∙ ap Some same)
      table l n ll now (inr none) = let m : is_frame_free free f ≡ true = a.made l n (top f) ll none now in cc

  old_words : (l n f i : ℕ) → l < 4 → i < 512 → reach old root l n ≡ Some (top f) →
      reach new root (l + 1) (512 * n + i) ≡ reach old root (l + 1) (512 * n + i) →
      (l ≡ 2 → large_of new root (512 * n + i) ≡ large_of old root (512 * n + i)) → word_at new f i ≡ word_at old f i
  old_words l n f i ll li was keeps large =
      let m = between (l + 1) (512 * n + i) (omega arith) keeps in
      let g : l ≡ 2 → large_of mid root (512 * n + i) ≡ large_of old root (512 * n + i) = λ e. large_between (512 * n + i) (large e) in
      b.entries.old_words l n f i ll li (a.stayed l n (top f) (omega arith) was) (keeps ∙ sym m) (λ e. large e ∙ sym (g e))
      ∙ a.entries.old_words l n f i ll li was m g

  -- a table that was there between
  table_between : (l n f : ℕ) (m : Place) → l < 4 → reach new root l n ≡ Some (top f) → reach mid root l n ≡ Some m → reach mid root l n ≡ Some (top f)
  table_between l n f m ll here was =
      let s = b.stayed l n m (omega arith) was in
      let same : m ≡ top f = cc in
      was ∙ ap Some same

  -- a word of it, if it led to a place already
  word_between : (l n f i : ℕ) (p : Place) → l < 4 → i < 512 → reach mid root l n ≡ Some (top f) →
      reach mid root (l + 1) (512 * n + i) ≡ Some p → word_at new f i ≡ word_at mid f i
  word_between l n f i p ll li was on =
      let s = b.stayed (l + 1) (512 * n + i) p (omega arith) on in
      b.entries.old_words l n f i ll li was (s ∙ sym on)
      (λ e. let k : l + 1 ≡ 3 = omega arith in
      table_none new root (512 * n + i) p (ap (λ j. reach new root j (512 * n + i)) (sym k) ∙ s)
      ∙ sym (table_none mid root (512 * n + i) p (ap (λ j. reach mid root j (512 * n + i)) (sym k) ∙ on)))

  blank : (l n f i : ℕ) → l < 4 → i < 512 → reach old root l n ≡ None → reach new root l n ≡ Some (top f) →
      reach new root (l + 1) (512 * n + i) ≡ None → (l ≡ 2 → large_of new root (512 * n + i) ≡ None) → word_at new f i ≡ 0
  blank l n f i ll li none now gone small = go (some_or_none (reach mid root l n))
    where
      go : ((m : Place) × (reach mid root l n ≡ Some m)) ⊎ (reach mid root l n ≡ None) → word_at new f i ≡ 0
      go (inr e) = b.entries.blank l n f i ll li e now gone small
      go (inl p) =
          let t = table_between l n f p.0 ll now p.1 in
          let empty = none_between (l + 1) (512 * n + i) (omega arith) gone in
          let g : l ≡ 2 → large_of mid root (512 * n + i) ≡ None = λ e. large_none_between (512 * n + i) (small e) in
          b.entries.old_words l n f i ll li t (gone ∙ sym empty) (λ e. small e ∙ sym (g e)) ∙ a.entries.blank l n f i ll li none t empty g

  table_words : (l n f i made : ℕ) → l < 3 → i < 512 → reach new root l n ≡ Some (top f) → reach old root (l + 1) (512 * n + i) ≡ None →
      reach new root (l + 1) (512 * n + i) ≡ Some (top made) → word_at new f i ≡ table_entry made
  table_words l n f i made ll li here none now = go (some_or_none (reach mid root (l + 1) (512 * n + i)))
    where
      go : ((m : Place) × (reach mid root (l + 1) (512 * n + i) ≡ Some m)) ⊎ (reach mid root (l + 1) (512 * n + i) ≡ None) → word_at new f i ≡ table_entry made
      go (inr e) = b.entries.table_words l n f i made ll li here e now
      go (inl p) =
          let q = parent mid root l n i p.0 ll li p.1 in
          let t = table_between l n f q.0 (omega arith) here q.1 in
          let s = b.stayed (l + 1) (512 * n + i) p.0 (omega arith) p.1 in
          let same : p.0 ≡ top made = cc in
          word_between l n f i p.0 (omega arith) li t p.1 ∙ a.entries.table_words l n f i made ll li t none (p.1 ∙ ap Some same)

  -- a page that was there between, in a slot that has a table after
  its_table : (n f i : ℕ) (p : Place) → i < 512 → reach new root 3 n ≡ Some (top f) → reach mid root 4 (512 * n + i) ≡ Some p →
      (m : Place) × (reach mid root 3 n ≡ Some m)
  its_table n f i p li here on = go (some_or_none (reach mid root 3 n))
    where
      e : (512 * n + i) / 512 ≡ n
      e = omega arith

      go : ((m : Place) × (reach mid root 3 n ≡ Some m)) ⊎ (reach mid root 3 n ≡ None) → (m : Place) × (reach mid root 3 n ≡ Some m)
      go (inl q) = q
      go (inr none) =
          let z = reach_none mid root (512 * n + i) (ap (reach mid root 3) e ∙ none)
          (ap (large_of mid root) e ∙ large_none_between n (table_none new root n (top f) here)) in
          absurd (cc)

  page_words : (n f i : ℕ) (place : Place) → i < 512 → reach new root 3 n ≡ Some (top f) → reach old root 4 (512 * n + i) ≡ None →
      reach new root 4 (512 * n + i) ≡ Some place → word_at new f i ≡ page_entry place.frame rights
  page_words n f i place li here none now = go (some_or_none (reach mid root 4 (512 * n + i)))
    where
      go : ((m : Place) × (reach mid root 4 (512 * n + i) ≡ Some m)) ⊎ (reach mid root 4 (512 * n + i) ≡ None) → word_at new f i ≡ page_entry place.frame rights
      go (inr e) = b.entries.page_words n f i place li here e now
      go (inl p) =
          let q = its_table n f i p.0 li here p.1 in
          let t = table_between 3 n f q.0 (omega arith) here q.1 in
          let s = b.stayed 4 (512 * n + i) p.0 (omega arith) p.1 in
          let same : p.0 ≡ place = cc in
          word_between 3 n f i p.0 (omega arith) li t p.1 ∙ a.entries.page_words n f i place li t none (p.1 ∙ ap Some same)

  large_words : (n f i : ℕ) (large : Place) → i < 512 → reach new root 2 n ≡ Some (top f) → large_of old root (512 * n + i) ≡ None →
      large_of new root (512 * n + i) ≡ Some large → word_at new f i ≡ large_entry large.frame rights
  large_words n f i large li here none now = go (some_or_none (large_of mid root (512 * n + i)))
    where
      go : ((m : Place) × (large_of mid root (512 * n + i) ≡ Some m)) ⊎ (large_of mid root (512 * n + i) ≡ None) →
          word_at new f i ≡ large_entry large.frame rights
      go (inr e) = b.entries.large_words n f i large li here e now
      go (inl p) =
          let q = large_parent mid root n i p.0 li p.1 in
          let t = table_between 2 n f q.0 (omega arith) here q.1 in
          let s = b.large_stayed (512 * n + i) p.0 p.1 in
          let same : p.0 ≡ large = cc in
          let no : reach new root 3 (512 * n + i) ≡ None = large_none new root (512 * n + i) p.0 s in
          let none_mid : reach mid root 3 (512 * n + i) ≡ None = large_none mid root (512 * n + i) p.0 p.1 in
          b.entries.old_words 2 n f i (omega arith) li t (no ∙ sym none_mid) (λ e. s ∙ sym p.1)
          ∙ a.entries.large_words n f i large li t none (p.1 ∙ ap Some same)

  pub pages_more : ArePagesAdded old new free free' root first pages rights
  pages_more = record {
    size = b.size ∙ a.size;
    flags = b.flags ∙ a.flags;
    tree = b.tree;
    added = added_of;
    large_added = large_added_of;
    others = λ l n le ne. b.others l n le ne ∙ a.others l n le ne;
    other_larges = λ n ne. b.other_larges n ne ∙ a.other_larges n ne;
    stayed = λ l n met le is. b.stayed l n met le (a.stayed l n met le is);
    large_stayed = λ n large is. b.large_stayed n large (a.large_stayed n large is);
    made = made_of;
    fewer = λ f e. b.fewer f (a.fewer f e);
    kept = λ f e unmet. b.kept f (a.kept f e (λ l n met le is. unmet l n met le (b.stayed l n met le is))) unmet;
    count = let x = a.count in let y = b.count in omega arith;
    bytes_stay = λ page place i is li. b.bytes_stay page place i (walk_before page place is) li ∙ a.bytes_stay page place i is li;
    words = words_of;
    free_words = λ f i li e. b.free_words f i li e ∙ a.free_words f i li (free_before free1 free' b.fewer f e);
    entries = record { old_words = old_words; blank = blank; table_words = table_words; page_words = page_words; large_words = large_words };
  }
