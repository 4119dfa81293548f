-- A large page is split: a table of 512 single entries, in a frame that was free, takes the place of its entry.
use Rattle.std.proofs.Common.{◌≡◌, ℕ, ◌^◌, ◌+◌, ◌*◌, ◌/◌, ◌%◌, ◌<◌, ◌≤◌, Bool, true, false, List, length, set, Some, None, refl, sym, ap, ◌∙◌, ◌⊎◌, inl, inr, arith, length-set}
use Rattle.std.proofs.lemmas.Bool.{cases_eq}
use Rattle.paging_core.specs.Area.{Area, in_area}
use Rattle.paging_core.specs.Entry.{has_bit, table_entry, page_entry}
use Rattle.paging_core.specs.Plain.{IsPlain}
use Rattle.paging_core.specs.Memory.{word_at, frame_count}
use Rattle.paging_core.specs.Prefix.{prefix_of}
use Rattle.paging_core.specs.Walk.{Place, reach, walk_of, reached, top, page_in}
use Rattle.paging_core.specs.Pool.{is_frame_free, free_count, FreeIn}
use Rattle.paging_core.specs.Tree.{IsTreeIn, last_own}
use Rattle.paging_core.specs.Large.{slot_of, above, IsLargeEntry}
use Rattle.paging_core.specs.LargeChanges.{IsLargeSplit}
use Rattle.paging_core.proofs.Areas.{free_below, free_inside, free_stays, own_met, own_table, beside_table, beside_free, bytes_kept}
use Rattle.paging_core.proofs.Plain.{plain_kept, plain_table}
use Rattle.paging_core.proofs.Prefixes.{walk_reach}
use Rattle.paging_core.proofs.Made.{taken_flag, fewer_flags, taken_count}
use Rattle.paging_core.proofs.LastEntry.{some_or_none}
use Rattle.paging_core.proofs.PageWritten.{same_byte}
use Rattle.paging_core.proofs.SlotTable.{rights_of, at_page, slot_table, slot_no_large, slot_outside, slot_still, slot_kept, slot_plain}
use Rattle.paging_core.proofs.Words.{word_at_set_same, word_at_set_other}
use Rattle.paging_core.specs.Outcomes.{IsBeside, KeepsBytes}

-- the steps of the split: the frame that was taken is filled with the entries of all pages, and then named as a table
module _ (area : Area) (old filled new : List ℕ) (free free' : List Bool) (root page table index made : ℕ) (large : Place)
    (bounded : large.frame + 512 < 2 ^ 40)
    (small : made < 2 ^ 40)
    (known : FreeIn area free (frame_count old))
    (tree : IsTreeIn area old root free)
    (entry : IsLargeEntry old root page table index large)
    (table_in : table < frame_count old)
    (was_free : is_frame_free free made ≡ true)
    (taken : free' ≡ set free made false)
    (lowest : (lower : ℕ) → lower < made → is_frame_free free lower ≡ false)
    (fill_size : length filled ≡ length old)
    (fill_words : (k : ℕ) → k < 512 → word_at filled made k ≡ page_entry (large.frame + k) (rights_of large))
    (fill_others : (f i : ℕ) → i < 512 → (f ≡ made → i < 512 → ⊥) → word_at filled f i ≡ word_at old f i)
    (written : new ≡ set filled (512 * table + index) (table_entry made)) where
  made_in : made < frame_count old
  made_in = free_below area free (frame_count old) known made was_free

  index_in : index < 512
  index_in = let e = entry.at_index in omega arith

  met_top : reach old root 2 (above page 2) ≡ Some (top table)
  met_top =
      let r : entry.met ≡ top entry.met.frame = tree.rights 2 (above page 2) entry.met (omega arith) entry.reached in
      entry.reached ∙ (ap Some r ∙ ap (λ f. Some (top f)) entry.in_table)

  -- the frame is met by no walk: it was free
  unmet : (l n : ℕ) (b : Place) → l ≤ last_own area → reach old root l n ≡ Some b → b.frame ≡ made → ⊥
  unmet l n b le is e = let u : is_frame_free free b.frame ≡ false = tree.used l n b le is in let w = was_free in let x = ap (λ f. is_frame_free free f) e in cc

  apart : table ≡ made → ⊥
  apart e = unmet 2 (above page 2) (top table) (own_table area 2 (omega arith)) met_top e

  size : length new ≡ length old
  size = ap length written ∙ (length-set filled (512 * table + index) (table_entry made) ∙ fill_size)

  page_words : (k : ℕ) → k < 512 → word_at new made k ≡ page_entry (large.frame + k) (rights_of large)
  page_words k lt =
      ap (λ w. word_at w made k) written
      ∙ (word_at_set_other filled table index (table_entry made) made k index_in lt (λ e _. apart (sym e)) ∙ fill_words k lt)

  entry_word : word_at new table (slot_of page % 512) ≡ table_entry made
  entry_word =
      ap (word_at new table) (sym entry.at_index)
      ∙ (ap (λ w. word_at w table index) written
      ∙ word_at_set_same filled table index (table_entry made) (let a = fill_size in omega arith) index_in)

  words : (f i : ℕ) → i < 512 → (f ≡ made → ⊥) → (f ≡ table → i ≡ slot_of page % 512 → ⊥) → word_at new f i ≡ word_at old f i
  words f i li nf ne =
      ap (λ w. word_at w f i) written
      ∙ (word_at_set_other filled table index (table_entry made) f i index_in li (λ e x. ne e (x ∙ entry.at_index)) ∙ fill_others f i li (λ e _. nf e))

  alone : (l n : ℕ) (b : Place) → l < 4 → reach old root l n ≡ Some b → b.frame ≡ table → (l ≡ 2) × (n ≡ above page 2)
  alone l n b lt is e = tree.distinct l n 2 (above page 2) b (top table) (own_table area l lt) (own_table area 2 (omega arith)) is met_top e

  same : (l n : ℕ) (b : Place) (j : ℕ) → l < 4 → reach old root l n ≡ Some b → j < 512 → (b.frame ≡ table → j ≡ slot_of page % 512 → ⊥) →
      word_at new b.frame j ≡ word_at old b.frame j
  same l n b j lt is lj ne = words b.frame j lj (unmet l n b (own_table area l lt) is) ne

  table_now : reach new root 3 (slot_of page) ≡ Some (top made)
  table_now = slot_table old new root page 512 table made large (omega arith) (omega arith) small made_in entry.found
      met_top size page_words entry_word same alone

  kept : (n : ℕ) → n / 512 ≡ slot_of page → reach new root 4 n ≡ Some (page_in (n % 512) large)
  kept n e =
      slot_kept old new root page 512 table made large (omega arith) (omega arith) small made_in entry.found met_top size
      page_words entry_word same alone n e (omega arith)

  -- all that is met is met as before, but for the new table
  others : (l n : ℕ) → l ≤ 4 → (l ≡ 3 → n ≡ slot_of page → ⊥) → reach new root l n ≡ reach old root l n
  others l n le away = go (cases_eq l 4) (cases_eq (n / 512) (slot_of page))
    where
      out : (l ≡ 4 → n / 512 ≡ slot_of page → ⊥) → reach new root l n ≡ reach old root l n
      out ne =
          slot_outside old new root page 512 table made large (omega arith) (omega arith) small made_in entry.found met_top
          size page_words entry_word same alone
          l n le away ne

      go : (l ≡ 4) ⊎ (l ≡ 4 → ⊥) → (n / 512 ≡ slot_of page) ⊎ (n / 512 ≡ slot_of page → ⊥) → reach new root l n ≡ reach old root l n
      go (inl x) (inl y) = rw x (kept n y ∙ sym (at_page old root page large entry.found n y))
      go (inr x) _ = out (λ e _. x e)
      go _ (inr y) = out (λ _ e. y e)

  record IsNewTable (l n : ℕ) (b : Place) : Type 0 where
    at_three : l ≡ 3
    here : n ≡ slot_of page
    is : b ≡ top made

  way : (l n : ℕ) (b : Place) → l ≤ 4 → reach new root l n ≡ Some b → IsNewTable l n b ⊎ (reach old root l n ≡ Some b)
  way l n b le now = go (cases_eq l 3) (cases_eq n (slot_of page))
    where
      three : l ≡ 3 → n ≡ slot_of page → IsNewTable l n b
      three x y =
          let t = table_now in
          let w : reach new root 3 (slot_of page) ≡ Some b = rw (← x, ← y) now in
          let q : top made ≡ b = cc in
          record { at_three = x; here = y; is = sym q }

      go : (l ≡ 3) ⊎ (l ≡ 3 → ⊥) → (n ≡ slot_of page) ⊎ (n ≡ slot_of page → ⊥) → IsNewTable l n b ⊎ (reach old root l n ≡ Some b)
      go (inl x) (inl y) = inl (three x y)
      go (inr x) _ = inr (sym (others l n le (λ e _. x e)) ∙ now)
      go _ (inr y) = inr (sym (others l n le (λ _ e. y e)) ∙ now)

  split_distinct : (l n k j : ℕ) (a b : Place) → l ≤ last_own area → k ≤ last_own area → a.frame ≡ b.frame →
      IsNewTable l n a ⊎ (reach old root l n ≡ Some a) → IsNewTable k j b ⊎ (reach old root k j ≡ Some b) → (l ≡ k) × (n ≡ j)
  split_distinct l n k j a b ll lk e (inl x) (inl y) = (x.at_three ∙ sym y.at_three, x.here ∙ sym y.here)
  split_distinct l n k j a b ll lk e (inl x) (inr y) = absurd (unmet k j b lk y (sym e ∙ ap (λ p. p.frame) x.is))
  split_distinct l n k j a b ll lk e (inr x) (inl y) = absurd (unmet l n a ll x (e ∙ ap (λ p. p.frame) y.is))
  split_distinct l n k j a b ll lk e (inr x) (inr y) = tree.distinct l n k j a b ll lk x y e

  pub split_tree : IsTreeIn area new root free'
  split_tree = record {
    rights = λ l n b lt is. rights l n b lt (way l n b (omega arith) is);
    distinct = λ l n k j a b ll lk x y e. split_distinct l n k j a b ll lk e (way l n a (own_met area l ll) x) (way k j b (own_met area k lk) y);
    used = λ l n b le is. used l n b le (way l n b (own_met area l le) is);
    inside = λ l n b lt is. within l n b lt (way l n b (omega arith) is);
    plain = record { each = λ l n i b lt li is. plain_of l n i b lt li (way l n b (omega arith) is) };
  }
    where
      rights : (l n : ℕ) (b : Place) → l < 4 → IsNewTable l n b ⊎ (reach old root l n ≡ Some b) → b ≡ top b.frame
      rights l n b lt (inl x) = rw x.is refl
      rights l n b lt (inr x) = tree.rights l n b lt x

      used : (l n : ℕ) (b : Place) → l ≤ last_own area → IsNewTable l n b ⊎ (reach old root l n ≡ Some b) → is_frame_free free' b.frame ≡ false
      used l n b le (inl x) = ap (λ p. is_frame_free free' p.frame) x.is ∙ (ap (λ q. is_frame_free q made) taken ∙ taken_flag free made was_free)
      used l n b le (inr x) = ap (λ q. is_frame_free q b.frame) taken ∙ fewer_flags free made b.frame (tree.used l n b le x)

      within : (l n : ℕ) (b : Place) → l < 4 → IsNewTable l n b ⊎ (reach old root l n ≡ Some b) → in_area area b.frame ≡ true
      within l n b lt (inl x) = ap (λ p. in_area area p.frame) x.is ∙ free_inside area free (frame_count old) known made was_free
      within l n b lt (inr x) = tree.inside l n b lt x

      stays_plain : (l n i : ℕ) (b : Place) → l < 4 → i < 512 → reach old root l n ≡ Some b → (b.frame ≡ table → i ≡ slot_of page % 512 → ⊥) →
          has_bit (word_at new b.frame i) 0 ≡ true → IsPlain new l (word_at new b.frame i)
      stays_plain l n i b lt li at ne =
          plain_kept old new l (word_at old b.frame i) (word_at new b.frame i) size (words b.frame i li (unmet l n b (own_table area l lt) at) ne)
          (tree.plain.each l n i b lt li at)

      was_there : (l n i : ℕ) (b : Place) → l < 4 → i < 512 → reach old root l n ≡ Some b → (b.frame ≡ table) ⊎ (b.frame ≡ table → ⊥) →
          (i ≡ slot_of page % 512) ⊎ (i ≡ slot_of page % 512 → ⊥) → has_bit (word_at new b.frame i) 0 ≡ true → IsPlain new l (word_at new b.frame i)
      was_there l n i b lt li at (inl x) (inl y) =
          let p = alone l n b lt at x in
          let m : made < frame_count new = let a = made_in in let s = size in omega arith in
          rw (x, y, p.0, entry_word) (λ _. plain_table new 2 made (omega arith) small m)
      was_there l n i b lt li at (inr x) _ = stays_plain l n i b lt li at (λ e _. x e)
      was_there l n i b lt li at _ (inr y) = stays_plain l n i b lt li at (λ _ e. y e)

      plain_of : (l n i : ℕ) (b : Place) → l < 4 → i < 512 → IsNewTable l n b ⊎ (reach old root l n ≡ Some b) →
          has_bit (word_at new b.frame i) 0 ≡ true → IsPlain new l (word_at new b.frame i)
      plain_of l n i b lt li (inl x) =
          let f = x.is in
          let g = x.at_three in
          rw (f, g) (slot_plain old new root page 512 table made large (omega arith) (omega arith) small made_in entry.found
          met_top size page_words entry_word same alone i li)
      plain_of l n i b lt li (inr x) = was_there l n i b lt li x (cases_eq b.frame table) (cases_eq i (slot_of page % 512))

  number : (k : ℕ) → k < 512 → (prefix_of (512 * page + k) 4 / 512 ≡ slot_of page) × (prefix_of (512 * page + k) 4 % 512 ≡ k)
  number k lt = (omega arith, omega arith)

  pub split_count : free_count free' + 1 ≡ free_count free
  split_count = ap (λ q. free_count q + 1) taken ∙ taken_count free made was_free

  pub large_split : IsLargeSplit old new free free' root page
  large_split = record {
    large = large;
    made = made;
    was = entry.found;
    size = size;
    led = λ k lt.
        let p = number k lt in
        walk_reach old root (512 * page + k)
        ∙ (at_page old root page large entry.found (prefix_of (512 * page + k) 4) p.0 ∙ ap (λ j. Some (page_in j large)) p.1);
    stays = λ k lt.
        let p = number k lt in
        walk_reach new root (512 * page + k) ∙ (kept (prefix_of (512 * page + k) 4) p.0 ∙ ap (λ j. Some (page_in j large)) p.1);
    table = table_now;
    no_large = slot_no_large old new root page 512 table made large (omega arith) (omega arith) small made_in entry.found
        met_top size page_words entry_word same alone;
    others = others;
    larges = slot_still old new root page 512 table made large (omega arith) (omega arith) small made_in entry.found met_top
        size page_words entry_word same alone;
    was_free = was_free;
    lowest = lowest;
    taken = taken;
    count = split_count;
    page_words = page_words;
    entry = λ at is.
        let q : Some at ≡ Some (top table) = sym is ∙ met_top in
        let r : at ≡ top table = cc in
        ap (λ f. word_at new f (slot_of page % 512)) (ap (λ p. p.frame) r) ∙ entry_word;
    words = λ f i li ne away. words f i li ne (λ e x. away (top table) met_top e x);
  }

  -- every page leads where it led
  pub split_walk : (other : ℕ) → walk_of new root other ≡ walk_of old root other
  split_walk other =
      walk_reach new root other ∙ (others 4 (prefix_of other 4) (omega arith) (λ e _. absurd (omega arith)) ∙ sym (walk_reach old root other))

  -- and no byte of any page is changed
  pub split_bytes : KeepsBytes area old new root
  split_bytes = bytes_kept area old new root (λ address beside. byte address beside (some_or_none (walk_of old root (address / 4096))))
    where
      byte : (address : ℕ) → IsBeside area old root (address / 4096) →
          ((was : Place) × (walk_of old root (address / 4096) ≡ Some was)) ⊎ (walk_of old root (address / 4096) ≡ None) →
          reached new root address ≡ reached old root address
      byte address beside (inl p) =
          same_byte old new root address p.0 p.0 p.1 (split_walk (address / 4096) ∙ p.1) refl
          (words p.0.frame (address % 4096 / 8) (omega arith)
          (beside_free area old root free (address / 4096) p.0 (frame_count old) made tree known p.1 beside was_free)
          (λ e _. beside_table area old root free (address / 4096) p.0 tree p.1 beside 2 (above page 2) (top table) (omega arith) met_top e))
      byte address beside (inr none) = let e : walk_of new root (address / 4096) ≡ None = split_walk (address / 4096) ∙ none in rw (none, e) refl

  pub split_known : FreeIn area free' (frame_count new)
  split_known =
      let s = size in
      free_stays area free free' (frame_count old) (frame_count new) known (omega arith) (λ f e. ap (λ q. is_frame_free q f) taken ∙ fewer_flags free made f e)
