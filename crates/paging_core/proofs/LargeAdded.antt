-- A slot is mapped by one entry.
use Rattle.std.proofs.Common.{◌≡◌, ℕ, ◌^◌, ◌+◌, ◌-◌, ◌*◌, ◌/◌, ◌%◌, ◌<◌, ◌≤◌, Bool, true, false, ltb, List, length, set, Some, None, refl, sym, ap, ◌∙◌, ◌⊎◌, inl, inr, arith, length-set}
use Rattle.std.proofs.lemmas.Bool.{cases_eq, cases_lt, lt-ltb}
use Rattle.paging_core.specs.Entry.{has_bit, table_entry, large_entry}
use Rattle.paging_core.specs.Area.{Area, Whole}
use Rattle.paging_core.specs.Memory.{word_at, frame_count}
use Rattle.paging_core.specs.Prefix.{prefix_of}
use Rattle.paging_core.specs.Walk.{Place, large_step, reach, large_of, top, walk_of, reached, place_with}
use Rattle.paging_core.specs.Pool.{is_frame_free}
use Rattle.paging_core.specs.Tree.{IsTreeIn, last_own}
use Rattle.paging_core.specs.Tables.{IsPrepared}
use Rattle.paging_core.specs.Large.{slot_of, above, IsSlotEmpty, IsLargeAdded}
use Rattle.paging_core.specs.declared.page_table.PageBits.{PageBits}
use Rattle.paging_core.specs.Address.{is_canonical}
use Rattle.std.specs.Prelude.{IsTrue, IsSome}
use Rattle.paging_core.specs.Plain.{IsPlain}
use Rattle.paging_core.proofs.PageWords.{large_bits}
use Rattle.paging_core.proofs.Plain.{plain_kept, plain_large}
use Rattle.paging_core.proofs.PageWritten.{same_byte}
use Rattle.paging_core.proofs.PageChanged.{some_place}
use Rattle.paging_core.proofs.Ranges.{same_number}
use Rattle.paging_core.proofs.Reach.{large_no_table, reach_in}
use Rattle.paging_core.proofs.Slot.{slot_there, slot_large, slot_larges, slot_others}
use Rattle.paging_core.proofs.Words.{word_at_set_same, word_at_set_other}
use Rattle.paging_core.proofs.Prefixes.{prefix_more, prefix_split, walk_reach, none_below}
use Rattle.paging_core.proofs.Made.{reach_below}
use Rattle.paging_core.proofs.LastEntry.{not_not, some_or_none}
use Rattle.paging_core.proofs.Areas.{own_met, own_table, own_whole, beside_table, beside_moved, bytes_kept_of}
use Rattle.paging_core.specs.Outcomes.{IsBeside, KeepsBytesOf}

pub step_large : (words : List ℕ) (t j frame : ℕ) (rights : PageBits) → frame < 2 ^ 40 → frame % 512 ≡ 0 → frame + 511 < frame_count words →
    word_at words t j ≡ large_entry frame rights → large_step words (top t) j ≡ Some (place_with frame rights)
unfolding large_step
step_large words t j frame rights small aligned within e =
    let p : ltb frame (frame_count words) ≡ true = lt-ltb frame (frame_count words) (omega arith) in
    let q : ltb (frame + 511) (frame_count words) ≡ true = lt-ltb (frame + 511) (frame_count words) within in
    let is = large_bits frame small rights in
    rw (e, is.names, is.present, is.writable, is.usable, is.bit_7, is.executable, is.through, is.uncached, is.global, p, q, aligned, not_not) refl

module _ {area : Area} (old mid new : List ℕ) (free free' : List Bool) (root page table index frame : ℕ) (rights : PageBits)
    (root_in : root < frame_count old)
    (empty : IsSlotEmpty old root page)
    (small : 512 * frame < 2 ^ 40)
    (frame_in : 512 * frame + 511 < frame_count old)
    (used : area ≡ Whole → (k : ℕ) → k < 512 → is_frame_free free (512 * frame + k) ≡ false)
    (unmet : area ≡ Whole → (k l n : ℕ) (b : Place) → k < 512 → l ≤ 4 → reach old root l n ≡ Some b → b.frame ≡ 512 * frame + k → ⊥)
    (ix : index ≡ prefix_of (512 * page) 3 % 512)
    (tree : IsTreeIn area mid root free')
    (met : reach mid root 2 (above page 2) ≡ Some (top table))
    (prepared : IsPrepared old mid free free' root (512 * page) 2)
    (written : new ≡ set mid (512 * table + index) (large_entry (512 * frame) rights)) where
  slot : above page 3 ≡ slot_of page
  slot = omega arith

  index_in : index < 512
  index_in = omega arith

  place : 512 * above page 2 + index ≡ slot_of page
  place = let m = prefix_more (512 * page) 2 (omega arith) in let s = slot in omega arith

  at_index : index ≡ slot_of page % 512
  at_index = ix ∙ ap (λ n. n % 512) slot

  size : length new ≡ length mid
  size = rw written (length-set mid (512 * table + index) (large_entry (512 * frame) rights))

  table_in : table < frame_count mid
  table_in = let s = prepared.size in reach_below mid root 2 (above page 2) (top table) (omega arith) (omega arith) met

  word_stays : (f i : ℕ) → i < 512 → (f ≡ table → i ≡ index → ⊥) → word_at new f i ≡ word_at mid f i
  word_stays f i li ne = ap (λ w. word_at w f i) written ∙ word_at_set_other mid table index (large_entry (512 * frame) rights) f i index_in li ne

  written_here : word_at new table index ≡ large_entry (512 * frame) rights
  written_here = ap (λ w. word_at w table index) written ∙ word_at_set_same mid table index (large_entry (512 * frame) rights) table_in index_in

  alone : (l n : ℕ) (b : Place) → l < 4 → reach mid root l n ≡ Some b → b.frame ≡ table → (l ≡ 2) × (n ≡ above page 2)
  alone l n b lt is e = tree.distinct l n 2 (above page 2) b (top table) (own_table area l lt) (own_table area 2 (omega arith)) is met e

  same : (l n : ℕ) (b : Place) (j : ℕ) → l < 4 → reach mid root l n ≡ Some b → j < 512 → (b.frame ≡ table → j ≡ index → ⊥) →
      word_at new b.frame j ≡ word_at mid b.frame j
  same l n b j lt is lj ne = word_stays b.frame j lj ne

  now_step : large_step new (top table) index ≡ Some (place_with (512 * frame) rights)
  now_step =
      step_large new table index (512 * frame) rights small (omega arith) (let a = size in let b = prepared.size in omega arith) written_here

  now_large : large_of new root (slot_of page) ≡ Some (place_with (512 * frame) rights)
  now_large = ap (large_of new root) (sym place) ∙ (slot_large mid new root (above page 2) index (top table) index_in size met same alone ∙ now_step)

  no_table_now : reach new root 3 (slot_of page) ≡ None
  no_table_now =
      ap (reach new root 3) (sym place)
      ∙ (slot_there mid new root (above page 2) index (top table) index_in size met same alone
      ∙ large_no_table new (top table) (place_with (512 * frame) rights) index now_step)

  no_table_mid : reach mid root 3 (slot_of page) ≡ None
  no_table_mid = prepared.others 3 (slot_of page) (omega arith) (λ le _. absurd (omega arith)) ∙ empty.no_table

  low : (l n : ℕ) → l < 4 → reach new root l n ≡ reach mid root l n
  low l n lt = go (cases_eq l 3) (cases_eq n (slot_of page))
    where
      out : (l ≡ 3 → n ≡ slot_of page → ⊥) → reach new root l n ≡ reach mid root l n
      out ne =
          slot_others mid new root (above page 2) index (top table) index_in size met same alone l n (omega arith)
          (λ x y. ne x (y ∙ place)) (λ x _. absurd (omega arith))

      go : (l ≡ 3) ⊎ (l ≡ 3 → ⊥) → (n ≡ slot_of page) ⊎ (n ≡ slot_of page → ⊥) → reach new root l n ≡ reach mid root l n
      go (inl x) (inl y) = rw (x, y) (no_table_now ∙ sym no_table_mid)
      go (inr x) _ = out (λ e _. x e)
      go _ (inr y) = out (λ _ e. y e)

  outside : (l n : ℕ) → l ≤ 4 → (l ≡ 4 → n / 512 ≡ slot_of page → ⊥) → reach new root l n ≡ reach mid root l n
  outside l n le ne = go (cases_eq l 4)
    where
      go : (l ≡ 4) ⊎ (l ≡ 4 → ⊥) → reach new root l n ≡ reach mid root l n
      go (inr x) = low l n (omega arith)
      go (inl x) =
          slot_others mid new root (above page 2) index (top table) index_in size met same alone l n le
          (λ y _. absurd (omega arith)) (λ y z. ne y (z ∙ place))

  -- the pages of the slot
  inside : (n : ℕ) → n / 512 ≡ slot_of page → reach new root 4 n ≡ Some (place_with (512 * frame + n % 512) rights)
  inside n e = reach_in new root n (place_with (512 * frame) rights) (ap (large_of new root) e ∙ now_large)

  was_none : (n : ℕ) → n / 512 ≡ slot_of page → reach old root 4 n ≡ None
  was_none n e =
      let p : n ≡ prefix_of (512 * page + n % 512) 4 = omega arith in
      ap (reach old root 4) p ∙ (sym (walk_reach old root (512 * page + n % 512)) ∙ empty.unmapped (n % 512) (omega arith))

  fresh : area ≡ Whole → (k l n : ℕ) (b : Place) → k < 512 → l ≤ 4 → reach mid root l n ≡ Some b → b.frame ≡ 512 * frame + k → ⊥
  fresh whole k l n b lk le now e = go (cases_eq n (above page l)) (cases_lt 2 l)
    where
      here_of : (n ≡ above page l) → l ≤ 2 → ((x : Place) × (reach old root l (above page l) ≡ Some x)) ⊎ (reach old root l (above page l) ≡ None) → ⊥
      here_of x lo (inl p) =
          let s = prepared.stayed l p.0 le p.1 in
          let w : reach mid root l (above page l) ≡ Some b = rw (← x) now in
          let q : p.0 ≡ b = cc in
          unmet whole k l (above page l) b lk le (p.1 ∙ ap Some q) e
      here_of x lo (inr p) =
          let w : reach mid root l (above page l) ≡ Some b = rw (← x) now in
          let f : is_frame_free free b.frame ≡ true = prepared.made l b lo p w in
          let g = ap (is_frame_free free) e in
          let u = used whole k lk in cc

      go : (n ≡ above page l) ⊎ (n ≡ above page l → ⊥) → (2 < l) ⊎ (l ≤ 2) → ⊥
      go (inl x) (inr lo) = here_of x lo (some_or_none (reach old root l (above page l)))
      go (inr x) _ = unmet whole k l n b lk le (sym (prepared.others l n le (λ _ y. x y)) ∙ now) e
      go _ (inl hi) = unmet whole k l n b lk le (sym (prepared.others l n le (λ lo _. absurd (omega arith))) ∙ now) e

  -- what the new walk meets is a page of the slot, or was met before
  record IsInside (l n : ℕ) (b : Place) : Type 0 where
    at_four : l ≡ 4
    in_slot : n / 512 ≡ slot_of page
    framed : b.frame ≡ 512 * frame + n % 512

  met_now : (l n : ℕ) (b : Place) → l ≤ 4 → reach new root l n ≡ Some b → IsInside l n b ⊎ (reach mid root l n ≡ Some b)
  met_now l n b le is = go (cases_eq l 4) (cases_eq (n / 512) (slot_of page))
    where
      go : (l ≡ 4) ⊎ (l ≡ 4 → ⊥) → (n / 512 ≡ slot_of page) ⊎ (n / 512 ≡ slot_of page → ⊥) → IsInside l n b ⊎ (reach mid root l n ≡ Some b)
      go (inl x) (inl y) =
          let i = inside n y in
          let w : reach new root 4 n ≡ Some b = rw (← x) is in
          let q : place_with (512 * frame + n % 512) rights ≡ b = cc in
          inl (record { at_four = x; in_slot = y; framed = sym (ap (λ p. p.frame) q) })
      go (inr x) _ = inr (sym (outside l n le (λ e _. x e)) ∙ is)
      go _ (inr y) = inr (sym (outside l n le (λ _ e. y e)) ∙ is)

  pub large_tree : IsTreeIn area new root free'
  large_tree = record {
    rights = λ l n b lt is. tree.rights l n b lt (sym (low l n lt) ∙ is);
    distinct = λ l n k j a b ll lk x y e.
        distinct_of l n k j a b ll lk e (met_now l n a (own_met area l ll) x) (met_now k j b (own_met area k lk) y);
    used = λ l n b le is. used_of l n b le (met_now l n b (own_met area l le) is);
    inside = λ l n b lt is. tree.inside l n b lt (sym (low l n lt) ∙ is);
    plain = record { each = λ l n i b lt li is. plain_of l n i b lt li (sym (low l n lt) ∙ is) (cases_eq b.frame table) (cases_eq i index) };
  }
    where
      kept : (l n i : ℕ) (b : Place) → l < 4 → i < 512 → reach mid root l n ≡ Some b → (b.frame ≡ table → i ≡ index → ⊥) →
          has_bit (word_at new b.frame i) 0 ≡ true → IsPlain new l (word_at new b.frame i)
      kept l n i b lt li is ne = plain_kept mid new l (word_at mid b.frame i) (word_at new b.frame i) size
          (word_stays b.frame i li ne) (tree.plain.each l n i b lt li is)

      plain_of : (l n i : ℕ) (b : Place) → l < 4 → i < 512 → reach mid root l n ≡ Some b → (b.frame ≡ table) ⊎ (b.frame ≡ table → ⊥) →
          (i ≡ index) ⊎ (i ≡ index → ⊥) → has_bit (word_at new b.frame i) 0 ≡ true → IsPlain new l (word_at new b.frame i)
      plain_of l n i b lt li is (inl x) (inl y) =
          let p = alone l n b lt is x in
          rw (x, y, p.0, written_here)
          (λ _. plain_large new (512 * frame) rights small (omega arith) (let a = size in let b = prepared.size in omega arith))
      plain_of l n i b lt li is (inr x) _ = kept l n i b lt li is (λ e _. x e)
      plain_of l n i b lt li is _ (inr y) = kept l n i b lt li is (λ _ e. y e)

      used_of : (l n : ℕ) (b : Place) → l ≤ last_own area → IsInside l n b ⊎ (reach mid root l n ≡ Some b) → is_frame_free free' b.frame ≡ false
      used_of l n b le (inl x) =
          let whole = own_whole area (rw x.at_four at le) in
          prepared.fewer b.frame (ap (is_frame_free free) x.framed ∙ used whole (n % 512) (omega arith))
      used_of l n b le (inr x) = tree.used l n b le x

      distinct_of : (l n k j : ℕ) (a b : Place) → l ≤ last_own area → k ≤ last_own area → a.frame ≡ b.frame →
          IsInside l n a ⊎ (reach mid root l n ≡ Some a) → IsInside k j b ⊎ (reach mid root k j ≡ Some b) → (l ≡ k) × (n ≡ j)
      distinct_of l n k j a b ll lk e (inl x) (inl y) = (
        x.at_four ∙ sym y.at_four,
        (let p = x.in_slot in let q = y.in_slot in let r = x.framed in let s = y.framed in omega arith),
      )
      distinct_of l n k j a b ll lk e (inl x) (inr y) =
          absurd (fresh (own_whole area (rw x.at_four at ll)) (n % 512) k j b (omega arith) (own_met area k lk) y (sym e ∙ x.framed))
      distinct_of l n k j a b ll lk e (inr x) (inl y) =
          absurd (fresh (own_whole area (rw y.at_four at lk)) (j % 512) l n a (omega arith) (own_met area l ll) x (e ∙ y.framed))
      distinct_of l n k j a b ll lk e (inr x) (inr y) = tree.distinct l n k j a b ll lk x y e

  -- each table above the slot is there
  made_of : (l : ℕ) → l < 3 → reach old root l (above page l) ≡ None →
      ((b : Place) × (reach mid root l (above page l) ≡ Some b)) ⊎ (reach mid root l (above page l) ≡ None) →
      (f : ℕ) × (reach new root l (above page l) ≡ Some (top f)) × (is_frame_free free f ≡ true)
  made_of l lt none (inl p) =
      let r : p.0 ≡ top p.0.frame = tree.rights l (above page l) p.0 (omega arith) p.1 in
      (p.0.frame, low l (above page l) (omega arith) ∙ (p.1 ∙ ap Some r), prepared.made l p.0 (omega arith) none p.1)
  made_of l lt none (inr e) =
      let z : l + (2 - l) ≡ 2 = omega arith in
      let h = none_below mid root (512 * page) l (2 - l) (omega arith) e in
      let x : reach mid root 2 (above page 2) ≡ None = rw z at h in
      absurd (cc)

  others : (l n : ℕ) → l ≤ 4 → (l < 3 → n ≡ above page l → ⊥) → (l ≡ 4 → n / 512 ≡ slot_of page → ⊥) → reach new root l n ≡ reach old root l n
  others l n le ne out = outside l n le out ∙ prepared.others l n le (λ lo y. ne (omega arith) y)

  stayed : (l n : ℕ) (b : Place) → l ≤ 4 → reach old root l n ≡ Some b → reach new root l n ≡ Some b
  stayed l n b le was = go (cases_eq l 4) (cases_eq (n / 512) (slot_of page))
    where
      before : (n ≡ above page l) ⊎ (n ≡ above page l → ⊥) → reach mid root l n ≡ Some b
      before (inl x) = rw x (prepared.stayed l b le (rw (← x) was))
      before (inr x) = prepared.others l n le (λ _ y. x y) ∙ was

      go : (l ≡ 4) ⊎ (l ≡ 4 → ⊥) → (n / 512 ≡ slot_of page) ⊎ (n / 512 ≡ slot_of page → ⊥) → reach new root l n ≡ Some b
      go (inl x) (inl y) = let z = was_none n y in let w : reach old root 4 n ≡ Some b = rw (← x) was in absurd (cc)
      go (inr x) _ = outside l n le (λ e _. x e) ∙ before (cases_eq n (above page l))
      go _ (inr y) = outside l n le (λ _ e. y e) ∙ before (cases_eq n (above page l))

  words_of : (f i : ℕ) → i < 512 → ((l : ℕ) → l < 3 → reach new root l (above page l) ≡ Some (top f) → ⊥) → word_at new f i ≡ word_at old f i
  words_of f i li ne =
      word_stays f i li (λ e _. ne 2 (omega arith) (low 2 (above page 2) (omega arith) ∙ (met ∙ ap (λ k. Some (top k)) (sym e))))
      ∙ prepared.words f i li (λ l lt x. go l lt x (cases_eq l 3))
    where
      go : (l : ℕ) → l < 4 → reach mid root l (above page l) ≡ Some (top f) → (l ≡ 3) ⊎ (l ≡ 3 → ⊥) → ⊥
      go l lt x (inr y) = ne l (omega arith) (low l (above page l) lt ∙ x)
      go l lt x (inl y) =
          let z : reach mid root 3 (above page 3) ≡ Some (top f) = ap (λ k. reach mid root k (above page k)) (sym y) ∙ x in
          let w : reach mid root 3 (above page 3) ≡ None = ap (reach mid root 3) slot ∙ no_table_mid in
          cc

  -- ---- the words, level by level

  here_only : (l f : ℕ) → l < 4 → reach mid root l (above page l) ≡ Some (top f) → f ≡ table → l ≡ 2
  here_only l f lt now e = (alone l (above page l) (top f) lt now e).0

  at_old_table : (l f i : ℕ) → l < 4 → reach old root l (above page l) ≡ Some (top f) → i < 512 → (i ≡ above page (l + 1) % 512 → ⊥) →
      word_at new f i ≡ word_at old f i
  at_old_table l f i lt was li ne =
      let now = prepared.stayed l (top f) (omega arith) was in
      word_stays f i li (λ e x. ne (x ∙ (ix ∙ ap (λ k. above page (k + 1) % 512) (sym (here_only l f lt now e)))))
      ∙ prepared.old_table l f i lt was li (λ _ x. ne x)

  at_old_entry : (l f : ℕ) (next : Place) → l < 2 → reach old root l (above page l) ≡ Some (top f) →
      reach old root (l + 1) (above page (l + 1)) ≡ Some next →
      word_at new f (above page (l + 1) % 512) ≡ word_at old f (above page (l + 1) % 512)
  at_old_entry l f next lt was on =
      let now = prepared.stayed l (top f) (omega arith) was in
      word_stays f (above page (l + 1) % 512) (omega arith) (λ e _. let z = here_only l f (omega arith) now e in absurd (omega arith))
      ∙ prepared.old_entry l f next (omega arith) was on

  -- what was not met and is met now at a table is one above the slot
  only_above : (l n : ℕ) (m : Place) → l < 4 → reach old root l n ≡ None → reach new root l n ≡ Some m → (l < 3) × (n ≡ above page l)
  only_above l n m lt none now = go (cases_lt l 3) (cases_eq n (above page l))
    where
      go : (l < 3) ⊎ (3 ≤ l) → (n ≡ above page l) ⊎ (n ≡ above page l → ⊥) → (l < 3) × (n ≡ above page l)
      go (inl x) (inl y) = (x, y)
      go (inr x) _ = let o = others l n (omega arith) (λ z _. absurd (omega arith)) (λ z _. absurd (omega arith)) in absurd (cc)
      go _ (inr y) = let o = others l n (omega arith) (λ _ z. y z) (λ z _. absurd (omega arith)) in absurd (cc)

  met_above : (l : ℕ) → l < 2 → (m : Place) × (reach new root (l + 1) (above page (l + 1)) ≡ Some m)
  met_above l lt = go (some_or_none (reach old root (l + 1) (above page (l + 1))))
    where
      go : ((m : Place) × (reach old root (l + 1) (above page (l + 1)) ≡ Some m)) ⊎ (reach old root (l + 1) (above page (l + 1)) ≡ None) →
          (m : Place) × (reach new root (l + 1) (above page (l + 1)) ≡ Some m)
      go (inl p) = (p.0, stayed (l + 1) (above page (l + 1)) p.0 (omega arith) p.1)
      go (inr none) =
          let t = made_of (l + 1) (omega arith) none (some_or_none (reach mid root (l + 1) (above page (l + 1)))) in (top t.0, t.1)

  on : (l n i : ℕ) → l < 4 → n ≡ above page l → i ≡ above page (l + 1) % 512 → 512 * n + i ≡ above page (l + 1)
  on l n i lt x y = let p = prefix_more (512 * page) l lt in omega arith

  old_words : (l n f i : ℕ) → l < 4 → i < 512 → reach old root l n ≡ Some (top f) →
      reach new root (l + 1) (512 * n + i) ≡ reach old root (l + 1) (512 * n + i) → (l ≡ 2 → 512 * n + i ≡ slot_of page → ⊥) → word_at new f i ≡ word_at old f i
  old_words l n f i lt li was keeps out = go (cases_eq n (above page l)) (cases_eq i (above page (l + 1) % 512))
    where
      entry : n ≡ above page l → i ≡ above page (l + 1) % 512 → (l < 2) ⊎ (2 ≤ l) → (l ≡ 2) ⊎ (l ≡ 2 → ⊥) →
          ((m : Place) × (reach old root (l + 1) (above page (l + 1)) ≡ Some m)) ⊎ (reach old root (l + 1) (above page (l + 1)) ≡ None) →
          word_at new f i ≡ word_at old f i
      entry x y (inl lo) _ (inl p) = rw y (at_old_entry l f p.0 lo (rw (← x) was) p.1)
      entry x y (inl lo) _ (inr none) =
          let t = met_above l lo in
          let k : reach new root (l + 1) (above page (l + 1)) ≡ reach old root (l + 1) (above page (l + 1)) = rw (← on l n i lt x y) keeps in
          absurd (cc)
      entry x y (inr hi) (inl two) _ = absurd (out two (on l n i lt x y ∙ (ap (λ k. above page (k + 1)) two ∙ slot)))
      entry x y (inr hi) (inr ne) _ =
          let e : l ≡ 3 = omega arith in
          let w : reach old root 3 (slot_of page) ≡ Some (top f) =
          ap (reach old root 3) (sym slot) ∙ (ap (λ k. reach old root k (above page k)) (sym e) ∙ (ap (reach old root l) (sym x) ∙ was)) in
          let z = empty.no_table in absurd (cc)

      go : (n ≡ above page l) ⊎ (n ≡ above page l → ⊥) → (i ≡ above page (l + 1) % 512) ⊎ (i ≡ above page (l + 1) % 512 → ⊥) →
          word_at new f i ≡ word_at old f i
      go (inl x) (inr ne) = at_old_table l f i lt (rw (← x) was) li ne
      go (inl x) (inl y) = entry x y (cases_lt l 2) (cases_eq l 2) (some_or_none (reach old root (l + 1) (above page (l + 1))))
      go (inr ne) _ =
          words_of f i li
          (λ k lk now. let p : (l ≡ k) × (n ≡ above page k) =
          large_tree.distinct l n k (above page k) (top f) (top f) (own_table area l (omega arith)) (own_table area k (omega arith))
          (stayed l n (top f) (omega arith) was) now refl in
          ne (p.1 ∙ ap (above page) (sym p.0)))

  blank : (l n f i : ℕ) → l < 4 → i < 512 → reach old root l n ≡ None → reach new root l n ≡ Some (top f) →
      reach new root (l + 1) (512 * n + i) ≡ None → (l ≡ 2 → 512 * n + i ≡ slot_of page → ⊥) → word_at new f i ≡ 0
  blank l n f i lt li none now gone out =
      let x = only_above l n (top f) lt none now in
      let w : reach mid root l (above page l) ≡ Some (top f) = sym (low l (above page l) lt) ∙ rw (← x.1) now in
      let z : reach old root l (above page l) ≡ None = rw (← x.1) none in
      word_stays f i li (λ e y. apart x.0 x.1 (y ∙ (ix ∙ ap (λ k. above page (k + 1) % 512) (sym (here_only l f lt w e)))) (cases_lt l 2))
      ∙ prepared.blank l f i (omega arith) z w li (λ _ y. apart x.0 x.1 y (cases_lt l 2))
    where
      apart : l < 3 → n ≡ above page l → i ≡ above page (l + 1) % 512 → (l < 2) ⊎ (2 ≤ l) → ⊥
      apart low_l x y (inl lo) =
          let t = met_above l lo in
          let k : reach new root (l + 1) (above page (l + 1)) ≡ None = rw (← on l n i lt x y) gone in
          cc
      apart low_l x y (inr hi) =
          let two : l ≡ 2 = omega arith in
          out two (on l n i lt x y ∙ (ap (λ k. above page (k + 1)) two ∙ slot))

  table_words : (l n f i made : ℕ) → l < 3 → i < 512 → reach new root l n ≡ Some (top f) → reach old root (l + 1) (512 * n + i) ≡ None →
      reach new root (l + 1) (512 * n + i) ≡ Some (top made) → word_at new f i ≡ table_entry made
  table_words l n f i made lt li here none now =
      let x = only_above (l + 1) (512 * n + i) (top made) (omega arith) none now in
      let p = prefix_split (512 * page) l n i (omega arith) li x.1 in
      let w : reach mid root l (above page l) ≡ Some (top f) = sym (low l (above page l) (omega arith)) ∙ rw (← p.0) here in
      let z : reach old root (l + 1) (above page (l + 1)) ≡ None = rw (← x.1) none in
      let v : reach mid root (l + 1) (above page (l + 1)) ≡ Some (top made) = sym (low (l + 1) (above page (l + 1)) (omega arith)) ∙ rw (← x.1) now in
      let two : l + 1 < 3 = x.0 in
      rw p.1
      (word_stays f (above page (l + 1) % 512) (omega arith) (λ e _. let y = here_only l f (omega arith) w e in absurd (omega arith))
      ∙ prepared.table_word l f made (omega arith) w z v)

  large_word : (f : ℕ) → reach new root 2 (above page 2) ≡ Some (top f) → word_at new f (slot_of page % 512) ≡ large_entry (512 * frame) rights
  large_word f here =
      let w : reach mid root 2 (above page 2) ≡ Some (top f) = sym (low 2 (above page 2) (omega arith)) ∙ here in
      let fa : top f ≡ top table = cc in
      let ft : f ≡ table = ap (λ p. p.frame) fa in
      rw (ft, ← at_index) written_here

  pub large_added : IsLargeAdded old new free free' root page frame rights
  large_added = record {
    size = size ∙ prepared.size;
    flags = prepared.flags;
    there = λ k lt.
        let p : prefix_of (512 * page + k) 4 / 512 ≡ slot_of page = omega arith in
        let q : prefix_of (512 * page + k) 4 % 512 ≡ k = omega arith in
        walk_reach new root (512 * page + k) ∙ (inside (prefix_of (512 * page + k) 4) p ∙ ap (λ j. Some (place_with (512 * frame + j) rights)) q);
    large = now_large;
    pages = λ other ne.
        let p : prefix_of other 4 / 512 ≡ other / 512 % 2 ^ 27 = omega arith in
        walk_reach new root other
        ∙ (others 4 (prefix_of other 4) (omega arith) (λ lo _. absurd (omega arith)) (λ _ e. ne (sym p ∙ e)) ∙ sym (walk_reach old root other));
    others = others;
    larges = λ n ne. slot_larges mid new root (above page 2) index (top table) index_in size met same alone n (λ e. ne (e ∙ place)) ∙ prepared.larges n;
    stayed = stayed;
    made = λ l lt none. made_of l lt none (some_or_none (reach mid root l (above page l)));
    fewer = prepared.fewer;
    lowest = prepared.lowest;
    kept = λ f e ne. prepared.kept f e (λ l le x. ne l (omega arith) (low l (above page l) (omega arith) ∙ x));
    count = let c = prepared.count in omega arith;
    words = words_of;
    entries = record { old_words = old_words; blank = blank; table_words = table_words; large_word = large_word };
  }

  -- no byte of a page that was mapped is changed
  large_byte : (address : ℕ) → IsSome (walk_of old root (address / 4096)) → IsBeside area old root (address / 4096) →
      reached new root address ≡ reached old root address
  large_byte address is beside =
      let p = some_place (walk_of old root (address / 4096)) is in
      let was : reach old root 4 (prefix_of (address / 4096) 4) ≡ Some p.0 = sym (walk_reach old root (address / 4096)) ∙ p.1 in
      let now : reach new root 4 (prefix_of (address / 4096) 4) ≡ Some p.0 = stayed 4 (prefix_of (address / 4096) 4) p.0 (omega arith) was in
      let there : walk_of new root (address / 4096) ≡ Some p.0 = walk_reach new root (address / 4096) ∙ now in
      same_byte old new root address p.0 p.0 p.1 there refl
      (words_of p.0.frame (address % 4096 / 8) (omega arith)
      (λ l lt here. beside_table area new root free' (address / 4096) p.0 large_tree there
      (beside_moved area old new root (address / 4096) (there ∙ sym p.1) beside) l (above page l) (top p.0.frame) (omega arith) here refl))

  pub large_bytes : KeepsBytesOf area (λ at. IsSome (walk_of old root at)) old new root
  large_bytes = bytes_kept_of area (λ at. IsSome (walk_of old root at)) old new root large_byte

-- a slot is distinguished from others by its indices
pub same_slot : (other page : ℕ) → IsTrue (is_canonical (other * 4096)) → IsTrue (is_canonical (512 * page * 4096)) →
    other / 512 % 2 ^ 27 ≡ slot_of page → other / 512 ≡ page
same_slot other page co cp e =
    let f : (512 * page + other % 512) * 4096 / 2 ^ 47 ≡ 512 * page * 4096 / 2 ^ 47 = omega arith in
    let c : IsTrue (is_canonical ((512 * page + other % 512) * 4096)) = rw f cp in
    let g : other ≡ 512 * page + other % 512 = same_number other (512 * page + other % 512) co c (omega arith) in
    omega arith
