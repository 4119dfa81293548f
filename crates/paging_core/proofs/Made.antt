-- A table that is made at an entry adds one place to the tree.
use Rattle.std.proofs.Common.{◌≡◌, ℕ, zero, suc, ◌+◌, ◌*◌, ◌/◌, ◌%◌, ◌^◌, ◌<◌, ◌≤◌, Bool, true, false, not, ◌&&◌, cond, ltb, eqb, List, [], ◌∷◌, length, set, Option, Some, None, refl, sym, ap, ◌∙◌, ◌⊎◌, inl, inr, arith, length-set}
use Rattle.std.proofs.lemmas.Bool.{cases_eq, cases_Bool, ltb-true, eqb-true, lt-ltb, and_parts, cases_lt}
use Rattle.std.proofs.lemmas.Bool.Decides.{nat_tests}
use Rattle.std.proofs.Math.Bool.{and-false}
use Rattle.std.proofs.lemmas.List.{get_or-set_same, get_or-set_other, get_or_past}
use Rattle.paging_core.specs.Entry.{has_bit, frame_of, table_entry}
use Rattle.paging_core.specs.Area.{Area, in_area}
use Rattle.paging_core.specs.Memory.{word_at, frame_count, cleared}
use Rattle.paging_core.specs.Walk.{Place, step, large_step, large_of, large_from, reach, next_from, top, is_present, is_run, ends_walk, named}
use Rattle.paging_core.specs.Tree.{IsTreeIn, last_own}
use Rattle.paging_core.specs.Pool.{is_frame_free, free_count, FreeBelow, AreLowestTaken}
use Rattle.paging_core.specs.Tables.{IsTableMade}
use Rattle.std.proofs.lemmas.List.Sums.{sum_by-set}
use Rattle.paging_core.proofs.Reach.{step_same, large_same, reach_same, larges_same, reach_zero, reach_suc, large_is, either_way, ByEntry, InLarge}
use Rattle.paging_core.proofs.Words.{length_cleared, word_at_cleared_same, word_at_cleared_other, word_at_set_same, word_at_set_other}
use Rattle.paging_core.proofs.Plain.{plain_kept, plain_table}
use Rattle.paging_core.proofs.Link.{IsLink, link_there, link_others, link_larges, tree_link}
use Rattle.paging_core.proofs.Areas.{own_met, own_table}

-- ---- one step

table_bits : (f : ℕ) → f < 2 ^ 40 →
    (frame_of (table_entry f) ≡ f) × (has_bit (table_entry f) 0 ≡ true) × (has_bit (table_entry f) 1 ≡ true) × (has_bit
    (table_entry f) 2 ≡ true) × (has_bit (table_entry f) 63 ≡ false) × (has_bit (table_entry f) 3 ≡ false) × (has_bit (table_entry f) 4 ≡ false)
    × (has_bit (table_entry f) 8 ≡ false)
table_bits f lt = (
  omega arith,
  grind (arith, nat_tests),
  grind (arith, nat_tests),
  grind (arith, nat_tests),
  grind (arith, nat_tests),
  grind (arith, nat_tests),
  grind (arith, nat_tests),
  grind (arith, nat_tests),
)

table_small : (f : ℕ) → f < 2 ^ 40 → has_bit (table_entry f) 7 ≡ false
table_small f lt = grind (arith, nat_tests)

pub step_table : (words : List ℕ) (level t j f : ℕ) → f < 2 ^ 40 → f < frame_count words → word_at words t j ≡ table_entry f →
    step words level (top t) j ≡ Some (top f)
unfolding step
step_table words level t j f lt within e =
    let b = table_bits f lt in
    let p : ltb f (frame_count words) ≡ true = lt-ltb f (frame_count words) within in
    let s = table_small f lt in
    rw (e, b.0, b.1, b.2, b.3, b.4, b.5, b.6, b.7, s, p, and-false) refl

-- an entry that names a table maps no large page
pub large_table : (words : List ℕ) (t j f : ℕ) → f < 2 ^ 40 → word_at words t j ≡ table_entry f → large_step words (top t) j ≡ None
unfolding large_step
large_table words t j f lt e = let s = table_small f lt in rw (e, s, and-false) refl

pub some_of_cond : {A : Type 0} (c : Bool) (x y : A) → cond c (Some x) None ≡ Some y → (c ≡ true) × (x ≡ y)
some_of_cond true x y e = (refl, cc)
some_of_cond false x y e = absurd (cc)

pub step_below : (words : List ℕ) (level : ℕ) (b m : Place) (j : ℕ) → step words level b j ≡ Some m → m.frame < frame_count words
unfolding step
step_below words level b m j e = bound (word_at words b.frame j) e
  where
    bound : (w : ℕ) → cond (is_present words w && not (ends_walk level w)) (Some (named b w)) None ≡ Some m → m.frame < frame_count words
    bound w e =
        let p : (is_present words w && not (ends_walk level w) ≡ true) × (named b w ≡ m) =
        some_of_cond (is_present words w && not (ends_walk level w)) (named b w) m e in
        let r : (is_present words w ≡ true) × (not (ends_walk level w) ≡ true) = and_parts (is_present words w) (not (ends_walk level w)) p.0 in
        let q : (has_bit w 0 ≡ true) × (ltb (frame_of w) (frame_count words) ≡ true) = and_parts (has_bit w 0) (ltb (frame_of w) (frame_count words)) r.0 in
        let f : frame_of w ≡ m.frame = ap (λ x. x.frame) p.1 in
        rw (← f) (ltb-true (frame_of w) (frame_count words) q.1)

pub step_small : (words : List ℕ) (level : ℕ) (b m : Place) (j : ℕ) → step words level b j ≡ Some m → m.frame < 2 ^ 40
unfolding step
step_small words level b m j e = bound (word_at words b.frame j) e
  where
    bound : (w : ℕ) → cond (is_present words w && not (ends_walk level w)) (Some (named b w)) None ≡ Some m → m.frame < 2 ^ 40
    bound w e =
        let p : (is_present words w && not (ends_walk level w) ≡ true) × (named b w ≡ m) =
        some_of_cond (is_present words w && not (ends_walk level w)) (named b w) m e in
        let f : frame_of w ≡ m.frame = ap (λ x. x.frame) p.1 in
        rw (← f) (omega arith)

-- the frames of a large page exist
pub large_step_below : (words : List ℕ) (b m : Place) (j : ℕ) → large_step words b j ≡ Some m → (m.frame % 512 ≡ 0) × (m.frame + 511 < frame_count words)
unfolding large_step
large_step_below words b m j e = bound (word_at words b.frame j) e
  where
    bound : (w : ℕ) → cond (is_present words w && (has_bit w 7 && is_run words (frame_of w))) (Some (named b w)) None ≡ Some m →
        (m.frame % 512 ≡ 0) × (m.frame + 511 < frame_count words)
    bound w e =
        let p : (is_present words w && (has_bit w 7 && is_run words (frame_of w)) ≡ true) × (named b w ≡ m) =
        some_of_cond (is_present words w && (has_bit w 7 && is_run words (frame_of w))) (named b w) m e in
        let r : (is_present words w ≡ true) × (has_bit w 7 && is_run words (frame_of w) ≡ true) =
        and_parts (is_present words w) (has_bit w 7 && is_run words (frame_of w)) p.0 in
        let s : (has_bit w 7 ≡ true) × (is_run words (frame_of w) ≡ true) = and_parts (has_bit w 7) (is_run words (frame_of w)) r.1 in
        let q : (eqb (frame_of w % 512) 0 ≡ true) × (ltb (frame_of w + 511) (frame_count words) ≡ true) =
        and_parts (eqb (frame_of w % 512) 0) (ltb (frame_of w + 511) (frame_count words)) s.1 in
        let f : frame_of w ≡ m.frame = ap (λ x. x.frame) p.1 in
        rw (← f) (eqb-true (frame_of w % 512) 0 q.0, ltb-true (frame_of w + 511) (frame_count words) q.1)

pub large_below : (words : List ℕ) (root n : ℕ) (m : Place) → large_of words root n ≡ Some m → (m.frame % 512 ≡ 0) × (m.frame + 511 < frame_count words)
large_below words root n m e = go (reach words root 2 (n / 512)) (sym (large_is words root n) ∙ e)
  where
    go : (o : Option Place) → large_from words o (n % 512) ≡ Some m → (m.frame % 512 ≡ 0) × (m.frame + 511 < frame_count words)
    go None x = absurd (cc)
    go (Some b) x = large_step_below words b m (n % 512) x

large_step_small : (words : List ℕ) (b m : Place) (j : ℕ) → large_step words b j ≡ Some m → m.frame < 2 ^ 40
unfolding large_step
large_step_small words b m j e = bound (word_at words b.frame j) e
  where
    bound : (w : ℕ) → cond (is_present words w && (has_bit w 7 && is_run words (frame_of w))) (Some (named b w)) None ≡ Some m → m.frame < 2 ^ 40
    bound w e =
        let p : (is_present words w && (has_bit w 7 && is_run words (frame_of w)) ≡ true) × (named b w ≡ m) =
        some_of_cond (is_present words w && (has_bit w 7 && is_run words (frame_of w))) (named b w) m e in
        let f : frame_of w ≡ m.frame = ap (λ x. x.frame) p.1 in
        rw (← f) (omega arith)

pub large_small : (words : List ℕ) (root n : ℕ) (m : Place) → large_of words root n ≡ Some m → m.frame < 2 ^ 40
large_small words root n m e = go (reach words root 2 (n / 512)) (sym (large_is words root n) ∙ e)
  where
    go : (o : Option Place) → large_from words o (n % 512) ≡ Some m → m.frame < 2 ^ 40
    go None x = absurd (cc)
    go (Some b) x = large_step_small words b m (n % 512) x

low_below : (words : List ℕ) (root l n : ℕ) (m : Place) → l < 4 → root < frame_count words → reach words root l n ≡ Some m → m.frame < frame_count words
low_below words root zero n m low lt e =
    let p : (eqb n 0 ≡ true) × (top root ≡ m) = some_of_cond (eqb n 0) (top root) m (sym (reach_zero words root n) ∙ e) in
    let f : root ≡ m.frame = ap (λ x. x.frame) p.1 in
    rw (← f) lt
low_below words root (suc l) n m low lt e = go (reach words root l (n / 512)) (sym (reach_suc words root l n (omega arith)) ∙ e)
  where
    go : (o : Option Place) → next_from words l o (n % 512) ≡ Some m → m.frame < frame_count words
    go None x = absurd (cc)
    go (Some b) x = step_below words l b m (n % 512) x

pub reach_below : (words : List ℕ) (root l n : ℕ) (m : Place) → l ≤ 4 → root < frame_count words → reach words root l n ≡ Some m → m.frame < frame_count words
reach_below words root l n m le lt e = go (cases_eq l 4)
  where
    way : ByEntry words root n m ⊎ InLarge words root n m → m.frame < frame_count words
    way (inl x) = step_below words 3 x.table m (n % 512) x.led
    way (inr x) =
        let b = large_below words root (n / 512) x.large x.met in
        let f : m.frame ≡ x.large.frame + n % 512 = ap (λ p. p.frame) x.is in
        omega arith

    go : (l ≡ 4) ⊎ (l ≡ 4 → ⊥) → m.frame < frame_count words
    go (inr ne) = low_below words root l n m (omega arith) lt e
    go (inl x) = way (either_way words root n m (rw x at e))

-- ---- the flags

pub free_below : (free : List Bool) (f : ℕ) → is_frame_free free f ≡ true → f < length free
free_below free f e = go (cases_lt f (length free))
  where
    go : (f < length free) ⊎ (length free ≤ f) → f < length free
    go (inl h) = h
    go (inr h) = let k = get_or_past free f false h in absurd (cc)

pub taken_flag : (free : List Bool) (f : ℕ) → is_frame_free free f ≡ true → is_frame_free (set free f false) f ≡ false
taken_flag free f e = get_or-set_same free f false false (free_below free f e)

pub fewer_flags : (free : List Bool) (f g : ℕ) → is_frame_free free g ≡ false → is_frame_free (set free f false) g ≡ false
fewer_flags free f g e = go (cases_lt f (length free)) (cases_eq g f)
  where
    go : (f < length free) ⊎ (length free ≤ f) → (g ≡ f) ⊎ (g ≡ f → ⊥) → is_frame_free (set free f false) g ≡ false
    go (inl h) (inl x) = rw x (get_or-set_same free f false false h)
    go (inr h) (inl x) = get_or_past (set free f false) g false (simp length-set (omega arith))
    go _ (inr x) = get_or-set_other free f g false false x ∙ e

pub none_free : (free : List Bool) → ((f : ℕ) → is_frame_free free f ≡ false) → free_count free ≡ 0
none_free [] h = refl
none_free (x ∷ xs) h = let e : x ≡ false = h 0 in rw e (none_free xs (λ f. h (suc f)))

-- if frames are free, one is
pub some_free : (free : List Bool) → 0 < free_count free → ((f : ℕ) → is_frame_free free f ≡ false) → ⊥
some_free free lt h = let z = none_free free h in omega arith

-- frames are taken from the lowest on, and the next one is the lowest that is left
pub lowest_more : (free freem : List Bool) (made : ℕ) → AreLowestTaken free freem → is_frame_free freem made ≡ true →
    ((g : ℕ) → g < made → is_frame_free freem g ≡ false) → AreLowestTaken free (set freem made false)
lowest_more free freem made before here lowest f g was now other = go (cases_Bool (is_frame_free freem f)) (cases_eq g made) (cases_eq f made)
  where
    mine : is_frame_free (set freem made false) made ≡ false
    mine = taken_flag freem made here

    go : (is_frame_free freem f ≡ true) ⊎ (is_frame_free freem f ≡ false) → (g ≡ made) ⊎ (g ≡ made → ⊥) → (f ≡ made) ⊎ (f ≡ made → ⊥) → f < g
    go _ (inl e) _ = let x = rw e at other in let m = mine in absurd (cc)
    go (inr gone) (inr ne) _ = before f g was gone (sym (get_or-set_other freem made g false false ne) ∙ other)
    go (inl still) (inr ne) (inr nf) = let x = sym (get_or-set_other freem made f false false nf) ∙ now in absurd (cc)
    go (inl still) (inr ne) (inl e) = past (cases_lt g made)
      where
        past : (g < made) ⊎ (made ≤ g) → f < g
        past (inl lt) = let x = lowest g lt in let y = sym (get_or-set_other freem made g false false ne) ∙ other in absurd (cc)
        past (inr le) = omega arith

-- a frame that is taken is one free frame fewer
pub taken_count : (free : List Bool) (f : ℕ) → is_frame_free free f ≡ true →
    free_count (set free f false) + 1 ≡ free_count free
taken_count free f e =
    let h : free_count (set free f false) + cond (is_frame_free free f) 1 0 ≡ free_count free + 0 =
    sum_by-set (λ (x : Bool). cond x 1 0) free f false false (free_below free f e) in
    let k : cond {A = ℕ} (is_frame_free free f) 1 0 ≡ 1 = rw e refl in
    omega arith

-- the tables stay a tree if their words stay
pub tree_same : {area : Area} (old new : List ℕ) (root : ℕ) (free : List Bool) → length new ≡ length old →
    ((l n : ℕ) (b : Place) (j : ℕ) → l < 4 → reach old root l n ≡ Some b → j < 512 → word_at new b.frame j ≡ word_at old b.frame j) →
    IsTreeIn area old root free → IsTreeIn area new root free
tree_same {area} old new root free size words tree = record {
  rights = λ l n m lt is. tree.rights l n m lt (sym (same l n (omega arith)) ∙ is);
  distinct = λ l n k j a b ll lk x y e.
      tree.distinct l n k j a b ll lk (sym (same l n (own_met area l ll)) ∙ x) (sym (same k j (own_met area k lk)) ∙ y) e;
  used = λ l n m le is. tree.used l n m le (sym (same l n (own_met area l le)) ∙ is);
  inside = λ l n m lt is. tree.inside l n m lt (sym (same l n (omega arith)) ∙ is);
  plain = record {
    each = λ l n i m lt li is.
        let at : reach old root l n ≡ Some m = sym (same l n (omega arith)) ∙ is in
        plain_kept old new l (word_at old m.frame i) (word_at new m.frame i) size (words l n m i lt at li) (tree.plain.each l n i m lt li at);
  };
}
  where
    same : (l n : ℕ) → l ≤ 4 → reach new root l n ≡ reach old root l n
    same = reach_same old new root size words

module _ {area : Area} (old new : List ℕ) (free free' : List Bool) (root level prefix table index made : ℕ)
    (tree : IsTreeIn area old root free)
    (low : level < 3)
    (li : index < 512)
    (root_in : root < frame_count old)
    (known : FreeBelow free (frame_count old))
    (met : reach old root level prefix ≡ Some (top table))
    (missing : step old level (top table) index ≡ None)
    (small : level ≡ 2 → large_step old (top table) index ≡ None)
    (m : IsTableMade old new free free' table index made) where
  made_in : made < frame_count old
  made_in = known made m.was_free

  table_in : table < frame_count old
  table_in = reach_below old root level prefix (top table) (omega arith) root_in met

  cleared_size : length (cleared old made) ≡ length old
  cleared_size = length_cleared old made made_in

  new_size : length new ≡ length (cleared old made)
  new_size = rw m.words (length-set (cleared old made) (512 * table + index) (table_entry made))

  unmet : (l n : ℕ) (b : Place) → l ≤ last_own area → reach old root l n ≡ Some b → b.frame ≡ made → ⊥
  unmet l n b le is e = let u : is_frame_free free b.frame ≡ false = tree.used l n b le is in let w = m.was_free in let x =
      ap (λ f. is_frame_free free f) e in cc

  table_apart : table ≡ made → ⊥
  table_apart e = unmet level prefix (top table) (own_table area level (omega arith)) met e

  mid_same : (l n : ℕ) → l ≤ 4 → reach (cleared old made) root l n ≡ reach old root l n
  mid_same = reach_same old (cleared old made) root cleared_size
      (λ l n b j lt is lj. word_at_cleared_other old made b.frame j made_in lj (unmet l n b (own_table area l lt) is))

  mid_larges : (n : ℕ) → large_of (cleared old made) root n ≡ large_of old root n
  mid_larges = larges_same old (cleared old made) root cleared_size
      (λ l n b j lt is lj. word_at_cleared_other old made b.frame j made_in lj (unmet l n b (own_table area l lt) is))

  mid_tree : IsTreeIn area (cleared old made) root free
  mid_tree = tree_same old (cleared old made) root free cleared_size
      (λ l n b j lt is lj. word_at_cleared_other old made b.frame j made_in lj (unmet l n b (own_table area l lt) is)) tree

  link : IsLink (cleared old made) new root level prefix index (top table) (top made)
  link = record {
    level_bound = omega arith;
    index_bound = li;
    here = mid_same level prefix (omega arith) ∙ met;
    size = new_size;
    elsewhere = λ f j lj ne. ap (λ w. word_at w f j) m.words ∙ word_at_set_other (cleared old made) table index (table_entry made) f j li lj ne;
    small = λ e. (
      large_same old (cleared old made) (top table) index cleared_size (word_at_cleared_other old made table index made_in li table_apart) ∙ small e,
      large_table new table index made m.bounded
          (ap (λ w. word_at w table index) m.words
          ∙ word_at_set_same (cleared old made) table index (table_entry made) (let a = table_in in let b = cleared_size in omega arith) li),
    );
    was = step_same old (cleared old made) level (top table) index cleared_size (word_at_cleared_other old made table index made_in li table_apart) ∙ missing;
    is = step_table new level table index made m.bounded (let a = made_in in let b = cleared_size in let c = new_size in omega arith)
        (ap (λ w. word_at w table index) m.words
        ∙ word_at_set_same (cleared old made) table index (table_entry made) (let a = table_in in let b = cleared_size in omega arith) li);
    bare = λ lt j lj.
        ap (λ w. word_at w made j) m.words
        ∙ (word_at_set_other (cleared old made) table index (table_entry made) made j li lj (λ e _. table_apart (sym e))
        ∙ word_at_cleared_same old made j made_in lj);
    plain = let e : word_at new table index ≡ table_entry made =
        ap (λ w. word_at w table index) m.words
        ∙ word_at_set_same (cleared old made) table index (table_entry made) (let a = table_in in let b = cleared_size in omega arith) li in
        rw e (plain_table new level made low m.bounded (let a = made_in in let b = cleared_size in let c = new_size in omega arith));
  }

  pub made_there : reach new root (level + 1) (512 * prefix + index) ≡ Some (top made)
  made_there = let e : level + 1 ≡ suc level = omega arith in rw e (link_there (cleared old made) new root level prefix
      index (top table) (top made) free link mid_tree)

  pub made_others : (l n : ℕ) → l ≤ 4 → (l ≡ level + 1 → n ≡ 512 * prefix + index → ⊥) → reach new root l n ≡ reach old root l n
  made_others l n le ne =
      link_others (cleared old made) new root level prefix index (top table) (top made) free link mid_tree l n le (λ x y. ne (omega arith) y) ∙ mid_same l n le

  pub made_larges : (n : ℕ) → large_of new root n ≡ large_of old root n
  made_larges n = link_larges (cleared old made) new root level prefix index (top table) (top made) free link mid_tree n ∙ mid_larges n

  pub made_tree : in_area area made ≡ true → IsTreeIn area new root free'
  made_tree within = tree_link (cleared old made) new root level prefix index (top table) (top made) free link mid_tree free'
      (λ l n b own _ is e. unmet l n b own (sym (mid_same l n (own_met area l own)) ∙ is) e)
      (λ _. refl)
      (λ _. within)
      (λ _. rw m.taken (taken_flag free made m.was_free))
      (λ f e. rw m.taken (fewer_flags free made f e))

  pub made_size : length new ≡ length old
  made_size = new_size ∙ cleared_size
