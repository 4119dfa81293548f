-- The last entries of pages are written, one page after the other.
use Rattle.std.proofs.Common.{◌≡◌, ℕ, ◌+◌, ◌*◌, ◌/◌, ◌%◌, ◌^◌, ◌<◌, ◌≤◌, Bool, true, false, ◌||◌, List, length, set, Option, Some, None, refl, sym, ap, ◌∙◌, ◌⊎◌, inl, inr, arith, length-set}
use Rattle.std.proofs.lemmas.Bool.{cases_eq, cases_Bool}
use Rattle.std.proofs.lemmas.Bool.Decides.{nat_tests}
use Rattle.std.specs.Prelude.{IsSome}
use Rattle.paging_core.specs.Area.{Area}
use Rattle.paging_core.specs.Memory.{word_at, frame_count, byte_of}
use Rattle.paging_core.specs.Prefix.{prefix_of}
use Rattle.paging_core.specs.Walk.{Place, step, reach, large_of, top, walk_of, place_with, reached}
use Rattle.paging_core.specs.Tree.{IsTreeIn}
use Rattle.paging_core.specs.PageChanges.{Change, removal, regrant, IsLastEntry, IsPageChanged, ArePagesChanged, only}
use Rattle.paging_core.specs.declared.page_table.PageBits.{PageBits}
use Rattle.paging_core.specs.Entry.{has_bit}
use Rattle.paging_core.specs.Plain.{IsPlain}
use Rattle.paging_core.proofs.Plain.{plain_kept, plain_zero, plain_page}
use Rattle.paging_core.proofs.Reach.{step_zero, reach_last, reach_there, reach_others, larges_others}
use Rattle.paging_core.proofs.Words.{word_at_set_same, word_at_set_other}
use Rattle.paging_core.proofs.Prefixes.{walk_reach, prefix_more}
use Rattle.paging_core.proofs.Made.{reach_below, step_below, step_small}
use Rattle.paging_core.proofs.LastEntry.{step_page, some_or_none}
use Rattle.paging_core.proofs.Areas.{own_met, own_table, beside_table, bytes_kept}
use Rattle.paging_core.specs.Outcomes.{IsBeside, KeepsBytes}

-- ---- what a change does to the frame

-- the page leads to the frame to which it led, or nowhere, by a plain entry
pub record KeepsFrame (change : Change) : Type 0 where
  pub same : (place now : Place) → change.leads place ≡ Some now → now.frame ≡ place.frame
  pub plain :
      (words : List ℕ) (place : Place) → place.frame < 2 ^ 40 → place.frame < frame_count words →
      has_bit (change.entry place) 0 ≡ true → IsPlain words 3 (change.entry place)

pub removal_keeps : KeepsFrame removal
removal_keeps = record { same = λ place now e. absurd (cc); plain = λ words place small within. plain_zero words 3 0 refl }

pub regrant_keeps : (rights : PageBits) → KeepsFrame (regrant rights)
regrant_keeps rights = record {
  same = λ place now e. let q : place_with place.frame rights ≡ now = cc in sym (ap (λ p. p.frame) q);
  plain = λ words place small within _. plain_page words place.frame rights small within;
}

pub some_place : (o : Option Place) → IsSome o → (place : Place) × (o ≡ Some place)
some_place None h = absurd (cc)
some_place (Some place) h = (place, refl)

-- ---- one page

-- a write to the last entry of the page
pub entry_written : (old new : List ℕ) (root page : ℕ) (change : Change) (table index frame : ℕ) (entry : IsLastEntry old root page table index frame) →
    new ≡ set old (512 * table + index) (change.entry entry.place) → IsPageChanged old new root page change
entry_written old new root page change table index frame entry written = record {
  place = entry.place;
  table = entry.met;
  was = entry.found;
  met = entry.reached;
  words = written ∙ (ap (λ t. set old (512 * t + index) (change.entry entry.place)) (sym entry.in_table)
      ∙ ap (λ i. set old (512 * entry.met.frame + i) (change.entry entry.place)) entry.at_index);
}

module _ (old new : List ℕ) (root page : ℕ) (change : Change)
    (root_in : root < frame_count old)
    (one : IsPageChanged old new root page change) where
  size : length new ≡ length old
  size = rw one.words (length-set old (512 * one.table.frame + prefix_of page 4 % 512) (change.entry one.place))

  table_in : one.table.frame < frame_count old
  table_in = reach_below old root 3 (prefix_of page 3) one.table (omega arith) root_in one.met

  pub place_in : one.place.frame < frame_count new
  place_in = let s = size in
      let b = reach_below old root 4 (prefix_of page 4) one.place (omega arith) root_in (sym (walk_reach old root page) ∙ one.was) in omega arith

  place : 512 * prefix_of page 3 + prefix_of page 4 % 512 ≡ prefix_of page 4
  place = prefix_more page 3 (omega arith)

  word_stays : (f i : ℕ) → i < 512 → (f ≡ one.table.frame → i ≡ prefix_of page 4 % 512 → ⊥) → word_at new f i ≡ word_at old f i
  word_stays f i li ne =
      ap (λ w. word_at w f i) one.words
      ∙ word_at_set_other old one.table.frame (prefix_of page 4 % 512) (change.entry one.place) f i (omega arith) li ne

  entry_here : word_at new one.table.frame (prefix_of page 4 % 512) ≡ change.entry one.place
  entry_here =
      ap (λ w. word_at w one.table.frame (prefix_of page 4 % 512)) one.words
      ∙ word_at_set_same old one.table.frame (prefix_of page 4 % 512) (change.entry one.place) table_in (omega arith)

  module _ {area : Area} (free : List Bool)
      (tree : IsTreeIn area old root free)
      (leads : step new 3 one.table (prefix_of page 4 % 512) ≡ change.leads one.place) where
    alone : (l n : ℕ) (b : Place) → l < 4 → reach old root l n ≡ Some b → b.frame ≡ one.table.frame → (l ≡ 3) × (n ≡ prefix_of page 3)
    alone l n b lt is e = tree.distinct l n 3 (prefix_of page 3) b one.table (own_table area l lt) (own_table area 3 (omega arith)) is one.met e

    there : reach new root 4 (prefix_of page 4) ≡ change.leads one.place
    there =
        rw (← place)
        (reach_there old new root 3 (prefix_of page 3) (prefix_of page 4 % 512) one.table size (omega arith) (omega arith) one.met
        word_stays alone (λ lt j lj. absurd (omega arith)) (λ e j lj. absurd (omega arith)) (λ e. absurd (omega arith))
        ∙ leads)

    others : (l n : ℕ) → l ≤ 4 → (l ≡ 4 → n ≡ prefix_of page 4 → ⊥) → reach new root l n ≡ reach old root l n
    others l n le ne =
        reach_others old new root 3 (prefix_of page 3) (prefix_of page 4 % 512) one.table size (omega arith) (omega arith) one.met
        word_stays alone (λ lt j lj. absurd (omega arith)) (λ e j lj. absurd (omega arith)) (λ e. absurd (omega arith)) l n le
        (λ x y. ne x (y ∙ place))

    larges : (n : ℕ) → large_of new root n ≡ large_of old root n
    larges =
        larges_others old new root 3 (prefix_of page 3) (prefix_of page 4 % 512) one.table size (omega arith) (omega arith) one.met
        word_stays alone (λ lt j lj. absurd (omega arith)) (λ e j lj. absurd (omega arith)) (λ e. absurd (omega arith))

    is_table : one.table ≡ top one.table.frame
    is_table = tree.rights 3 (prefix_of page 3) one.table (omega arith) one.met

    at : reach old root 4 (prefix_of page 4) ≡ Some one.place
    at = sym (walk_reach old root page) ∙ one.was

    same_place : (n : ℕ) (p : Place) → n ≡ prefix_of page 4 → reach old root 4 n ≡ Some p → one.place ≡ p
    same_place n p e is = let q : Some one.place ≡ Some p = sym at ∙ (ap (reach old root 4) (sym e) ∙ is) in cc

    pub page_changed : ArePagesChanged old new root change (only page)
    page_changed = record {
      size = size;
      mapped = λ n g. let e : n ≡ prefix_of page 4 = grind (arith, nat_tests) in (one.place, ap (reach old root 4) e ∙ at);
      changed = λ n p g is.
          let e : n ≡ prefix_of page 4 = grind (arith, nat_tests) in
          ap (reach new root 4) e ∙ (there ∙ ap change.leads (same_place n p e is));
      stayed = λ l n le ne. others l n le (λ x y. let z = ne x in grind (arith, nat_tests));
      larges = larges;
      entries = λ n i f p li g here is.
          let e : 512 * n + i ≡ prefix_of page 4 = grind (arith, nat_tests) in
          let en : n ≡ prefix_of page 3 = omega (arith, place) in
          let ei : i ≡ prefix_of page 4 % 512 = omega arith in
          let q : Some (top f) ≡ Some one.table = sym here ∙ (ap (reach old root 3) en ∙ one.met) in
          let r : top f ≡ one.table = cc in
          let s : f ≡ one.table.frame = ap (λ p. p.frame) r in
          rw (s, ei) (entry_here ∙ ap change.entry (same_place (512 * n + i) p e is));
      words = λ f i li apart.
          word_stays f i li (λ x y.
          let g = apart (prefix_of page 3) (one.met ∙ ap Some (is_table ∙ ap top (sym x))) in
          let e : 512 * prefix_of page 3 + i ≡ prefix_of page 4 = ap (λ k. 512 * prefix_of page 3 + k) y ∙ place in
          grind (arith, nat_tests));
    }

pub page_removed : {area : Area} (old new : List ℕ) (root page : ℕ) (free : List Bool) → root < frame_count old → IsPageChanged old new root page removal →
    IsTreeIn area old root free → ArePagesChanged old new root removal (only page)
page_removed old new root page free root_in one tree =
    page_changed old new root page removal root_in one free tree
    (step_zero new 3 one.table (prefix_of page 4 % 512) (entry_here old new root page removal root_in one))

pub page_regranted : {area : Area} (old new : List ℕ) (root page : ℕ) (rights : PageBits) (free : List Bool) → root < frame_count old →
    (one : IsPageChanged old new root page (regrant rights)) → one.place.frame < 2 ^ 40 → IsTreeIn area old root free →
    ArePagesChanged old new root (regrant rights) (only page)
page_regranted old new root page rights free root_in one small tree =
    let is_top : one.table ≡ top one.table.frame = tree.rights 3 (prefix_of page 3) one.table (omega arith) one.met in
    page_changed old new root page (regrant rights) root_in one free tree
    (ap (λ t. step new 3 t (prefix_of page 4 % 512)) is_top
    ∙ step_page new one.table.frame (prefix_of page 4 % 512) one.place.frame rights small (place_in old new root page (regrant rights) root_in one)
    (entry_here old new root page (regrant rights) root_in one))

-- ---- any pages

module _ (old new : List ℕ) (root : ℕ) (change : Change) (chosen : ℕ → Bool)
    (all : ArePagesChanged old new root change chosen) where
  -- what is met was met before, at the same frame
  pub met_before : KeepsFrame change → (l n : ℕ) (b : Place) → l ≤ 4 → reach new root l n ≡ Some b →
      (p : Place) × (reach old root l n ≡ Some p) × (p.frame ≡ b.frame)
  met_before keeps l n b le is = go (cases_eq l 4) (cases_Bool (chosen n))
    where
      go : (l ≡ 4) ⊎ (l ≡ 4 → ⊥) → (chosen n ≡ true) ⊎ (chosen n ≡ false) → (p : Place) × (reach old root l n ≡ Some p) × (p.frame ≡ b.frame)
      go (inr ne) _ = (b, sym (all.stayed l n le (λ e. absurd (ne e))) ∙ is, refl)
      go (inl e) (inr x) = (b, sym (all.stayed l n le (λ _. x)) ∙ is, refl)
      go (inl e) (inl x) =
          let m = all.mapped n x in
          let was : reach old root l n ≡ Some m.0 = rw e m.1 in
          let now : reach new root 4 n ≡ Some b = rw (← e) is in
          (m.0, was, sym (keeps.same m.0 b (sym (all.changed n m.0 x m.1) ∙ now)))

  pub changed_tree : {area : Area} → KeepsFrame change → (free : List Bool) → IsTreeIn area old root free → IsTreeIn area new root free
  changed_tree {area} keeps free tree = record {
    rights = λ l n m lt is. tree.rights l n m lt (sym (all.stayed l n (omega arith) (λ e. absurd (omega arith))) ∙ is);
    distinct = λ l n k j a b ll lk x y e.
        let p = met_before keeps l n a (own_met area l ll) x in
        let q = met_before keeps k j b (own_met area k lk) y in
        tree.distinct l n k j p.0 q.0 ll lk p.1 q.1 (p.2 ∙ (e ∙ sym q.2));
    used = λ l n m le is. let p = met_before keeps l n m (own_met area l le) is in rw (← p.2) (tree.used l n p.0 le p.1);
    inside = λ l n m lt is. let p = met_before keeps l n m (omega arith) is in rw (← p.2) (tree.inside l n p.0 lt p.1);
    plain = record {
      each = λ l n i b lt li is.
          plain_of l n i b lt li (sym (all.stayed l n (omega arith) (λ e. absurd (omega arith))) ∙ is) (cases_eq l 3) (cases_Bool (chosen (512 * n + i)));
    };
  }
    where
      kept : (l n i : ℕ) (b : Place) → l < 4 → i < 512 → reach old root l n ≡ Some b →
          ((m : ℕ) → reach old root 3 m ≡ Some (top b.frame) → chosen (512 * m + i) ≡ false) →
          has_bit (word_at new b.frame i) 0 ≡ true → IsPlain new l (word_at new b.frame i)
      kept l n i b lt li at apart =
          plain_kept old new l (word_at old b.frame i) (word_at new b.frame i) all.size (all.words b.frame i li apart) (tree.plain.each l n i b lt li at)

      -- the table of level 3 at this frame is the one that is met
      its_own : (l n m : ℕ) (b : Place) → l < 4 → reach old root l n ≡ Some b → reach old root 3 m ≡ Some (top b.frame) → (3 ≡ l) × (m ≡ n)
      its_own l n m b lt at here = tree.distinct 3 m l n (top b.frame) b (own_table area 3 (omega arith)) (own_table area l lt) here at refl

      plain_of : (l n i : ℕ) (b : Place) → l < 4 → i < 512 → reach old root l n ≡ Some b → (l ≡ 3) ⊎ (l ≡ 3 → ⊥) →
          (chosen (512 * n + i) ≡ true) ⊎ (chosen (512 * n + i) ≡ false) → has_bit (word_at new b.frame i) 0 ≡ true → IsPlain new l (word_at new b.frame i)
      plain_of l n i b lt li at (inr x) _ = kept l n i b lt li at (λ m here. absurd (x (sym (its_own l n m b lt at here).0)))
      plain_of l n i b lt li at (inl x) (inr c) =
          kept l n i b lt li at (λ m here. ap (λ k. chosen (512 * k + i)) (its_own l n m b lt at here).1 ∙ c)
      plain_of l n i b lt li at (inl x) (inl c) =
          let m = all.mapped (512 * n + i) c in
          let t : reach old root 3 n ≡ Some b = ap (λ k. reach old root k n) (sym x) ∙ at in
          let r : b ≡ top b.frame = tree.rights 3 n b (omega arith) t in
          let w : word_at new b.frame i ≡ change.entry m.0 = all.entries n i b.frame m.0 li c (t ∙ ap Some r) m.1 in
          let q : (512 * n + i) / 512 ≡ n = omega arith in
          let led : step old 3 b ((512 * n + i) % 512) ≡ Some m.0 = sym (reach_last old root (512 * n + i) b (ap (reach old root 3) q ∙ t)) ∙ m.1 in
          let within = step_below old 3 b m.0 ((512 * n + i) % 512) led in
          rw (w, x) (keeps.plain new m.0 (step_small old 3 b m.0 ((512 * n + i) % 512) led) (let z = all.size in omega arith))

  -- a page that leads to no table keeps its words
  words_stay : {area : Area} (free : List Bool) → IsTreeIn area old root free → (page i : ℕ) (place : Place) → i < 512 →
      walk_of old root page ≡ Some place → IsBeside area old root page → word_at new place.frame i ≡ word_at old place.frame i
  words_stay {area} free tree page i place li at beside =
      all.words place.frame i li (λ m here.
      absurd (beside_table area old root free page place tree at beside 3 m (top place.frame) (omega arith) here refl))

  -- and its bytes, if it is still met
  pub bytes_stay : {area : Area} → KeepsFrame change → (free : List Bool) → IsTreeIn area old root free → (address : ℕ) →
      (now : Place) → walk_of new root (address / 4096) ≡ Some now → IsBeside area old root (address / 4096) →
      reached new root address ≡ reached old root address
  bytes_stay {area} keeps free tree address now is beside =
      let at : reach new root 4 (prefix_of (address / 4096) 4) ≡ Some now = sym (walk_reach new root (address / 4096)) ∙ is in
      let p = met_before keeps 4 (prefix_of (address / 4096) 4) now (omega arith) at in
      let was : walk_of old root (address / 4096) ≡ Some p.0 = walk_reach old root (address / 4096) ∙ p.1 in
      let w = words_stay free tree (address / 4096) (address % 4096 / 8) p.0 (omega arith) was beside in
      rw (is, was) (ap (λ f. Some (byte_of (word_at new f (address % 4096 / 8)) (address % 8))) (sym p.2) ∙ ap (λ v. Some (byte_of v (address % 8))) w)

-- if pages get rights, no byte is changed
pub regranted_bytes : {area : Area} (old new : List ℕ) (root : ℕ) (rights : PageBits) (chosen : ℕ → Bool) (free : List Bool) →
    ArePagesChanged old new root (regrant rights) chosen → IsTreeIn area old root free → KeepsBytes area old new root
regranted_bytes {area} old new root rights chosen free all tree =
    bytes_kept area old new root (λ address beside. byte address beside (some_or_none (walk_of new root (address / 4096))))
  where
    gone : (address : ℕ) → reach new root 4 (prefix_of (address / 4096) 4) ≡ None → (chosen (prefix_of (address / 4096) 4) ≡ true) ⊎ (chosen
        (prefix_of (address / 4096) 4) ≡ false) →
        reach old root 4 (prefix_of (address / 4096) 4) ≡ None
    gone address none (inl x) =
        let m = all.mapped (prefix_of (address / 4096) 4) x in
        let h = all.changed (prefix_of (address / 4096) 4) m.0 x m.1 in absurd (cc)
    gone address none (inr x) = sym (all.stayed 4 (prefix_of (address / 4096) 4) (omega arith) (λ _. x)) ∙ none

    byte : (address : ℕ) → IsBeside area old root (address / 4096) →
        ((now : Place) × (walk_of new root (address / 4096) ≡ Some now)) ⊎ (walk_of new root (address / 4096) ≡ None) →
        reached new root address ≡ reached old root address
    byte address beside (inl p) = bytes_stay old new root (regrant rights) chosen all (regrant_keeps rights) free tree address p.0 p.1 beside
    byte address beside (inr none) =
        let e : walk_of old root (address / 4096) ≡ None =
        walk_reach old root (address / 4096)
        ∙ gone address (sym (walk_reach new root (address / 4096)) ∙ none) (cases_Bool (chosen (prefix_of (address / 4096) 4))) in
        rw (none, e) refl

-- ---- the page alone

module _ (old new : List ℕ) (root page : ℕ) (change : Change) (all : ArePagesChanged old new root change (only page)) where
  pub page_leads : (place : Place) → walk_of old root page ≡ Some place → walk_of new root page ≡ change.leads place
  page_leads place at =
      walk_reach new root page
      ∙ all.changed (prefix_of page 4) place (grind (arith, nat_tests)) (sym (walk_reach old root page) ∙ at)

  pub other_walk : (other : ℕ) → (other % 2 ^ 36 ≡ page % 2 ^ 36 → ⊥) → walk_of new root other ≡ walk_of old root other
  other_walk other ne =
      walk_reach new root other
      ∙ (all.stayed 4 (prefix_of other 4) (omega arith)
      (λ _. let d : prefix_of other 4 ≡ prefix_of page 4 → ⊥ = λ e. ne (omega arith) in grind (arith, nat_tests))
      ∙ sym (walk_reach old root other))

-- ---- one change after the other, of other pages

module _ (old mid new : List ℕ) (root : ℕ) (change : Change) (a b c : ℕ → Bool)
    (one : ArePagesChanged old mid root change a)
    (two : ArePagesChanged mid new root change b)
    (both : (n : ℕ) → c n ≡ (a n || b n)) where
  tables : (n : ℕ) → reach mid root 3 n ≡ reach old root 3 n
  tables n = one.stayed 3 n (omega arith) (λ e. absurd (omega arith))

  neither : (n : ℕ) → c n ≡ false → (a n ≡ false) × (b n ≡ false)
  neither n e = go (a n) (b n) (sym (both n) ∙ e)
    where
      go : (x y : Bool) → (x || y) ≡ false → (x ≡ false) × (y ≡ false)
      go false y e = (refl, e)
      go true y e = absurd (cc)

  is_b : (n : ℕ) → c n ≡ true → a n ≡ false → b n ≡ true
  is_b n e x = let h : c n ≡ b n = both n ∙ ap (λ t. t || b n) x in sym h ∙ e

  was : (n : ℕ) → a n ≡ false → reach mid root 4 n ≡ reach old root 4 n
  was n x = one.stayed 4 n (omega arith) (λ _. x)

  module _ {area : Area} (free : List Bool)
      (tree : IsTreeIn area old root free)
      (apart : (n : ℕ) → a n ≡ true → b n ≡ false) where
    mapped_of : (n : ℕ) → c n ≡ true → (a n ≡ true) ⊎ (a n ≡ false) → (place : Place) × (reach old root 4 n ≡ Some place)
    mapped_of n g (inl x) = one.mapped n x
    mapped_of n g (inr x) = let m = two.mapped n (is_b n g x) in (m.0, sym (was n x) ∙ m.1)

    changed_of : (n : ℕ) (place : Place) → c n ≡ true → reach old root 4 n ≡ Some place → (a n ≡ true) ⊎ (a n ≡ false) → reach new root 4 n ≡ change.leads place
    changed_of n place g at (inl x) = two.stayed 4 n (omega arith) (λ _. apart n x) ∙ one.changed n place x at
    changed_of n place g at (inr x) = two.changed n place (is_b n g x) (was n x ∙ at)

    entries_of : (n i f : ℕ) (place : Place) → i < 512 → c (512 * n + i) ≡ true → reach old root 3 n ≡ Some (top f) →
        reach old root 4 (512 * n + i) ≡ Some place →
        (a (512 * n + i) ≡ true) ⊎ (a (512 * n + i) ≡ false) → word_at new f i ≡ change.entry place
    entries_of n i f place li g here at (inl x) =
        two.words f i li (λ m is.
        let d = tree.distinct 3 m 3 n (top f) (top f) (own_table area 3 (omega arith)) (own_table area 3 (omega arith)) (sym (tables m) ∙ is) here refl in
        ap (λ k. b (512 * k + i)) d.1 ∙ apart (512 * n + i) x)
        ∙ one.entries n i f place li x here at
    entries_of n i f place li g here at (inr x) =
        two.entries n i f place li (is_b (512 * n + i) g x) (tables n ∙ here) (was (512 * n + i) x ∙ at)

    pub changed_more : ArePagesChanged old new root change c
    changed_more = record {
      size = two.size ∙ one.size;
      mapped = λ n g. mapped_of n g (cases_Bool (a n));
      changed = λ n place g at. changed_of n place g at (cases_Bool (a n));
      stayed = λ l n le ne. two.stayed l n le (λ e. (neither n (ne e)).1) ∙ one.stayed l n le (λ e. (neither n (ne e)).0);
      larges = λ n. two.larges n ∙ one.larges n;
      entries = λ n i f place li g here at. entries_of n i f place li g here at (cases_Bool (a (512 * n + i)));
      words = λ f i li ne.
          two.words f i li (λ n at. (neither (512 * n + i) (ne n (sym (tables n) ∙ at))).1) ∙ one.words f i li (λ n at. (neither (512 * n + i) (ne n at)).0);
    }

-- no page
pub none_changed : (words : List ℕ) (root : ℕ) (change : Change) (chosen : ℕ → Bool) → ((n : ℕ) → chosen n ≡ false) →
    ArePagesChanged words words root change chosen
none_changed words root change chosen none = record {
  size = refl;
  mapped = λ n g. let e = none n in absurd (cc);
  changed = λ n place g at. let e = none n in absurd (cc);
  stayed = λ l n le ne. refl;
  larges = λ n. refl;
  entries = λ n i f place li g here at. let e = none (512 * n + i) in absurd (cc);
  words = λ f i li apart. refl;
}
