-- The entry that maps a slot is written, and names no table: it maps the slot's frames still, or it is cleared.
use Rattle.std.proofs.Common.{◌≡◌, ℕ, ◌+◌, ◌*◌, ◌/◌, ◌%◌, ◌^◌, ◌<◌, ◌≤◌, Bool, true, List, length, set, Some, None, refl, sym, ap, ◌∙◌, ◌⊎◌, inl, inr, arith, length-set}
use Rattle.std.proofs.lemmas.Bool.{cases_eq}
use Rattle.std.specs.Prelude.{IsSome}
use Rattle.paging_core.specs.Area.{Area}
use Rattle.paging_core.specs.Memory.{word_at, frame_count}
use Rattle.paging_core.specs.Prefix.{prefix_of}
use Rattle.paging_core.specs.Walk.{Place, step, large_step, reach, large_of, large_from, walk_of, reached, page_in}
use Rattle.paging_core.specs.Tree.{IsTreeIn}
use Rattle.paging_core.specs.Large.{slot_of, above, IsLargeEntry, IsLargeCleared, IsLargeRemoved}
use Rattle.paging_core.specs.Entry.{has_bit}
use Rattle.paging_core.specs.Plain.{IsPlain}
use Rattle.paging_core.specs.Pool.{is_frame_free}
use Rattle.paging_core.proofs.LastEntry.{some_or_none}
use Rattle.paging_core.proofs.Plain.{plain_kept, plain_zero}
use Rattle.paging_core.proofs.Reach.{step_zero, large_zero, large_is, large_none, reach_none, reach_in}
use Rattle.paging_core.proofs.Slot.{slot_there, slot_large, slot_larges, slot_others}
use Rattle.paging_core.proofs.Words.{word_at_set_same, word_at_set_other}
use Rattle.paging_core.proofs.Prefixes.{prefix_more, walk_reach}
use Rattle.paging_core.proofs.Made.{reach_below}
use Rattle.paging_core.proofs.PageWritten.{same_byte}
use Rattle.paging_core.proofs.PageChanged.{some_place}
use Rattle.paging_core.proofs.Areas.{own_met, own_table, beside_table, bytes_kept_of}
use Rattle.paging_core.specs.Outcomes.{IsBeside, KeepsBytesOf}

-- the slot by its table of the third step and its index there
pub slot_place : (page : ℕ) → 512 * above page 2 + slot_of page % 512 ≡ slot_of page
slot_place page = let m = prefix_more (512 * page) 2 (omega arith) in omega arith

pub slot_index : (page : ℕ) → above page 3 % 512 ≡ slot_of page % 512
slot_index page = let e : above page 3 ≡ slot_of page = omega arith in ap (λ n. n % 512) e

-- no large page is met if no table of the third step is
pub large_stops : (words : List ℕ) (root page : ℕ) → reach words root 2 (above page 2) ≡ None → large_of words root (slot_of page) ≡ None
large_stops words root page none =
    let e : slot_of page / 512 ≡ above page 2 = omega arith in
    large_is words root (slot_of page)
    ∙ (ap (λ n. large_from words (reach words root 2 n) (slot_of page % 512)) e ∙ ap (λ o. large_from words o (slot_of page % 512)) none)

-- the large page is what the entry maps
pub large_at : (words : List ℕ) (root page : ℕ) (at : Place) → reach words root 2 (above page 2) ≡ Some at →
    large_of words root (slot_of page) ≡ large_step words at (slot_of page % 512)
large_at words root page at met =
    let e : slot_of page / 512 ≡ above page 2 = omega arith in
    large_is words root (slot_of page)
    ∙ (ap (λ n. large_from words (reach words root 2 n) (slot_of page % 512)) e ∙ ap (λ o. large_from words o (slot_of page % 512)) met)

module _ (old new : List ℕ) (root page value : ℕ) (large table : Place)
    (root_in : root < frame_count old)
    (was : large_of old root (slot_of page) ≡ Some large)
    (met : reach old root 2 (above page 2) ≡ Some table)
    (written : new ≡ set old (512 * table.frame + slot_of page % 512) value) where
  pub entry_size : length new ≡ length old
  entry_size = rw written (length-set old (512 * table.frame + slot_of page % 512) value)

  word_stays : (f i : ℕ) → i < 512 → (f ≡ table.frame → i ≡ slot_of page % 512 → ⊥) → word_at new f i ≡ word_at old f i
  word_stays f i li ne = ap (λ w. word_at w f i) written ∙ word_at_set_other old table.frame (slot_of page % 512) value f i (omega arith) li ne

  pub entry_word : word_at new table.frame (slot_of page % 512) ≡ value
  entry_word =
      ap (λ w. word_at w table.frame (slot_of page % 512)) written
      ∙ word_at_set_same old table.frame (slot_of page % 512) value (reach_below old root 2 (above page 2) table (omega arith) root_in met) (omega arith)

  module _ {area : Area} (free : List Bool) (tree : IsTreeIn area old root free) (no_step : step new 2 table (slot_of page % 512) ≡ None) where
    alone : (l n : ℕ) (b : Place) → l < 4 → reach old root l n ≡ Some b → b.frame ≡ table.frame → (l ≡ 2) × (n ≡ above page 2)
    alone l n b lt is e = tree.distinct l n 2 (above page 2) b table (own_table area l lt) (own_table area 2 (omega arith)) is met e

    same : (l n : ℕ) (b : Place) (j : ℕ) → l < 4 → reach old root l n ≡ Some b → j < 512 → (b.frame ≡ table.frame → j ≡ slot_of page % 512 → ⊥) →
        word_at new b.frame j ≡ word_at old b.frame j
    same l n b j lt is lj ne = word_stays b.frame j lj ne

    no_table : reach new root 3 (slot_of page) ≡ None
    no_table =
        ap (reach new root 3) (sym (slot_place page))
        ∙ (slot_there old new root (above page 2) (slot_of page % 512) table (omega arith) entry_size met same alone ∙ no_step)

    pub entry_large : large_of new root (slot_of page) ≡ large_step new table (slot_of page % 512)
    entry_large =
        ap (large_of new root) (sym (slot_place page))
        ∙ slot_large old new root (above page 2) (slot_of page % 512) table (omega arith) entry_size met same alone

    pub entry_larges : (n : ℕ) → (n ≡ slot_of page → ⊥) → large_of new root n ≡ large_of old root n
    entry_larges n ne =
        slot_larges old new root (above page 2) (slot_of page % 512) table (omega arith) entry_size met same alone n (λ e. ne (e ∙ slot_place page))

    pub entry_others : (l n : ℕ) → l ≤ 4 → (l ≡ 4 → n / 512 ≡ slot_of page → ⊥) → reach new root l n ≡ reach old root l n
    entry_others l n le ne = go (cases_eq l 3) (cases_eq n (slot_of page))
      where
        out : (l ≡ 3 → n ≡ slot_of page → ⊥) → reach new root l n ≡ reach old root l n
        out away =
            slot_others old new root (above page 2) (slot_of page % 512) table (omega arith) entry_size met same alone l n le
            (λ x y. away x (y ∙ slot_place page)) (λ x y. ne x (y ∙ slot_place page))

        go : (l ≡ 3) ⊎ (l ≡ 3 → ⊥) → (n ≡ slot_of page) ⊎ (n ≡ slot_of page → ⊥) → reach new root l n ≡ reach old root l n
        go (inl x) (inl y) = rw (x, y) (no_table ∙ sym (large_none old root (slot_of page) large was))
        go (inr x) _ = out (λ e _. x e)
        go _ (inr y) = out (λ _ e. y e)

    -- the pages of the slot now
    pub entry_pages : (n : ℕ) (now : Place) → n / 512 ≡ slot_of page → large_step new table (slot_of page % 512) ≡ Some now →
        reach new root 4 n ≡ Some (page_in (n % 512) now)
    entry_pages n now e is = reach_in new root n now (ap (large_of new root) e ∙ (entry_large ∙ is))

    pub entry_none : (n : ℕ) → n / 512 ≡ slot_of page → large_step new table (slot_of page % 512) ≡ None → reach new root 4 n ≡ None
    entry_none n e is = reach_none new root n (ap (reach new root 3) e ∙ no_table) (ap (large_of new root) e ∙ (entry_large ∙ is))

    -- no page of another slot is changed
    pub entry_elsewhere : (other : ℕ) → (other / 512 % 2 ^ 27 ≡ slot_of page → ⊥) → walk_of new root other ≡ walk_of old root other
    entry_elsewhere other ne =
        let p : prefix_of other 4 / 512 ≡ other / 512 % 2 ^ 27 = omega arith in
        walk_reach new root other ∙ (entry_others 4 (prefix_of other 4) (omega arith) (λ _ e. ne (sym p ∙ e)) ∙ sym (walk_reach old root other))

    -- what is met now was met before, and its frame is as it was
    record WasMet (l n : ℕ) (b : Place) : Type 0 where
      before : Place
      at : reach old root l n ≡ Some before
      framed : before.frame ≡ b.frame
      table_stays : l < 4 → before ≡ b

    module _ (keeps : (now : Place) → large_step new table (slot_of page % 512) ≡ Some now → now.frame ≡ large.frame)
        (plain : has_bit value 0 ≡ true → IsPlain new 2 value) where
      met_before : (l n : ℕ) (b : Place) → l ≤ 4 → reach new root l n ≡ Some b → WasMet l n b
      met_before l n b le is = go (cases_eq l 4) (cases_eq (n / 512) (slot_of page))
        where
          in_slot : l ≡ 4 → n / 512 ≡ slot_of page → ((now : Place) × (large_step new table (slot_of page % 512) ≡ Some
              now)) ⊎ (large_step new table (slot_of page % 512) ≡ None) →
              WasMet l n b
          in_slot x y (inl p) =
              let i = entry_pages n p.0 y p.1 in
              let w : reach new root 4 n ≡ Some b = rw (← x) is in
              let q : page_in (n % 512) p.0 ≡ b = cc in
              record {
                before = page_in (n % 512) large;
                at = ap (λ k. reach old root k n) x ∙ reach_in old root n large (ap (large_of old root) y ∙ was);
                framed = ap (λ f. f + n % 512) (sym (keeps p.0 p.1)) ∙ ap (λ m. m.frame) q;
                table_stays = λ lt. absurd (omega arith);
              }
          in_slot x y (inr none) = let z = entry_none n y none in let w : reach new root 4 n ≡ Some b = rw (← x) is in absurd (cc)

          go : (l ≡ 4) ⊎ (l ≡ 4 → ⊥) → (n / 512 ≡ slot_of page) ⊎ (n / 512 ≡ slot_of page → ⊥) → WasMet l n b
          go (inl x) (inl y) = in_slot x y (some_or_none (large_step new table (slot_of page % 512)))
          go (inr x) _ = record { before = b; at = sym (entry_others l n le (λ e _. x e)) ∙ is; framed = refl; table_stays = λ _. refl }
          go _ (inr y) = record { before = b; at = sym (entry_others l n le (λ _ e. y e)) ∙ is; framed = refl; table_stays = λ _. refl }

      -- a table that is met
      table_before : (l n : ℕ) (b : Place) → l < 4 → reach new root l n ≡ Some b → reach old root l n ≡ Some b
      table_before l n b lt is = let m = met_before l n b (omega arith) is in m.at ∙ ap Some (m.table_stays lt)

      stays_plain : (l n i : ℕ) (b : Place) → l < 4 → i < 512 → reach old root l n ≡ Some b → (b.frame ≡ table.frame → i ≡ slot_of page % 512 → ⊥) →
          has_bit (word_at new b.frame i) 0 ≡ true → IsPlain new l (word_at new b.frame i)
      stays_plain l n i b lt li is ne =
          plain_kept old new l (word_at old b.frame i) (word_at new b.frame i) entry_size (word_stays b.frame i li ne) (tree.plain.each l n i b lt li is)

      pub entry_tree : IsTreeIn area new root free
      entry_tree = record {
        rights = λ l n b lt is. tree.rights l n b lt (table_before l n b lt is);
        distinct = λ l n k j a b ll lk x y e.
            let p = met_before l n a (own_met area l ll) x in
            let q = met_before k j b (own_met area k lk) y in
            tree.distinct l n k j p.before q.before ll lk p.at q.at (p.framed ∙ (e ∙ sym q.framed));
        used = λ l n b le is. let m = met_before l n b (own_met area l le) is in ap (is_frame_free free) (sym m.framed) ∙ tree.used l n m.before le m.at;
        inside = λ l n b lt is. tree.inside l n b lt (table_before l n b lt is);
        plain = record {
          each = λ l n i b lt li is. plain_of l n i b lt li (table_before l n b lt is)
              (cases_eq b.frame table.frame) (cases_eq i (slot_of page % 512));
        };
      }
        where
          plain_of : (l n i : ℕ) (b : Place) → l < 4 → i < 512 → reach old root l n ≡ Some b → (b.frame ≡ table.frame) ⊎ (b.frame ≡ table.frame → ⊥) →
              (i ≡ slot_of page % 512) ⊎ (i ≡ slot_of page % 512 → ⊥) → has_bit (word_at new b.frame i) 0 ≡ true → IsPlain new l (word_at new b.frame i)
          plain_of l n i b lt li is (inl x) (inl y) = let p = alone l n b lt is x in rw (x, y, p.0, entry_word) plain
          plain_of l n i b lt li is (inr x) _ = stays_plain l n i b lt li is (λ e _. x e)
          plain_of l n i b lt li is _ (inr y) = stays_plain l n i b lt li is (λ _ e. y e)

      -- no byte of a page that is mapped still is changed
      pub entry_bytes : (address : ℕ) → IsSome (walk_of new root (address / 4096)) → IsBeside area old root (address / 4096) →
          reached new root address ≡ reached old root address
      entry_bytes address is beside =
          let p = some_place (walk_of new root (address / 4096)) is in
          let now : reach new root 4 (prefix_of (address / 4096) 4) ≡ Some p.0 = sym (walk_reach new root (address / 4096)) ∙ p.1 in
          let m = met_before 4 (prefix_of (address / 4096) 4) p.0 (omega arith) now in
          let was : walk_of old root (address / 4096) ≡ Some m.before = walk_reach old root (address / 4096) ∙ m.at in
          same_byte old new root address m.before p.0 was p.1 (sym m.framed)
          (word_stays m.before.frame (address % 4096 / 8) (omega arith)
          (λ e _. beside_table area old root free (address / 4096) m.before tree was beside 2 (above page 2) table (omega arith) met e))

-- ---- the entry is 0 now

module _ (old new : List ℕ) (root page : ℕ)
    (root_in : root < frame_count old)
    (one : IsLargeCleared old new root page) where
  zero_here : word_at new one.table.frame (slot_of page % 512) ≡ 0
  zero_here = entry_word old new root page 0 one.large one.table root_in one.was one.met one.words

  leads_nowhere : step new 2 one.table (slot_of page % 512) ≡ None
  leads_nowhere = step_zero new 2 one.table (slot_of page % 512) zero_here

  maps_none : large_step new one.table (slot_of page % 512) ≡ None
  maps_none = large_zero new one.table (slot_of page % 512) zero_here

  module _ {area : Area} (free : List Bool) (tree : IsTreeIn area old root free) where
    pub gone_tree : IsTreeIn area new root free
    gone_tree = entry_tree old new root page 0 one.large one.table root_in one.was one.met one.words free tree leads_nowhere
        (λ now is. let z = maps_none in absurd (cc)) (plain_zero new 2 0 refl)

    pub large_removed : IsLargeRemoved old new root page
    large_removed = record {
      size = entry_size old new root page 0 one.large one.table root_in one.was one.met one.words;
      gone = λ k lt.
          let p : prefix_of (512 * page + k) 4 / 512 ≡ slot_of page = omega arith in
          walk_reach new root (512 * page + k)
          ∙ entry_none old new root page 0 one.large one.table root_in one.was one.met one.words free tree leads_nowhere
          (prefix_of (512 * page + k) 4) p maps_none;
      no_large = entry_large old new root page 0 one.large one.table root_in one.was one.met one.words free tree leads_nowhere ∙ maps_none;
      others = entry_others old new root page 0 one.large one.table root_in one.was one.met one.words free tree leads_nowhere;
      larges = entry_larges old new root page 0 one.large one.table root_in one.was one.met one.words free tree leads_nowhere;
    }

    pub gone_bytes : KeepsBytesOf area (λ at. IsSome (walk_of new root at)) old new root
    gone_bytes = bytes_kept_of area (λ at. IsSome (walk_of new root at)) old new root (entry_bytes old new root page 0 one.large one.table root_in one.was one.met one.words free tree leads_nowhere
        (λ now is. let z = maps_none in absurd (cc)) (plain_zero new 2 0 refl))

    pub gone_elsewhere : (other : ℕ) → (other / 512 % 2 ^ 27 ≡ slot_of page → ⊥) → walk_of new root other ≡ walk_of old root other
    gone_elsewhere = entry_elsewhere old new root page 0 one.large one.table root_in one.was one.met one.words free tree leads_nowhere

-- the words after a write to the entry of the slot
pub entry_set : (old new : List ℕ) (root page table index value : ℕ) (large : Place) (entry : IsLargeEntry old root page table index large) →
    new ≡ set old (512 * table + index) value → new ≡ set old (512 * entry.met.frame + slot_of page % 512) value
entry_set old new root page table index value large entry written =
    written ∙ (ap (λ t. set old (512 * t + index) value) (sym entry.in_table) ∙ ap (λ i. set old (512 * entry.met.frame + i) value) entry.at_index)

-- the entry of the slot becomes 0
pub large_cleared : (old new : List ℕ) (root page table index : ℕ) (large : Place) (entry : IsLargeEntry old root page table index large) →
    new ≡ set old (512 * table + index) 0 → IsLargeCleared old new root page
large_cleared old new root page table index large entry written = record {
  large = large;
  table = entry.met;
  was = entry.found;
  met = entry.reached;
  words = entry_set old new root page table index 0 large entry written;
}
