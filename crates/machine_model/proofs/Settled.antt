-- Heap regions were cut or left: slots of which none has all leave, and one of which a part is left has a table from then on.
use Rattle.std.proofs.Common.{◌≡◌, ℕ, ◌+◌, ◌<◌, ◌&&◌, ◌||◌, nat_eq, List, [], ◌∷◌, ◌++◌, length, map, filter, refl, sym, ap, ◌∙◌, subst, arith, Bool, true, false, cond, IsTrue, Option, Some, None}
use Rattle.std.specs.Prelude.{◌↔◌, IsSome}
use Rattle.std.specs.List.{AllByRecursion}
use Rattle.std.proofs.lemmas.Bool.Decides.{nat_tests}
use Rattle.std.proofs.lemmas.List.Folds.{list_any-append}
use Rattle.std.proofs.Common.{length-append}
use Rattle.paging_core.specs.Prefix.{Prefix}
use Rattle.paging_core.specs.Walk.{reach, large_of}
use Rattle.machine_model.specs.declared.region.Region.{Region}
use Rattle.machine_model.specs.Tables.{is_same, has_table}
use Rattle.machine_model.specs.Slots.{IsSlot, slot_number, slot_prefix, is_whole_in, is_part_in, has_slot, AreDistinctSlots}
use Rattle.machine_model.proofs.Booleans.{or_left, or_right}
use Rattle.machine_model.proofs.Slots.{slot_all, has_slot-filter, filter_none}
use Rattle.machine_model.proofs.Tables.{same_refl, same_parts}

-- the slot that was cut, as a list
abbrev pub cut_slots : Option ℕ → List ℕ
cut_slots None = []
cut_slots (Some slot) = slot ∷ []

-- How tables and large pages are after regions were cut or left, of which `regions` are left: large pages are from
-- before, a slot is still mapped by one entry exactly if a region has it whole, and only the slot that was cut has got
-- a table. A part of it is left.
pub record AreSettled (words words' : List ℕ) (root root' : ℕ) (regions : List Region) (cut : Option ℕ) : Type 0 where
  pub only : (slot : ℕ) → IsSlot slot → IsSome (large_of words' root' (slot_number slot)) → IsSome (large_of words root (slot_number slot))
  pub whole : (slot : ℕ) → IsSlot slot → IsSome (large_of words' root' (slot_number slot)) → IsTrue (is_whole_in regions slot)
  pub kept : (slot : ℕ) → IsSlot slot → IsSome (large_of words root (slot_number slot)) →
      IsTrue (is_whole_in regions slot) → IsSome (large_of words' root' (slot_number slot))
  pub part : (slot : ℕ) → IsSlot slot → IsSome (large_of words root (slot_number slot)) → IsTrue (is_part_in regions slot) → cut ≡ Some slot
  pub cut_is : (slot : ℕ) → cut ≡ Some slot → IsSlot slot × IsSome (large_of words root (slot_number slot)) × IsTrue (is_part_in regions slot)
  pub tables : (level number : ℕ) → level < 4 → ((slot : ℕ) → cut ≡ Some slot → level ≡ 3 → number ≡ slot_number slot → ⊥) →
      reach words' root' level number ≡ reach words root level number
  pub table : (slot : ℕ) → cut ≡ Some slot → IsSome (reach words' root' 3 (slot_number slot))

-- ---- lists

-- if a test passes at only one listed slot, and none is listed twice, the slots that pass are that one
filter_one : (test : ℕ → Bool) (slots : List ℕ) (slot : ℕ) → AreDistinctSlots slots → has_slot slots slot ≡ true → test slot ≡ true →
    ((other : ℕ) → has_slot slots other ≡ true → test other ≡ true → other ≡ slot) → filter test slots ≡ slot ∷ []
filter_one test [] slot distinct listed passes alone = absurd (let no : false ≡ true = listed in cc)
filter_one test (first ∷ rest) slot distinct listed passes alone =
    go (nat_eq first slot) refl (test first) refl (λ there. filter_one test rest slot distinct.1 there passes
    (λ one is. alone one (or_right (nat_eq first one) (has_slot rest one) is)))
  where
    here : nat_eq first first ≡ true
    here = grind (arith, nat_tests)

    -- another one does not pass
    fails : (t : Bool) → test first ≡ t → (first ≡ slot → ⊥) → t ≡ false
    fails false is other = refl
    fails true is other = absurd (other (alone first (or_left (nat_eq first first) (has_slot rest first) here) is))

    -- nor does any after the one
    none : first ≡ slot → AllByRecursion (λ other. test other ≡ false) rest
    none same = behind rest (λ other is. is) (subst (λ one. has_slot rest one ≡ false) same distinct.0)
      where
        behind : (later : List ℕ) → ((other : ℕ) → has_slot later other ≡ true → has_slot rest other ≡ true) →
            has_slot later slot ≡ false → AllByRecursion (λ other. test other ≡ false) later
        behind [] inside gone = tt
        behind (one ∷ later) inside gone = (
          by (test one) refl,
          behind later (λ other is. inside other (or_right (nat_eq one other) (has_slot later other) is)) (second (nat_eq one slot) (has_slot later slot) gone),
        )
          where
            second : (a b : Bool) → (a || b) ≡ false → b ≡ false
            second false b is = is
            second true b is = absurd (let no : true ≡ false = is in cc)

            by : (t : Bool) → test one ≡ t → test one ≡ false
            by false is = is
            by true is = absurd (
                let itself : nat_eq one one ≡ true = grind (arith, nat_tests) in
                let there : has_slot (first ∷ rest) one ≡ true = or_right (nat_eq first one) (has_slot rest one)
                (inside one (or_left (nat_eq one one) (has_slot later one) itself)) in
                let same_one : one ≡ slot = alone one there is in
                let listed_one : has_slot (one ∷ later) slot ≡ true = or_left (nat_eq one slot) (has_slot later slot)
                (subst (λ other. nat_eq one other ≡ true) same_one itself) in
                cc)

    go : (e : Bool) → nat_eq first slot ≡ e → (t : Bool) → test first ≡ t → (has_slot rest slot ≡ true → filter test rest ≡ slot ∷ []) →
        cond (test first) (first ∷ filter test rest) (filter test rest) ≡ slot ∷ []
    go true same t is later_one =
        let one : first ≡ slot = grind (arith, nat_tests) in
        let pass : test first ≡ true = ap test one ∙ passes in
        let later : filter test rest ≡ [] = filter_none test rest (none one) in
        rw (pass, later) (λ i. one i ∷ [])
    go false other t is later_one =
        let differ : first ≡ slot → ⊥ = λ same. (let yes : nat_eq first slot ≡ true = grind (arith, nat_tests) in cc) in
        let fail : test first ≡ false = fails (test first) refl differ in
        let there : has_slot rest slot ≡ true = rw other at listed in
        rw fail (later_one there)

-- ---- the state

module _ (words words' : List ℕ) (root root' : ℕ) (regions : List Region) (cut : Option ℕ)
    (is : AreSettled words words' root root' regions cut) (large : List ℕ) (tables : List Prefix)
    (are : AllByRecursion IsSlot large) (distinct : AreDistinctSlots large)
    (larges_met : (slot : ℕ) → IsSlot slot → IsSome (large_of words root (slot_number slot)) ↔ IsTrue (has_slot large slot))
    (tables_met : (level number : ℕ) → 0 < level → level < 4 → IsSome (reach words root level number) ↔ IsTrue
    (has_table tables (record { level = level; number = number }))) where
  -- the slots of which a part is left
  pub parts_are : filter (is_part_in regions) large ≡ cut_slots cut
  parts_are = go cut refl
    where
      was_large : (slot : ℕ) → has_slot large slot ≡ true → IsSome (large_of words root (slot_number slot))
      was_large slot listed = (larges_met slot (slot_all IsSlot large slot are listed)).1 listed

      go : (o : Option ℕ) → cut ≡ o → filter (is_part_in regions) large ≡ cut_slots o
      go None none = filter_none (is_part_in regions) large (each large (λ slot listed. listed))
        where
          each : (slots : List ℕ) → ((slot : ℕ) → has_slot slots slot ≡ true → has_slot large slot ≡ true) →
              AllByRecursion (λ slot. is_part_in regions slot ≡ false) slots
          each [] inside = tt
          each (first ∷ rest) inside = (
            by (is_part_in regions first) refl,
            each rest (λ slot listed. inside slot (or_right (nat_eq first slot) (has_slot rest slot) listed)),
          )
            where
              listed : has_slot large first ≡ true
              listed = (let itself : nat_eq first first ≡ true = grind (arith, nat_tests) in
                  inside first (or_left (nat_eq first first) (has_slot rest first) itself))

              by : (b : Bool) → is_part_in regions first ≡ b → is_part_in regions first ≡ false
              by false e = e
              by true e = absurd (let some = is.part first (slot_all IsSlot large first are listed) (was_large first listed) e in cc)
      go (Some slot) some =
          let c = is.cut_is slot some in
          filter_one (is_part_in regions) large slot distinct ((larges_met slot c.0).0 c.1) c.2
          (λ other listed part. (let same : Some slot ≡ Some other = sym some
          ∙ is.part other (slot_all IsSlot large other are listed) (was_large other listed) part in cc))

  -- those that are whole still are mapped by one entry
  pub settled_larges : (slot : ℕ) → IsSlot slot → IsSome (large_of words' root' (slot_number slot)) ↔ IsTrue
      (has_slot (filter (is_whole_in regions) large) slot)
  settled_larges slot of = (
    (λ now. has_slot-filter (is_whole_in regions) large slot ∙ both (has_slot large slot) (is_whole_in regions slot)
        ((larges_met slot of).0 (is.only slot of now)) (is.whole slot of now)),
    (λ listed. (let two = parted (has_slot large slot) (is_whole_in regions slot)
        (sym (has_slot-filter (is_whole_in regions) large slot) ∙ listed) in
        is.kept slot of ((larges_met slot of).1 two.0) two.1)),
  )
    where
      both : (a b : Bool) → a ≡ true → b ≡ true → (a && b) ≡ true
      both true true x y = refl
      both false b x y = absurd (cc)
      both true false x y = absurd (cc)

      parted : (a b : Bool) → (a && b) ≡ true → (a ≡ true) × (b ≡ true)
      parted true true e = (refl, refl)
      parted true false e = absurd (let no : false ≡ true = e in cc)
      parted false b e = absurd (let no : false ≡ true = e in cc)

  -- the slot that was cut has a table more
  pub settled_tables : (level number : ℕ) → 0 < level → level < 4 →
      IsSome (reach words' root' level number) ↔ IsTrue (has_table (tables ++ map slot_prefix
      (filter (is_part_in regions) large)) (record { level = level; number = number }))
  settled_tables level number some less = go cut refl
    where
      p : Prefix
      p = record { level = level; number = number }

      there : has_table (tables ++ map slot_prefix (filter (is_part_in regions) large))
          p ≡ (has_table tables p || has_table (map slot_prefix (cut_slots cut)) p)
      there = list_any-append (is_same p) tables (map slot_prefix (filter (is_part_in regions) large))
          ∙ ap (λ slots. has_table tables p || has_table (map slot_prefix slots) p) parts_are

      or_none : (a : Bool) → (a || false) ≡ a
      or_none true = refl
      or_none false = refl

      stays : ((slot : ℕ) → cut ≡ Some slot → level ≡ 3 → number ≡ slot_number slot → ⊥) → has_table (map slot_prefix (cut_slots cut)) p ≡ false →
          IsSome (reach words' root' level number) ↔ IsTrue (has_table (tables ++ map slot_prefix (filter (is_part_in regions) large)) p)
      stays other none =
          let same = is.tables level number less other in
          let has : has_table (tables ++ map slot_prefix (filter (is_part_in regions) large)) p ≡ has_table tables p = there
          ∙ (ap (λ b. has_table tables p || b) none ∙ or_none (has_table tables p)) in
          let met = tables_met level number some less in
          ((λ x. has ∙ met.0 (subst IsSome same x)), (λ x. subst IsSome (sym same) (met.1 (sym has ∙ x))))

      go : (o : Option ℕ) → cut ≡ o → IsSome (reach words' root' level number) ↔ IsTrue
          (has_table (tables ++ map slot_prefix (filter (is_part_in regions) large)) p)
      go None none = stays (λ slot e. absurd (let no : None ≡ Some slot = sym none ∙ e in cc)) (ap (λ o. has_table (map slot_prefix (cut_slots o)) p) none)
      go (Some slot) e = by (is_same p (slot_prefix slot)) refl
        where
          by : (b : Bool) → is_same p (slot_prefix slot) ≡ b → IsSome (reach words' root' level number) ↔ IsTrue
              (has_table (tables ++ map slot_prefix (filter (is_part_in regions) large)) p)
          by true here =
              let parts = same_parts p (slot_prefix slot) here in
              let listed : has_table (map slot_prefix (cut_slots cut)) p ≡ true = ap (λ o. has_table (map slot_prefix (cut_slots o)) p) e ∙ rw here refl in
              let at : IsSome (reach words' root' level number) =
              subst (λ l. IsSome (reach words' root' l number)) (sym parts.0) (subst (λ n. IsSome (reach words' root' 3 n)) (sym parts.1) (is.table slot e)) in
              ((λ x. there ∙ or_right (has_table tables p) (has_table (map slot_prefix (cut_slots cut)) p) listed), (λ x. at))
          by false other = stays
              (λ one f three at. (let same : Some one ≡ Some slot = sym f ∙ e in let one_is : one ≡ slot = cc in
              let yes : is_same p (slot_prefix slot) ≡ true = subst (λ q. is_same p q ≡ true)
              ((λ i. record { level = three i; number = at i }) ∙ ap slot_prefix one_is) (same_refl p) in
              cc))
              (ap (λ o. has_table (map slot_prefix (cut_slots o)) p) e ∙ rw other refl)

  -- one table more if one was cut
  pub settled_count : length (tables ++ map slot_prefix (filter (is_part_in regions) large)) ≡ length tables + length (cut_slots cut)
  settled_count = length-append tables (map slot_prefix (filter (is_part_in regions) large))
      ∙ (ap (λ slots. length tables + length (map slot_prefix slots)) parts_are ∙ ap (λ n. length tables + n) (one cut))
    where
      one : (o : Option ℕ) → length (map slot_prefix (cut_slots o)) ≡ length (cut_slots o)
      one None = refl
      one (Some slot) = refl
