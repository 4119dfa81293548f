-- Which slots are large after a change of single pages, and after the parts of a change of a range.
use Rattle.std.proofs.Common.{◌≡◌, ℕ, ◌+◌, ◌-◌, ◌*◌, ◌/◌, ◌^◌, ◌<◌, Bool, true, false, not, cond, List, Option, Some, None, refl, ap, ◌∙◌, ◌⊎◌, inl, inr, arith}
use Rattle.std.proofs.lemmas.Bool.{cases_Bool, cases_eq}
use Rattle.std.proofs.lemmas.Bool.Decides.{nat_tests}
use Rattle.std.specs.Prelude.{◌==◌, ◌&&◌, ◌||◌, IsTrue, IsSome}
use Rattle.std.specs.Option.{option_map}
use Rattle.paging_core.specs.Address.{is_canonical}
use Rattle.paging_core.specs.Large.{slot_of}
use Rattle.paging_core.specs.Prefix.{prefix_of}
use Rattle.paging_core.specs.Walk.{Place, reach, large_of, place_with}
use Rattle.paging_core.specs.declared.page_table.PageBits.{PageBits}
use Rattle.paging_core.proofs.LastEntry.{some_or_none}
use Rattle.paging_core.proofs.Ranges.{same_number}
use Rattle.paging_core.proofs.Reach.{table_none}
use Rattle.kernel_tables.specs.Ranges.{is_slot_of, has_page_of, lies_whole, is_cut, AreNotLarge, AreSlotsGranted}
use Rattle.kernel_tables.specs.TableState.{TableState}

-- the large page of the slot
abbrev pub large_at : TableState → ℕ → Option Place
large_at state slot = large_of state.words state.root (slot_of slot)

-- ---- one change after the other

pub not_large_then : (old mid new : TableState) (first second both : ℕ → Bool) →
    ((slot : ℕ) → both slot ≡ (first slot || second slot)) → AreNotLarge first old mid → AreNotLarge second mid new → AreNotLarge both old new
not_large_then old mid new first second both each before after = λ slot canonical.
    after slot canonical ∙ go (first slot) (second slot) (both slot) (large_at old slot) (large_at mid slot) (each slot) (before slot canonical)
  where
    go : (a b c : Bool) (was is : Option Place) → c ≡ (a || b) → is ≡ cond a None was → cond b None is ≡ cond c None was
    go true true c was is e i = rw e refl
    go true false c was is e i = rw e i
    go false true c was is e i = rw e refl
    go false false c was is e i = rw e i

-- ---- single pages

pub page_not_large : (old new : TableState) (page : ℕ) → large_of new.words new.root (slot_of (page / 512)) ≡ None →
    ((n : ℕ) → (n ≡ slot_of (page / 512) → ⊥) → large_of new.words new.root n ≡ large_of old.words old.root n) → AreNotLarge (is_slot_of page) old new
page_not_large old new page none larges = λ slot canonical. go (slot_of slot) (cases_eq (slot_of slot) (slot_of (page / 512)))
  where
    go : (n : ℕ) → (n ≡ slot_of (page / 512)) ⊎ (n ≡ slot_of (page / 512) → ⊥) →
        large_of new.words new.root n ≡ cond (n == slot_of (page / 512)) None (large_of old.words old.root n)
    go n (inl e) = let t : (n == slot_of (page / 512)) ≡ true = grind (arith, nat_tests) in rw t (ap (large_of new.words new.root) e ∙ none)
    go n (inr ne) = let t : (n == slot_of (page / 512)) ≡ false = grind (arith, nat_tests) in rw t (larges n ne)

-- a slot that has a table is not large
pub table_small : (words : List ℕ) (root page : ℕ) → IsSome (reach words root 3 (prefix_of page 3)) → large_of words root (slot_of (page / 512)) ≡ None
table_small words root page some = go (some_or_none (reach words root 3 (prefix_of page 3)))
  where
    go : ((x : Place) × (reach words root 3 (prefix_of page 3) ≡ Some x)) ⊎ (reach words root 3 (prefix_of page 3) ≡ None) →
        large_of words root (slot_of (page / 512)) ≡ None
    go (inl x) =
        let e : slot_of (page / 512) ≡ prefix_of page 3 = omega arith in
        ap (large_of words root) e ∙ table_none words root (prefix_of page 3) x.0 x.1
    go (inr none) = let h : IsSome {T = Place} None = rw none at some in absurd (cc)

-- ---- the ends of a range

-- a slot of a canonical page is known by its first three indices
pub slot_same : (slot page : ℕ) → IsTrue (is_canonical (512 * slot * 4096)) → IsTrue (is_canonical (page * 4096)) →
    slot_of slot ≡ slot_of (page / 512) → slot ≡ page / 512
slot_same slot page canonical there e =
    let half : 512 * (page / 512) * 4096 / 2 ^ 47 ≡ page * 4096 / 2 ^ 47 = omega arith in
    let first : IsTrue (is_canonical (512 * (page / 512) * 4096)) = rw half there in
    let n : 512 * slot ≡ 512 * (page / 512) = same_number (512 * slot) (512 * (page / 512)) canonical first (omega arith) in
    omega arith

-- the slot of one end is split if it does not lie whole in the range
abbrev pub is_cut_at : ℕ → ℕ → ℕ → ℕ → Bool
is_cut_at page pages at slot = slot == at / 512 && not (lies_whole page pages slot)

pub end_not_large : (old new : TableState) (page pages at : ℕ) → IsTrue (is_canonical (at * 4096)) →
    large_at new (at / 512) ≡ cond (lies_whole page pages (at / 512)) (large_at old (at / 512)) None →
    ((n : ℕ) → (n ≡ slot_of (at / 512) → ⊥) → large_of new.words new.root n ≡ large_of old.words old.root n) →
    AreNotLarge (is_cut_at page pages at) old new
end_not_large old new page pages at there here larges = λ slot canonical. go slot canonical (cases_eq slot (at / 512))
  where
    turned : (b : Bool) (was : Option Place) → cond b was None ≡ cond (not b) None was
    turned true was = refl
    turned false was = refl

    go : (slot : ℕ) → IsTrue (is_canonical (512 * slot * 4096)) → (slot ≡ at / 512) ⊎ (slot ≡ at / 512 → ⊥) →
        large_at new slot ≡ cond (is_cut_at page pages at slot) None (large_at old slot)
    go slot canonical (inl e) =
        let t : (slot == at / 512) ≡ true = grind (arith, nat_tests) in
        rw (t, e) (here ∙ turned (lies_whole page pages (at / 512)) (large_at old (at / 512)))
    go slot canonical (inr ne) =
        let t : (slot == at / 512) ≡ false = grind (arith, nat_tests) in
        rw t (larges (slot_of slot) (λ e. ne (slot_same slot at canonical there e)))

-- a slot that has pages of the range and others is that of an end
pub cut_at_ends : (page pages slot : ℕ) → 0 < pages →
    is_cut page pages slot ≡ (is_cut_at page pages page slot || is_cut_at page pages (page + (pages - 1)) slot)
cut_at_ends page pages slot some = go (cases_Bool (lies_whole page pages slot))
  where
    none : (a b c : Bool) → (a && false) ≡ (b && false || c && false)
    none true true true = refl
    none true true false = refl
    none true false true = refl
    none true false false = refl
    none false true true = refl
    none false true false = refl
    none false false true = refl
    none false false false = refl

    all : (a b c : Bool) → a ≡ (b || c) → (a && true) ≡ (b && true || c && true)
    all true true true e = refl
    all true true false e = refl
    all true false true e = refl
    all true false false e = absurd (cc)
    all false true true e = absurd (cc)
    all false true false e = absurd (cc)
    all false false true e = absurd (cc)
    all false false false e = refl

    go : (lies_whole page pages slot ≡ true) ⊎ (lies_whole page pages slot ≡ false) →
        is_cut page pages slot ≡ (is_cut_at page pages page slot || is_cut_at page pages (page + (pages - 1)) slot)
    go (inl w) = rw w (none (has_page_of page pages slot) (slot == page / 512) (slot == (page + (pages - 1)) / 512))
    go (inr w) = rw w (all (has_page_of page pages slot) (slot == page / 512) (slot == (page + (pages - 1)) / 512) (grind (arith, nat_tests)))

-- ---- the whole range, after its ends

pub cut_or_has : (page pages slot : ℕ) → has_page_of page pages slot ≡ (is_cut page pages slot || has_page_of page pages slot)
cut_or_has page pages slot = go (has_page_of page pages slot) (lies_whole page pages slot)
  where
    go : (a b : Bool) → a ≡ ((a && not b) || a)
    go true true = refl
    go true false = refl
    go false true = refl
    go false false = refl

pub granted_then : (old mid new : TableState) (page pages : ℕ) (bits : Place → PageBits) → AreNotLarge (is_cut page pages) old mid →
    AreSlotsGranted mid new page pages bits → AreSlotsGranted old new page pages bits
granted_then old mid new page pages bits before after = λ slot canonical.
    after slot canonical
    ∙ go (has_page_of page pages slot) (lies_whole page pages slot) (large_at old slot) (large_at mid slot) (before slot canonical)
  where
    go : (a b : Bool) (was is : Option Place) → is ≡ cond (a && not b) None was →
        cond b (option_map (λ (large : Place). place_with large.frame (bits large)) is) (cond a None is)
        ≡ cond b (option_map (λ (large : Place). place_with large.frame (bits large)) was) (cond a None was)
    go true true was is e = rw e refl
    go true false was is e = refl
    go false true was is e = rw e refl
    go false false was is e = rw e refl

-- ---- a range of no pages

pub none_whole : (page slot : ℕ) → lies_whole page 0 slot ≡ false
none_whole page slot = grind (arith, nat_tests)
