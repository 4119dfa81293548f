-- Changes of some pages: seen from inside, one after the other, and with what is to be flushed.
use Rattle.std.proofs.Common.{◌≡◌, ℕ, ◌+◌, ◌-◌, ◌*◌, ◌/◌, ◌<◌, ◌≤◌, Bool, true, false, List, length, Option, Some, None, Ok, refl, sym, ap, subst, ◌∙◌, ◌⊎◌, inl, inr, arith}
use Rattle.std.proofs.lemmas.Bool.{cases_Bool}
use Rattle.std.proofs.lemmas.Bool.Decides.{nat_tests}
use Rattle.std.specs.Prelude.{IsTrue}
use Rattle.paging_core.specs.Address.{is_canonical}
use Rattle.paging_core.specs.Area.{Area}
use Rattle.paging_core.specs.Walk.{Place, reach, walk_of}
use Rattle.kernel_tables.specs.Changes.{ChangesOnly, ChangesNone, IsChange}
use Rattle.kernel_tables.specs.Flush.{no_page, page_alone, pages_of_slot, pages_of_range, IsFlushEnough}
use Rattle.kernel_tables.specs.TableState.{TableState, leads, IsSamePlace, DoTablesStay}

-- ---- one after the other

pub same_place : (old mid new : TableState) → IsSamePlace old mid → IsSamePlace mid new → IsSamePlace old new
same_place old mid new a b = record { root = b.root ∙ a.root; area = b.area ∙ a.area; size = b.size ∙ a.size; shared = b.shared ∙ a.shared }

pub same_tables : (old mid new : TableState) → DoTablesStay old mid → DoTablesStay mid new → DoTablesStay old new
same_tables old mid new a b = λ l n met lt is. b l n met lt (a l n met lt is)

pub none_none : {old mid new : TableState} → ChangesNone old mid → ChangesNone mid new → ChangesNone old new
none_none {old} {mid} {new} a b = record {
  place = same_place old mid new a.place b.place;
  tables = same_tables old mid new a.tables b.tables;
  walks = λ other. b.walks other ∙ a.walks other;
}

pub none_only : {pages : ℕ → Bool} {old mid new : TableState} → ChangesNone old mid → ChangesOnly pages mid new → ChangesOnly pages old new
none_only {pages} {old} {mid} {new} a b = record {
  place = same_place old mid new a.place b.place;
  tables = same_tables old mid new a.tables b.tables;
  elsewhere = λ other canonical not. b.elsewhere other canonical not ∙ a.walks other;
}

-- ---- from inside: the root stays, and other words are there

module _ {old inside : TableState} {words : List ℕ} {area : Area} {free : List Bool} (view : inside ≡ old)
    (same : area ≡ inside.area) (size : length words ≡ length inside.words)
    (tables : (l n : ℕ) (met : Place) → l < 4 → reach inside.words inside.root l n ≡ Some met → reach words inside.root l n ≡ Some met) where
  pub only_seen : {pages : ℕ → Bool} →
      ((other : ℕ) → IsTrue (is_canonical (other * 4096)) → pages other ≡ false → walk_of words inside.root other ≡ walk_of inside.words inside.root other) →
      ChangesOnly pages old (record { words = words; area = area; root = inside.root; free = free; shared = inside.shared })
  only_seen {pages} elsewhere =
      subst (λ (s : TableState). ChangesOnly pages s (record { words = words; area = area; root = inside.root; free = free; shared = inside.shared })) view
      (record { place = record { root = refl; area = same; size = size; shared = refl }; tables = tables; elsewhere = elsewhere })

  pub none_seen : ((other : ℕ) → walk_of words inside.root other ≡ walk_of inside.words inside.root other) →
      ChangesNone old (record { words = words; area = area; root = inside.root; free = free; shared = inside.shared })
  none_seen walks =
      subst (λ (s : TableState). ChangesNone s (record { words = words; area = area; root = inside.root; free = free; shared = inside.shared })) view
      (record { place = record { root = refl; area = same; size = size; shared = refl }; tables = tables; walks = walks })

-- ---- which pages are others

pub other_page : (page other : ℕ) → page_alone page other ≡ false → other ≡ page → ⊥
other_page page other not e = grind (arith, nat_tests)

pub other_slot : (page other : ℕ) → pages_of_slot page other ≡ false → other / 512 ≡ page → ⊥
other_slot page other not e = grind (arith, nat_tests)

pub page_others : {page : ℕ} {old new : TableState} → ChangesOnly (page_alone page) old new → (other : ℕ) →
    IsTrue (is_canonical (other * 4096)) → (other ≡ page → ⊥) → leads new other ≡ leads old other
page_others {page} only other canonical ne = only.elsewhere other canonical (beside other page ne)
  where
    beside : (a b : ℕ) → (a ≡ b → ⊥) → page_alone b a ≡ false
    beside a b ne = grind (arith, nat_tests)

pub slot_others : {slot : ℕ} {old new : TableState} → ChangesOnly (pages_of_slot slot) old new → (other : ℕ) →
    IsTrue (is_canonical (other * 4096)) → (other / 512 ≡ slot → ⊥) → leads new other ≡ leads old other
slot_others {slot} only other canonical ne = only.elsewhere other canonical (beside (other / 512) slot ne)
  where
    beside : (a b : ℕ) → (a ≡ b → ⊥) → page_alone b a ≡ false
    beside a b ne = grind (arith, nat_tests)

-- a change of the pages of a range
pub range_only : {old new : TableState} (page pages : ℕ) → IsSamePlace old new → DoTablesStay old new →
    ((other : ℕ) → IsTrue (is_canonical (other * 4096)) → ((k : ℕ) → k < pages → other ≡ page + k → ⊥) → leads new other ≡ leads old other) →
    ChangesOnly (pages_of_range page pages) old new
range_only page pages place tables elsewhere = record {
  place = place;
  tables = tables;
  elsewhere = λ other canonical not. elsewhere other canonical (λ k lt e. out other not k lt e);
}
  where
    out : (other : ℕ) → pages_of_range page pages other ≡ false → (k : ℕ) → k < pages → other ≡ page + k → ⊥
    out other not k lt e = grind (arith, nat_tests)

-- ---- what is to be flushed

-- the pages that change
pub flush_of : {pages : ℕ → Bool} {old new : TableState} → ChangesOnly pages old new → IsFlushEnough old new pages
flush_of only = λ other place canonical not is. only.elsewhere other canonical not ∙ is

-- nothing, if these were not mapped
pub range_flush : {old new : TableState} (page pages : ℕ) → ((k : ℕ) → k < pages → leads old (page + k) ≡ None) →
    ChangesOnly (pages_of_range page pages) old new →
    IsFlushEnough old new no_page
range_flush {old} {new} page pages unmapped only = λ other place canonical not is.
    only.elsewhere other canonical (beside other place is (cases_Bool (pages_of_range page pages other))) ∙ is
  where
    within : (other : ℕ) → pages_of_range page pages other ≡ true → (page ≤ other) × (other < page + pages)
    within other is = (grind (arith, nat_tests), grind (arith, nat_tests))

    beside : (other : ℕ) (place : Place) → leads old other ≡ Some place →
        (pages_of_range page pages other ≡ true) ⊎ (pages_of_range page pages other ≡ false) →
        pages_of_range page pages other ≡ false
    beside other place is (inr x) = x
    beside other place is (inl x) =
        let w = within other x in
        let lo = w.0 in
        let hi = w.1 in
        let e : page + (other - page) ≡ other = omega arith in
        let n : leads old other ≡ None = ap (leads old) (sym e) ∙ unmapped (other - page) (omega arith) in
        let h : ◌≡◌ {A = Option Place} (Some place) None = sym is ∙ n in absurd (cc)

-- nor is a page that was not mapped
pub page_flush : {old new : TableState} (page : ℕ) → leads old page ≡ None → ChangesOnly (page_alone page) old new → IsFlushEnough old new no_page
page_flush {old} {new} page unmapped only = λ other place canonical not is. page_others only other canonical (beside other place is) ∙ is
  where
    beside : (other : ℕ) (place : Place) → leads old other ≡ Some place → other ≡ page → ⊥
    beside other place is e = let h : ◌≡◌ {A = Option Place} (Some place) None = sym is ∙ (ap (leads old) e ∙ unmapped) in absurd (cc)

-- ---- how a call answers

-- it did it
pub made : {T E : Type 0} {pages flushed : ℕ → Bool} {fault : Option E} {old new : TableState} {value : T} →
    None ≡ fault → ChangesOnly pages old new → IsFlushEnough old new flushed → IsChange pages flushed fault old (Ok value) new
made e only flush = record { refused = e; same = tt; only = only; flush = flush }

-- it did it, and what is to be flushed are the pages that change
pub made_flushed : {T E : Type 0} {pages : ℕ → Bool} {fault : Option E} {old new : TableState} {value : T} →
    None ≡ fault → ChangesOnly pages old new → IsChange pages pages fault old (Ok value) new
made_flushed e only = made e only (flush_of only)
