-- What follows if a range is not refused.
use Rattle.std.proofs.Common.{◌≡◌, ℕ, zero, suc, ◌+◌, ◌-◌, ◌*◌, ◌<◌, Bool, true, false, not, cond, ltb, Option, Some, None, refl, ap, ◌∙◌, ◌⊎◌, inl, inr, arith}
use Rattle.std.proofs.lemmas.Bool.{cases_Bool}
use Rattle.std.proofs.lemmas.Bool.Decides.{nat_tests}
use Rattle.std.specs.Prelude.{is_some, IsTrue, ◌==◌, ◌&&◌}
use Rattle.std.specs.Option.{option_or, option_map}
use Rattle.paging_core.specs.Address.{is_canonical}
use Rattle.paging_core.specs.Area.{area_meets}
use Rattle.paging_core.specs.Pool.{free_count}
use Rattle.paging_core.specs.Walk.{Place}
use Rattle.paging_core.specs.declared.page_table.PageBits.{PageBits}
use Rattle.paging_core.proofs.Ranges.{missing_none}
use Rattle.kernel_tables.specs.Changes.{IsMappedInARow}
use Rattle.kernel_tables.specs.Ranges.{lies_in_half, lowest, lowest_mapped, tables_wanted, map_range_fault, becomes_large, AreSlotsLarge, IsMappableRange}
use Rattle.kernel_tables.specs.Flush.{pages_of_range}
use Rattle.kernel_tables.proofs.KeptWords.{words_same}
use Rattle.kernel_tables.specs.TableState.{TableState, leads, limit_of, sees_area}
use Rattle.kernel_tables.specs.declared.range_fault.RangeFault.TheVariants.{NotCanonical, IsMapped, PastLimit, InArea, NoFrames}
use Rattle.kernel_tables.proofs.RangeMapped.{becomes}
use Rattle.kernel_tables.proofs.Sound.{unless_first}

-- if there is no lowest number, the test holds for none
pub none_of_all : (test : ℕ → Bool) (from count : ℕ) → lowest test from count ≡ None → (k : ℕ) → k < count → test (from + k) ≡ false
unfolding lowest
none_of_all test from zero e k lt = absurd (omega arith)
none_of_all test from (suc count) e k lt = go (λ h j lj. none_of_all test (from + 1) count h j lj) (cases_Bool (test from)) k lt
  where
    go : (lowest test (from + 1) count ≡ None → (j : ℕ) → j < count → test (from + 1 + j) ≡ false) → (test from ≡ true) ⊎ (test from ≡ false) →
        (k : ℕ) → k < suc count → test (from + k) ≡ false
    go rest (inl t) k lt = let h : Some from ≡ None = rw t at e in absurd (cc)
    go rest (inr t) zero lt = let z : from + 0 ≡ from = omega arith in ap test z ∙ t
    go rest (inr t) (suc k) lt =
        let s : from + suc k ≡ from + 1 + k = omega arith in
        ap test s ∙ rest (rw t at e) k (omega arith)

unmapped_of : (o : Option Place) → is_some o ≡ false → o ≡ None
unmapped_of None e = refl
unmapped_of (Some x) e = absurd (cc)

pub no_range_fault : (state : TableState) (page pages frame : ℕ) (user : Bool) → 0 < pages → IsTrue (is_canonical (page * 4096)) →
    map_range_fault state page pages frame user ≡ None →
    IsMappableRange state page pages frame user
no_range_fault state page pages frame user some canonical none =
    let zero_not : (pages == 0) ≡ false = grind (arith, nat_tests) in
    let f = go (pages == 0) (lies_in_half page pages) (lowest_mapped state page pages)
    (ltb (limit_of state) (frame + pages)) (not (sees_area state user) && area_meets state.area frame pages)
    (ltb (free_count state.free) (tables_wanted state page pages frame)) (tables_wanted state page pages frame - free_count state.free) none zero_not in
    let half = f.0 in
    let past = f.2 in
    let few = f.4 in
    record {
      range = record { some = some; canonical = canonical; one_half = grind (arith, nat_tests) };
      unmapped = λ k lt. unmapped_of (leads state (page + k)) (none_of_all (λ at. is_some (leads state at)) page pages f.1 k lt);
      below = grind (arith, nat_tests);
      outside = unless_first (sees_area state user) (area_meets state.area frame pages) f.3;
      room = grind (arith, nat_tests);
    }
  where
    go : (zero half : Bool) (mapped : Option ℕ) (past meets few : Bool) (wanting : ℕ) →
        cond zero None
        (cond (not half) (Some NotCanonical)
        (option_or (option_map IsMapped mapped) (cond past (Some PastLimit) (cond meets (Some InArea) (cond few (Some (NoFrames wanting)) None))))) ≡ None →
        zero ≡ false → (half ≡ true) × (mapped ≡ None) × (past ≡ false) × (meets ≡ false) × (few ≡ false)
    go true half mapped past meets few wanting e z = absurd (cc)
    go false false mapped past meets few wanting e z = absurd (cc)
    go false true (Some x) past meets few wanting e z = absurd (cc)
    go false true None true meets few wanting e z = absurd (cc)
    go false true None false true few wanting e z = absurd (cc)
    go false true None false false true wanting e z = absurd (cc)
    go false true None false false false wanting e z = (refl, refl, refl, refl, refl)

-- ---- no page

none_wanted : (state : TableState) (page frame : ℕ) → tables_wanted state page 0 frame ≡ 0
none_wanted state page frame = let z = missing_none state.words state.root page in omega arith

none_large : (state : TableState) (page frame : ℕ) (rights : PageBits) → AreSlotsLarge state state page 0 frame rights
none_large state page frame rights = λ slot canonical. let e = not_large slot (cases_Bool (becomes_large state page 0 frame slot)) in rw e refl
  where
    not_large : (slot : ℕ) → (becomes_large state page 0 frame slot ≡ true) ⊎ (becomes_large state page 0 frame
        slot ≡ false) → becomes_large state page 0 frame slot ≡ false
    not_large slot (inl x) = let b = becomes state page 0 frame slot x in let f = b.from in let t = b.to in absurd (omega arith)
    not_large slot (inr x) = x

-- a range of no pages is mapped by nothing
pub none_mapped : (state : TableState) (page frame : ℕ) (rights : PageBits) → IsMappedInARow state state page 0 frame rights
none_mapped state page frame rights = record {
  mapped = λ k lt. absurd (omega arith);
  free = (let z = none_wanted state page frame in omega arith);
  large = none_large state page frame rights;
  words = words_same (pages_of_range page 0) state;
}
