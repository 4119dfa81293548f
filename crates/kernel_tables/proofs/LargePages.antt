-- Large pages of tables in an area.
use Rattle.std.proofs.Common.{◌≡◌, ℕ, ◌+◌, ◌-◌, ◌*◌, ◌/◌, ◌%◌, ◌^◌, ◌<◌, ◌≤◌, Bool, true, false, not, cond, ltb, List, Option, Some, None, refl, sym, ap, ◌∙◌, ◌⊎◌, inl, inr, arith}
use Rattle.std.proofs.lemmas.Bool.{cases_eq}
use Rattle.std.proofs.lemmas.Bool.Decides.{nat_tests}
use Rattle.std.specs.Prelude.{is_some, ◌&&◌, IsSome, IsTrue}
use Rattle.paging_core.specs.Area.{Area, Whole, Part, in_area, area_meets}
use Rattle.paging_core.specs.Large.{slot_of, missing_above, IsSlotEmpty, IsLargeAdded, IsLargeRemoved}
use Rattle.paging_core.specs.Missing.{missing_of}
use Rattle.paging_core.specs.Pool.{free_count}
use Rattle.paging_core.specs.Prefix.{prefix_of}
use Rattle.paging_core.specs.Tables.{missing_at}
use Rattle.paging_core.specs.Walk.{Place, reach, large_of, place_with}
use Rattle.paging_core.specs.declared.page_table.PageBits.{PageBits}
use Rattle.paging_core.proofs.Counts.{missing_one}
use Rattle.paging_core.proofs.Prefixes.{walk_reach}
use Rattle.paging_core.proofs.Reach.{reach_none}
use Rattle.kernel_tables.specs.Faults.{map_large_fault}
use Rattle.kernel_tables.specs.TableState.{TableState, limit_of, sees_area}
use Rattle.kernel_tables.specs.declared.faults.MapFault.TheVariants.{IsMapped, HasTable, PastLimit, InArea, NoFrames}
use Rattle.kernel_tables.proofs.Sound.{LeadsOutside, same_page, unless_first}

-- a row of frames that does not meet the area lies outside it
pub row_outside : (area : Area) (from count : ℕ) → area_meets area from count ≡ false → (k : ℕ) → k < count → in_area area (from + k) ≡ false
row_outside Whole from count out k lt = absurd (let m : ltb 0 count ≡ true = grind (arith, nat_tests) in let z : true ≡ false = sym m ∙ out in cc)
row_outside (Part first end) from count out k lt = grind (arith, nat_tests)

-- a slot with neither a large page nor a table has no page
pub slot_empty : (words : List ℕ) (root page : ℕ) → large_of words root (slot_of page) ≡ None →
    reach words root 3 (slot_of page) ≡ None → IsSlotEmpty words root page
slot_empty words root page small none = record {
  unmapped = λ k lt.
      let q : prefix_of (512 * page + k) 4 / 512 ≡ slot_of page = omega arith in
      walk_reach words root (512 * page + k)
      ∙ reach_none words root (prefix_of (512 * page + k) 4) (ap (reach words root 3) q ∙ none) (ap (large_of words root) q ∙ small);
  no_table = none;
}

-- the tables that are missing for the first page of the slot: those above it, and the slot's own
pub slot_missing : (words : List ℕ) (root page : ℕ) → reach words root 3 (slot_of page) ≡ None →
    missing_of words root (512 * page) 1 ≡ missing_above words root page + 1
slot_missing words root page none =
    let m = missing_one words root (512 * page) in
    let q : prefix_of (512 * page) 3 ≡ slot_of page = omega arith in
    let n : reach words root 3 (prefix_of (512 * page) 3) ≡ None = ap (reach words root 3) q ∙ none in
    let o : missing_at words root (512 * page) 3 ≡ 1 = rw n refl in
    omega arith

-- two numbers of one slot, and the page of a slot by its place there
in_slot : (page other : ℕ) → other / 512 % 2 ^ 27 ≡ slot_of page → (512 * page + other % 512) % 2 ^ 36 ≡ other % 2 ^ 36
in_slot page other e = omega arith

pub large_outside : (shared : Bool) (area : Area) (old new : List ℕ) (free free' : List Bool) (root page frame : ℕ) (rights : PageBits) →
    IsLargeAdded old new free free' root page frame rights → ((shared && not rights.user) ≡ false → area_meets area (512 * frame) 512 ≡ false) →
    LeadsOutside shared area old root → LeadsOutside shared area new root
large_outside shared area old new free free' root page frame rights added out before other place is kept = go (cases_eq (other / 512 % 2 ^ 27) (slot_of page))
  where
    go : (other / 512 % 2 ^ 27 ≡ slot_of page) ⊎ (other / 512 % 2 ^ 27 ≡ slot_of page → ⊥) → in_area area place.frame ≡ false
    go (inl e) =
        let t = added.there (other % 512) (omega arith) in
        let p : Some (place_with (512 * frame + other % 512) rights) ≡ Some place =
        sym t ∙ (same_page new root (512 * page + other % 512) other (in_slot page other e) ∙ is) in
        let q : place_with (512 * frame + other % 512) rights ≡ place = cc in
        ap (in_area area) (sym (ap (λ r. r.frame) q)) ∙ row_outside area (512 * frame) 512 (out (ap (λ r. shared && not r.user) q ∙ kept)) (other % 512) (omega arith)
    go (inr ne) = before other place (sym (added.pages other ne) ∙ is) kept

pub gone_outside : (shared : Bool) (area : Area) (old new : List ℕ) (root page : ℕ) → IsLargeRemoved old new root page →
    LeadsOutside shared area old root → LeadsOutside shared area new root
gone_outside shared area old new root page gone before other place is kept = go (cases_eq (other / 512 % 2 ^ 27) (slot_of page))
  where
    go : (other / 512 % 2 ^ 27 ≡ slot_of page) ⊎ (other / 512 % 2 ^ 27 ≡ slot_of page → ⊥) → in_area area place.frame ≡ false
    go (inl e) =
        let t = gone.gone (other % 512) (omega arith) in
        let p : ◌≡◌ {A = Option Place} None (Some place) = sym t ∙ (same_page new root (512 * page + other % 512) other (in_slot page other e) ∙ is) in
        absurd (cc)
    go (inr ne) =
        let q : prefix_of other 4 / 512 ≡ other / 512 % 2 ^ 27 = omega arith in
        before other place
        (walk_reach old root other ∙ (sym (gone.others 4 (prefix_of other 4) (omega arith) (λ _ e. ne (sym q ∙ e))) ∙ (sym (walk_reach new root other) ∙ is))) kept

-- no fault of a large page
pub record HasNoFault (state : TableState) (page frame : ℕ) (user : Bool) : Type 0 where
  pub small : large_of state.words state.root (slot_of page) ≡ None
  pub no_table : reach state.words state.root 3 (slot_of page) ≡ None
  pub below : 512 * frame + 511 < limit_of state
  pub outside : sees_area state user ≡ false → area_meets state.area (512 * frame) 512 ≡ false
  pub room : missing_above state.words state.root page ≤ free_count state.free

is_none_of : (o : Option Place) → is_some o ≡ false → o ≡ None
is_none_of None e = refl
is_none_of (Some p) e = absurd (cc)

pub no_large_fault : (state : TableState) (page frame : ℕ) (user : Bool) → map_large_fault state page frame user ≡ None → HasNoFault state page frame user
no_large_fault state page frame user none =
    let f = go (is_some (large_of state.words state.root (slot_of page))) (is_some (reach state.words state.root 3 (slot_of page)))
    (not (ltb (512 * frame + 511) (limit_of state))) (not (sees_area state user) && area_meets state.area (512 * frame) 512)
    (ltb (free_count state.free) (missing_above state.words state.root page)) none in
    record {
      small = is_none_of (large_of state.words state.root (slot_of page)) f.0;
      no_table = is_none_of (reach state.words state.root 3 (slot_of page)) f.1;
      below = (let b = f.2 in grind (arith, nat_tests));
      outside = unless_first (sees_area state user) (area_meets state.area (512 * frame) 512) f.3;
      room = (let b = f.4 in grind (arith, nat_tests));
    }
  where
    go : (large table past meets few : Bool) →
        cond large (Some IsMapped) (cond table (Some HasTable) (cond past (Some PastLimit)
        (cond meets (Some InArea) (cond few (Some (NoFrames (missing_above state.words state.root page - free_count
        state.free))) None)))) ≡ None →
        (large ≡ false) × (table ≡ false) × (past ≡ false) × (meets ≡ false) × (few ≡ false)
    go true table past meets few e = absurd (cc)
    go false true past meets few e = absurd (cc)
    go false false true meets few e = absurd (cc)
    go false false false true few e = absurd (cc)
    go false false false false true e = absurd (cc)
    go false false false false false e = (refl, refl, refl, refl, refl)

pub none_unless : (b : Bool) (o : Option Place) → b ≡ false → (IsSome o → IsTrue b) → o ≡ None
none_unless b None e f = refl
none_unless b (Some p) e f = let t : b ≡ true = f refl in absurd (cc)

-- a part of a row of frames that does not meet the area
pub row_part : (area : Area) (from count a m : ℕ) → area_meets area from count ≡ false → from ≤ a → a + m ≤ from + count → area_meets area a m ≡ false
row_part Whole from count a m out lo hi = grind (arith, nat_tests)
row_part (Part first end) from count a m out lo hi = grind (arith, nat_tests)
