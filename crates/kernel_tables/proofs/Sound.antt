-- What stays true of tables in an area.
use Rattle.std.proofs.Common.{◌≡◌, ℕ, ◌+◌, ◌-◌, ◌*◌, ◌%◌, ◌^◌, ◌<◌, ◌≤◌, Bool, true, false, not, cond, ltb, List, length, Option, Some, None, refl, sym, ap, ◌∙◌, ◌⊎◌, inl, inr, arith}
use Rattle.std.proofs.lemmas.Bool.{cases_eq, cases_lt}
use Rattle.std.proofs.lemmas.Bool.Decides.{nat_tests}
use Rattle.std.specs.Prelude.{is_some, ◌&&◌}
use Rattle.paging_core.specs.Ahead.{ahead}
use Rattle.paging_core.specs.Area.{Area, Whole, Part, in_area, with_zeros_around}
use Rattle.paging_core.specs.Memory.{frame_count}
use Rattle.paging_core.specs.Missing.{missing_of}
use Rattle.paging_core.specs.Mapping.{IsPageAdded}
use Rattle.paging_core.specs.PageChanges.{Change, removal, regrant, ArePagesChanged, only}
use Rattle.paging_core.specs.Pool.{is_frame_free, free_count, FreeIn}
use Rattle.paging_core.specs.Prefix.{prefix_of}
use Rattle.paging_core.specs.Tree.{IsUnmet, IsRunUnmet}
use Rattle.paging_core.specs.Walk.{Place, reach, walk_of, place_with}
use Rattle.paging_core.specs.declared.page_table.PageBits.{PageBits}
use Rattle.paging_core.proofs.Ahead.{ahead_in, ahead_here}
use Rattle.paging_core.proofs.AreaWalk.{area_walks}
use Rattle.paging_core.proofs.Padded.{count_padded}
use Rattle.paging_core.proofs.PageChanged.{page_leads, other_walk}
use Rattle.paging_core.proofs.Prefixes.{walk_reach}
use Rattle.kernel_tables.specs.Faults.{map_fault, IsPageMappable}
use Rattle.kernel_tables.specs.TableState.{TableState, leads, limit_of, place_in, sees_area, AreSound, IsWalkedAlike}
use Rattle.kernel_tables.specs.declared.faults.MapFault.TheVariants.{IsMapped, PastLimit, InArea, NoFrames}

-- in a part of the memory a page may be mapped to any frame
pub part_unmet : (area : Area) (words : List ℕ) (root frame : ℕ) → (area ≡ Whole → ⊥) → IsUnmet area words root frame
part_unmet Whole words root frame part = absurd (part refl)
part_unmet (Part first end) words root frame part = tt

pub part_run_unmet : (area : Area) (words : List ℕ) (root frame : ℕ) → (area ≡ Whole → ⊥) → IsRunUnmet area words root frame
part_run_unmet Whole words root frame part = absurd (part refl)
part_run_unmet (Part first end) words root frame part = tt

-- no page leads into the area but those that may
abbrev pub LeadsOutside : Bool → Area → List ℕ → ℕ → Type 0
LeadsOutside shared area words root =
    (page : ℕ) (place : Place) → walk_of words root page ≡ Some place → (shared && not place.user) ≡ false → in_area area place.frame ≡ false

pub unless_first : (a b : Bool) → (not a && b) ≡ false → a ≡ false → b ≡ false
unless_first true b e is = absurd (cc)
unless_first false b e is = e

pub first_unless : (a b : Bool) → (a ≡ true → b ≡ false) → (a && b) ≡ false
first_unless false b h = refl
first_unless true b h = h refl

-- where a page leads by which users would not reach the area
pub hidden_of : (shared : Bool) (area : Area) (words : List ℕ) (root page : ℕ) (user : Bool) → LeadsOutside shared area words root →
    (user && place_in area (walk_of words root page)) ≡ false →
    (was : Place) → walk_of words root page ≡ Some was → (shared && not user) ≡ false → in_area area was.frame ≡ false
hidden_of shared area words root page true before hidden was at out = sym (ap (place_in area) at) ∙ hidden
hidden_of shared area words root page false before hidden was at out = before page was at (for_all shared out)
  where
    for_all : (s : Bool) → (s && not false) ≡ false → (s && not was.user) ≡ false
    for_all false e = refl
    for_all true e = absurd (cc)

pub given_outside : (area : Area) (words : List ℕ) (root page : ℕ) (user : Bool) (place : Place) → walk_of words root page ≡ Some place →
    in_area area place.frame ≡ false → (user && place_in area (walk_of words root page)) ≡ false
given_outside area words root page user place led out = first_unless user (place_in area (walk_of words root page)) (λ _. ap (place_in area) led ∙ out)

pub given_none : (a b : Bool) → a ≡ false → (a && b) ≡ false
given_none a b e = rw e refl

-- two numbers of one page
pub same_page : (words : List ℕ) (root page other : ℕ) → page % 2 ^ 36 ≡ other % 2 ^ 36 → walk_of words root page ≡ walk_of words root other
unfolding walk_of
same_page words root page other e = ap (reach words root 4) e

pub added_outside : (shared : Bool) (area : Area) (old new : List ℕ) (free free' : List Bool) (root page frame : ℕ) (rights : PageBits) →
    IsPageAdded old new free free' root page frame rights → ((shared && not rights.user) ≡ false → in_area area frame ≡ false) →
    LeadsOutside shared area old root → LeadsOutside shared area new root
added_outside shared area old new free free' root page frame rights added out before other place is kept = go (cases_eq (other % 2 ^ 36) (page % 2 ^ 36))
  where
    go : (other % 2 ^ 36 ≡ page % 2 ^ 36) ⊎ (other % 2 ^ 36 ≡ page % 2 ^ 36 → ⊥) → in_area area place.frame ≡ false
    go (inl e) =
        let p : Some (place_with frame rights) ≡ Some place = sym added.there
        ∙ (same_page new root page other (sym e) ∙ is) in
        let q : place_with frame rights ≡ place = cc in
        ap (in_area area) (sym (ap (λ r. r.frame) q)) ∙ out (ap (λ r. shared && not r.user) q ∙ kept)
    go (inr ne) = before other place (sym (added.pages other ne) ∙ is) kept

-- if the changed page does not lead into the area, or users do not reach it
changed_outside : (shared : Bool) (area : Area) (old new : List ℕ) (root page : ℕ) (change : Change) → ArePagesChanged old new root change (only page) →
    ((was now : Place) → walk_of old root page ≡ Some was → change.leads was ≡ Some now → (shared && not now.user) ≡ false →
    in_area area now.frame ≡ false) →
    LeadsOutside shared area old root → LeadsOutside shared area new root
changed_outside shared area old new root page change all here before other place is kept = go (cases_eq (other % 2 ^ 36) (page % 2 ^ 36))
  where
    go : (other % 2 ^ 36 ≡ page % 2 ^ 36) ⊎ (other % 2 ^ 36 ≡ page % 2 ^ 36 → ⊥) → in_area area place.frame ≡ false
    go (inl e) =
        let m = all.mapped (prefix_of page 4) (grind (arith, nat_tests)) in
        let was : walk_of old root page ≡ Some m.0 = walk_reach old root page ∙ m.1 in
        let now : walk_of new root page ≡ Some place = same_page new root page other (sym e) ∙ is in
        here m.0 place was (sym (page_leads old new root page change all m.0 was) ∙ now) kept
    go (inr ne) = before other place (sym (other_walk old new root page change all other ne) ∙ is) kept

pub removed_outside : (shared : Bool) (area : Area) (old new : List ℕ) (root page : ℕ) → ArePagesChanged old new root removal (only page) →
    LeadsOutside shared area old root → LeadsOutside shared area new root
removed_outside shared area old new root page all before = changed_outside shared area old new root page removal all
    (λ was now at e user. let x : ◌≡◌ {A = Option Place} None (Some now) = e in absurd (cc)) before

pub regranted_outside : (shared : Bool) (area : Area) (old new : List ℕ) (root page : ℕ) (rights : PageBits) → ArePagesChanged old new root (regrant rights) (only page) →
    ((was : Place) → walk_of old root page ≡ Some was → (shared && not rights.user) ≡ false → in_area area was.frame ≡ false) →
    LeadsOutside shared area old root → LeadsOutside shared area new root
regranted_outside shared area old new root page rights all hidden before = changed_outside shared area old new root page (regrant rights) all granted before
  where
    granted : (was now : Place) → walk_of old root page ≡ Some was → (regrant rights).leads was ≡ Some now →
        (shared && not now.user) ≡ false → in_area area now.frame ≡ false
    granted was now at e kept =
        let x : Some (place_with was.frame rights) ≡ Some now = e in
        let q : place_with was.frame rights ≡ now = cc in
        ap (in_area area) (sym (ap (λ r. r.frame) q)) ∙ hidden was at (ap (λ r. shared && not r.user) q ∙ kept)

-- no fault of a page
pub no_fault : (state : TableState) (page frame : ℕ) (user : Bool) → map_fault state page frame user ≡ None → IsPageMappable state page frame user
no_fault state page frame user none =
    let f = go (leads state page) (not (ltb frame (limit_of state))) (not (sees_area state user) && in_area state.area frame)
    (ltb (free_count state.free) (missing_of state.words state.root page 1)) none in
    record {
      unmapped = f.0;
      below = (let b = f.1 in grind (arith, nat_tests));
      outside = unless_first (sees_area state user) (in_area state.area frame) f.2;
      room = (let b = f.3 in grind (arith, nat_tests));
    }
  where
    go : (o : Option Place) (past inside few : Bool) →
        cond (is_some o) (Some IsMapped) (cond past (Some PastLimit) (cond inside (Some InArea)
        (cond few (Some (NoFrames (missing_of state.words state.root page 1 - free_count state.free))) None))) ≡ None →
        (o ≡ None) × (past ≡ false) × (inside ≡ false) × (few ≡ false)
    go (Some x) past inside few e = absurd (cc)
    go None true inside few e = absurd (cc)
    go None false true few e = absurd (cc)
    go None false false true e = absurd (cc)
    go None false false false e = (refl, refl, refl, refl)

-- ---- the area at the start: each frame is free

pub start_known : (area : Area) (ws words : List ℕ) (free : List Bool) (first limit end : ℕ) → area ≡ Part first end →
    ws ≡ with_zeros_around words first limit → free ≡ ahead first end →
    512 * first + length words ≡ 512 * end → end ≤ limit → FreeIn area free (frame_count ws)
start_known area ws words free first limit end e f g size le =
    rw (e, f, g) (λ frame is.
    let a = ahead_in first end frame is in
    let c = count_padded words first limit (omega arith) in
    (grind (arith, nat_tests), omega arith))

pub start_some : (free : List Bool) (first end : ℕ) → free ≡ ahead first end → first < end → ((f : ℕ) → is_frame_free free f ≡ false) → ⊥
start_some free first end e lt none =
    let h : is_frame_free free first ≡ true = ap (λ flags. is_frame_free flags first) e ∙ ahead_here first end lt in
    let n = none first in
    let z : true ≡ false = sym h ∙ n in absurd (cc)

pub start_root : (free : List Bool) (first end root : ℕ) → free ≡ ahead first end → first < end →
    is_frame_free free root ≡ true →
    ((lower : ℕ) → lower < root → is_frame_free free lower ≡ false) → root ≡ first
start_root free first end root e lt is lowest = go (cases_lt first root)
  where
    go : (first < root) ⊎ (root ≤ first) → root ≡ first
    go (inl more) =
        let h : is_frame_free free first ≡ true = ap (λ flags. is_frame_free flags first) e ∙ ahead_here first end lt in
        let n = lowest first more in
        let z : true ≡ false = sym h ∙ n in absurd (cc)
    go (inr le) = let a = ahead_in first end root (sym (ap (λ flags. is_frame_free flags root) e) ∙ is) in omega arith

-- whatever else the memory holds, a processor finds the pages of sound tables
pub walked_alike : (state : TableState) → AreSound state → IsWalkedAlike state
walked_alike state sound = λ real page width holds reaches.
    let w = area_walks state.area state.words real state.root page width state.free sound.tree holds reaches in
    (w.0, w.1)
