-- What the end of a page's walk says of the causes.
use Rattle.std.proofs.Common.{◌/◌, ◌%◌, ◌*◌, ◌+◌, ◌-◌, ◌<◌, ◌≤◌, ◌⊎◌, inl, inr, ◌≡◌, ℕ, Bool, true, List, Option, Some, None, refl, sym, ap, ◌∙◌, arith, ltb, false}
use Rattle.std.proofs.lemmas.Bool.Decides.{nat_tests}
use Rattle.std.specs.Prelude.{IsSome}
use Rattle.paging_core.specs.Area.{Area, in_area}
use Rattle.paging_core.specs.Missing.{missing_of}
use Rattle.paging_core.specs.Pool.{free_count}
use Rattle.paging_core.specs.Prefix.{prefix_of}
use Rattle.paging_core.specs.Tree.{IsTreeIn}
use Rattle.paging_core.specs.Large.{slot_of}
use Rattle.paging_core.specs.Walk.{Place, mapped_place, reach, large_of, walk_of, page_in}
use Rattle.paging_core.specs.Memory.{frame_count}
use Rattle.paging_core.proofs.LastEntry.{some_or_none}
use Rattle.paging_core.proofs.Made.{large_below}
use Rattle.paging_core.specs.WalkEnd.{IsEntryOf, IsWalkEnd}
use Rattle.paging_core.specs.declared.walk_end.WalkEnd.{WalkEnd}
use Rattle.paging_core.specs.declared.walk_end.WalkEnd.TheVariants.{Entry, Large, Missing}
use Rattle.paging_core.proofs.EntryAt.{none_missing}
use Rattle.paging_core.proofs.Reach.{table_none}
use Rattle.kernel_tables.specs.Faults.{map_fault, entry_fault, split_of}
use Rattle.kernel_tables.specs.TableState.{TableState, leads}
use Rattle.kernel_tables.proofs.RangeChanged.{not_split, is_hole, large_there, slot_led}
use Rattle.kernel_tables.proofs.RangeTests.{some_is}
use Rattle.kernel_tables.specs.declared.faults.MapFault.TheVariants.{IsMapped}

-- where a page leads if its walk ends like this
abbrev pub place_at : WalkEnd → Option Place
place_at (Entry entry None) = None
place_at (Entry entry (Some met)) = Some (mapped_place met)
place_at (Large met) = Some (mapped_place met)
place_at (Missing tables) = None

pub leads_at : (state : TableState) (page : ℕ) (end : WalkEnd) → IsWalkEnd state.words state.root page end → leads state page ≡ place_at end
leads_at state page (Entry entry None) is = sym is.1
leads_at state page (Entry entry (Some met)) is = sym is.1
leads_at state page (Large met) is = is.1
leads_at state page (Missing tables) is = is.1

-- a page with an entry is part of no large page
pub entry_alone : (state : TableState) (page table index : ℕ) → IsEntryOf state.words state.root page table index →
    large_of state.words state.root (slot_of (page / 512)) ≡ None
entry_alone state page table index entry =
    let e : slot_of (page / 512) ≡ prefix_of page 3 = omega arith in
    ap (large_of state.words state.root) e ∙ table_none state.words state.root (prefix_of page 3) entry.met entry.reached

pub end_leads : (state : TableState) (page : ℕ) (end : WalkEnd) → IsWalkEnd state.words state.root page end → IsSome (place_at end) → IsSome (leads state page)
end_leads state page end is some = rw (leads_at state page end is) some

-- so nothing hinders its change
pub alone_open : (state : TableState) (page : ℕ) → IsSome (leads state page) →
    large_of state.words state.root (slot_of (page / 512)) ≡ None → entry_fault state page ≡ None
alone_open state page some alone = rw (some_is (leads state page) some, none (free_count state.free) (split_of state page) (not_split state page alone)) refl
  where
    none : (a b : ℕ) → b ≡ 0 → ltb a b ≡ false
    none a b e = grind (arith, nat_tests)

pub mapped_fault : (state : TableState) (page frame : ℕ) (user : Bool) (place : Place) → leads state page ≡ Some place →
    map_fault state page frame user ≡ Some IsMapped
mapped_fault state page frame user place e = rw e refl

-- a page with an entry misses no table
pub nothing_missing : (state : TableState) (page table index : ℕ) → IsEntryOf state.words state.root page table index →
    0 ≡ missing_of state.words state.root page 1
nothing_missing state page table index entry = sym (none_missing state.words state.root page entry.met entry.reached)

-- the table of a page's entry lies in the area
pub entry_inside : (area : Area) (words : List ℕ) (root page table index : ℕ) (free : List Bool) → IsTreeIn area words root free →
    IsEntryOf words root page table index → in_area area table ≡ true
entry_inside area words root page table index free tree entry =
    ap (in_area area) (sym entry.in_table) ∙ tree.inside 3 (prefix_of page 3) entry.met (omega arith) entry.reached

-- the pages of a large page from one on lead to frames in a row, which exist
pub large_run : (words : List ℕ) (root page : ℕ) (place : Place) → walk_of words root page ≡ Some place → reach words root 3 (prefix_of page 3) ≡ None →
    (place.frame + (512 - page % 512) ≤ frame_count words)
    × ((k : ℕ) → k < 512 - page % 512 → (at : Place) × (walk_of words root (page + k) ≡ Some at) × (at.frame ≡ place.frame + k))
large_run words root page place found none = go (some_or_none (large_of words root (slot_of (page / 512))))
  where
    go : ((x : Place) × (large_of words root (slot_of (page / 512)) ≡ Some x)) ⊎ (large_of words root (slot_of (page / 512)) ≡ None) →
        (place.frame + (512 - page % 512) ≤ frame_count words)
        × ((k : ℕ) → k < 512 - page % 512 → (at : Place) × (walk_of words root (page + k) ≡ Some at) × (at.frame ≡ place.frame + k))
    go (inl x) =
        let below = (large_below words root (slot_of (page / 512)) x.0 x.1).1 in
        let e : 512 * (page / 512) + page % 512 ≡ page = omega arith in
        let led = slot_led words root (page / 512) x.0 (page % 512) (omega arith) x.1 in
        let here : Some (page_in (page % 512) x.0) ≡ Some place = sym led ∙ (ap (walk_of words root) e ∙ found) in
        let is : page_in (page % 512) x.0 ≡ place = cc in
        let frame : x.0.frame + page % 512 ≡ place.frame = ap (λ p. p.frame) is in (
          omega (arith, frame, below),
          λ k lt.
              let f : 512 * (page / 512) + (page % 512 + k) ≡ page + k = omega arith in (
                page_in (page % 512 + k) x.0,
                ap (walk_of words root) (sym f) ∙ slot_led words root (page / 512) x.0 (page % 512 + k) (omega (arith, lt)) x.1,
                omega (arith, frame),
              ),
        )
    go (inr away) = absurd (is_hole (large_of words root (slot_of (page / 512))) away (large_there words root page (rw found refl) none))
