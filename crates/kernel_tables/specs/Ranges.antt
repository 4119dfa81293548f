-- Ranges of pages: `pages` of them from `page` on. Those that are mapped lead to frames in a row, from `frame` on.
use Rattle.std.specs.Prelude.{◌≡◌, ℕ, zero, suc, ◌+◌, ◌-◌, ◌*◌, ◌/◌, ◌%◌, ◌^◌, ◌<◌, ◌≤◌, Bool, false, ◌==◌, ◌&&◌, not, nat_le, nat_lt, is_some, is_none, IsTrue, IsSome, if◌then◌else◌, count_by, Option, Some, None}
use Rattle.std.specs.Option.{option_or, option_map}
use Rattle.paging_core.specs.Address.{is_canonical, IsCanonicalRange}
use Rattle.paging_core.specs.Area.{area_meets}
use Rattle.paging_core.specs.Large.{slot_of}
use Rattle.paging_core.specs.Missing.{is_missing, missing_of}
use Rattle.paging_core.specs.Pool.{free_count}
use Rattle.paging_core.specs.Prefix.{prefixes_from}
use Rattle.paging_core.specs.Walk.{Place, large_of, reach, place_with}
use Rattle.paging_core.specs.declared.page_table.PageBits.{PageBits}
use Rattle.kernel_tables.specs.TableState.{TableState, leads, limit_of, gives_area, sees_area, IsLarge}
use Rattle.kernel_tables.specs.declared.range_fault.RangeFault.{RangeFault}
use Rattle.kernel_tables.specs.declared.range_fault.RangeFault.TheVariants.{NotCanonical, IsMapped, NotMapped, PastLimit, InArea, LeadsIntoArea, NoFrames}

-- the page is one of the slot's 512: it has the same first three indices
abbrev pub is_slot_of : ℕ → ℕ → Bool
is_slot_of page slot = slot_of slot == slot_of (page / 512)

-- a page of the range is one of the slot's
abbrev pub has_page_of : ℕ → ℕ → ℕ → Bool
has_page_of page pages slot = nat_lt 0 pages && (nat_lt page (512 * slot + 512) && nat_lt (512 * slot) (page + pages))

-- all pages of the slot are of the range
abbrev pub lies_whole : ℕ → ℕ → ℕ → Bool
lies_whole page pages slot = nat_le page (512 * slot) && nat_le (512 * slot + 512) (page + pages)

-- some pages of the slot are of the range, and others are not
abbrev pub is_cut : ℕ → ℕ → ℕ → Bool
is_cut page pages slot = has_page_of page pages slot && not (lies_whole page pages slot)

-- the pages lie in one canonical half
abbrev pub lies_in_half : ℕ → ℕ → Bool
lies_in_half page pages = (page + pages - 1) / 2 ^ 35 == page / 2 ^ 35

-- the lowest number for which the test holds, of the given number of them from one on
unfoldable pub lowest : (ℕ → Bool) → ℕ → ℕ → Option ℕ
lowest test from zero = None
lowest test from (suc count) = (if test from then Some from else lowest test (from + 1) count)

-- the lowest page of the range that is mapped
abbrev pub lowest_mapped : TableState → ℕ → ℕ → Option ℕ
lowest_mapped state page pages = lowest (λ at. is_some (leads state at)) page pages

-- A slot becomes large if it lies whole in the range, its frames begin at a multiple of 512 as its pages do, and it has no table.
abbrev pub becomes_large : TableState → ℕ → ℕ → ℕ → ℕ → Bool
becomes_large state page pages frame slot =
    lies_whole page pages slot && (page % 512 == frame % 512 && is_none (reach state.words state.root 3 (slot_of slot)))

-- how many become large: those that have no table, of the slots that lie whole in the range
abbrev pub large_count : TableState → ℕ → ℕ → ℕ → ℕ
large_count state page pages frame =
    let first = (page + 511) / 512 in
    (if page % 512 == frame % 512 then count_by (is_missing state.words state.root) (prefixes_from 3 (slot_of first) ((page + pages) / 512 - first)) else 0)

-- how many tables are made: those that the range misses, but for one of each slot that becomes large
abbrev pub tables_wanted : TableState → ℕ → ℕ → ℕ → ℕ
tables_wanted state page pages frame = missing_of state.words state.root page pages - large_count state page pages frame

-- The first of the causes that holds: the range leaves its canonical half; a page is mapped; a frame is not below the limit, or
-- is one of the area, into which the pages may not lead; the free frames are too few. A range of no pages is never refused.
abbrev pub map_range_fault : TableState → ℕ → ℕ → ℕ → Bool → Option RangeFault
map_range_fault state page pages frame user =
    (if pages == 0 then None
    else if not (lies_in_half page pages) then Some NotCanonical
    else option_or (option_map IsMapped (lowest_mapped state page pages))
    (if nat_lt (limit_of state) (frame + pages) then Some PastLimit
    else if not (sees_area state user) && area_meets state.area frame pages then Some InArea
    else if nat_lt (free_count state.free) (tables_wanted state page pages frame) then Some (NoFrames (tables_wanted state page pages frame - free_count state.free))
    else None))

-- Nothing hinders that the range is mapped to the frames, for users or not.
pub record IsMappableRange (state : TableState) (page pages frame : ℕ) (user : Bool) : Type 0 where
  pub range : IsCanonicalRange page pages
  pub unmapped : (k : ℕ) → k < pages → leads state (page + k) ≡ None
  pub below : frame + pages ≤ limit_of state
  pub outside : sees_area state user ≡ false → area_meets state.area frame pages ≡ false
  pub room : tables_wanted state page pages frame ≤ free_count state.free

-- After the range was mapped, exactly the slots that became large are large, besides those that were before.
abbrev pub AreSlotsLarge : TableState → TableState → ℕ → ℕ → ℕ → PageBits → Type 0
AreSlotsLarge old new page pages frame rights =
    (slot : ℕ) → IsTrue (is_canonical (512 * slot * 4096)) →
    large_of new.words new.root (slot_of slot)
    ≡ (if becomes_large old page pages frame slot then Some (place_with (frame + (512 * slot - page)) rights) else large_of old.words old.root (slot_of slot))

-- These slots are not large afterwards, and each other slot is large as it was.
abbrev pub AreNotLarge : (ℕ → Bool) → TableState → TableState → Type 0
AreNotLarge slots old new =
    (slot : ℕ) → IsTrue (is_canonical (512 * slot * 4096)) →
    large_of new.words new.root (slot_of slot) ≡ (if slots slot then None else large_of old.words old.root (slot_of slot))

-- After the range was given these bits, a slot that lies whole in it is large as it was, with them. A slot that has pages of the
-- range and others is not large, and each other slot is large as it was.
abbrev pub AreSlotsGranted : TableState → TableState → ℕ → ℕ → (Place → PageBits) → Type 0
AreSlotsGranted old new page pages bits =
    (slot : ℕ) → IsTrue (is_canonical (512 * slot * 4096)) →
    large_of new.words new.root (slot_of slot)
    ≡ (if lies_whole page pages slot then option_map (λ was. place_with was.frame (bits was)) (large_of old.words old.root (slot_of slot))
    else if has_page_of page pages slot then None
    else large_of old.words old.root (slot_of slot))

-- the lowest page of the range that is not mapped
abbrev pub lowest_unmapped : TableState → ℕ → ℕ → Option ℕ
lowest_unmapped state page pages = lowest (λ at. is_none (leads state at)) page pages

-- a large page maps the slot, and the slot does not lie whole in the range
abbrev pub is_split : TableState → ℕ → ℕ → ℕ → Bool
is_split state page pages slot =
    is_some (large_of state.words state.root (slot_of slot)) && not (lies_whole page pages slot)

-- how many large pages are split: the one in which the range begins and the one in which it ends, if they reach beyond
-- the range
abbrev pub splits : TableState → ℕ → ℕ → ℕ
splits state page pages =
    (if pages == 0 then 0
    else
    (if is_split state page pages (page / 512) then 1 else 0)
    + (if not ((page + (pages - 1)) / 512 == page / 512) && is_split state page pages ((page + (pages - 1)) / 512) then 1 else 0))

-- The first of the causes that holds: the range leaves its canonical half; a page is not mapped; the free frames are too few for the
-- large pages that are split. A range of no pages is never refused.
abbrev pub change_range_fault : TableState → ℕ → ℕ → Option RangeFault
change_range_fault state page pages =
    (if pages == 0 then None
    else if not (lies_in_half page pages) then Some NotCanonical
    else option_or (option_map NotMapped (lowest_unmapped state page pages))
    (if nat_lt (free_count state.free) (splits state page pages) then Some (NoFrames (splits state page pages - free_count state.free)) else None))

-- the lowest page of the range by which users would reach the area if they reached it
abbrev pub lowest_giving : TableState → ℕ → ℕ → Bool → Option ℕ
lowest_giving state page pages user = lowest (λ at. gives_area state at user) page pages

-- The first of the causes that holds: the range leaves its canonical half; a page is not mapped; users would reach the area by a
-- page; the free frames are too few for the large pages that are split. A range of no pages is never refused.
abbrev pub protect_range_fault : TableState → ℕ → ℕ → Bool → Option RangeFault
protect_range_fault state page pages user =
    (if pages == 0 then None
    else if not (lies_in_half page pages) then Some NotCanonical
    else option_or (option_map NotMapped (lowest_unmapped state page pages))
    (option_or (option_map LeadsIntoArea (lowest_giving state page pages user))
    (if nat_lt (free_count state.free) (splits state page pages) then Some (NoFrames (splits state page pages - free_count state.free)) else None)))

-- Each large page that maps a page of the range lies whole in it.
abbrev pub AreWithin : TableState → ℕ → ℕ → Type 0
AreWithin state page pages =
    (slot : ℕ) → page < 512 * slot + 512 → 512 * slot < page + pages → IsLarge state slot →
    (page ≤ 512 * slot) × (512 * slot + 512 ≤ page + pages)

-- The range is mapped, and its large pages lie whole in it.
pub record IsMappedWhole (state : TableState) (page pages : ℕ) : Type 0 where
  pub range : IsCanonicalRange page pages
  pub mapped : (k : ℕ) → k < pages → IsSome (leads state (page + k))
  pub within : AreWithin state page pages
