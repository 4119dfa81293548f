-- What the walk and the tree rule mean: laws above the definitions.
use Rattle.std.specs.Prelude.{◌≡◌, ℕ, ◌+◌, ◌*◌, ◌/◌, ◌%◌, ◌^◌, ◌<◌, ◌≤◌, ◌↔◌, Bool, true, false, IsTrue, IsSome, List, Some, None, Contains}
use Rattle.paging_core.specs.Area.{Area, in_area}
use Rattle.paging_core.specs.Memory.{word_at, frame_count}
use Rattle.paging_core.specs.Address.{IsCanonicalRange, is_canonical}
use Rattle.paging_core.specs.Prefix.{prefix_of, prefixes_of}
use Rattle.paging_core.specs.Steps.{position, pages_before}
use Rattle.paging_core.specs.Pool.{is_frame_free, IsFrameGiven}
use Rattle.paging_core.specs.Walk.{Place, step, next_from, large_from, large_of, page_in, page_or, reach, walk_of, top}
use Rattle.paging_core.specs.ProcessorWalk.{AtPage, processor_walk, page_of, is_refused}
use Rattle.paging_core.specs.Entry.{has_bit}
use Rattle.paging_core.specs.Plain.{ArePlain, marked, maps_page, pat_of}
use Rattle.paging_core.specs.Tree.{IsTree, IsTreeIn}
use Rattle.paging_core.specs.Mapping.{IsPageAdded}
use Rattle.paging_core.specs.declared.page_table.PageBits.{PageBits}

-- the walk takes four steps from the root, by the four indices of the page, or ends after three in a large page
abbrev pub WalkStepsByIndices : Type 0
WalkStepsByIndices =
    (words : List ℕ) (root page : ℕ) →
    let p4 = step words 0 (top root) (page / 2 ^ 27 % 512) in
    let p3 = next_from words 1 p4 (page / 2 ^ 18 % 512) in
    let p2 = next_from words 2 p3 (page / 2 ^ 9 % 512) in
    walk_of words root page ≡ page_or (large_from words p3 (page / 2 ^ 9 % 512)) (page % 512) (next_from words 3 p2 (page % 512))

-- the prefixes of a range are those of its pages, of one, two and three indices
abbrev pub PrefixesAreOfPages : Type 0
PrefixesAreOfPages =
    (first pages level number : ℕ) → IsCanonicalRange first pages →
    Contains (prefixes_of first pages) (record { level = level; number = number })
    ↔ ((0 < level) × (level < 4) × ((k : ℕ) × ((k < pages) × (number ≡ prefix_of (first + k) level))))

-- no frame is reached by two pages
abbrev pub OnePageForAFrame : Type 0
OnePageForAFrame =
    (words : List ℕ) (root : ℕ) (free : List Bool) (page other : ℕ) (place place' : Place) → IsTree words root free →
    walk_of words root page ≡ Some place → walk_of words root other ≡ Some place' → place.frame ≡ place'.frame → page % 2 ^ 36 ≡ other % 2 ^ 36

-- no free frame is reached by a page
abbrev pub NoPageAtAFreeFrame : Type 0
NoPageAtAFreeFrame =
    (words : List ℕ) (root : ℕ) (free : List Bool) (page : ℕ) (place : Place) → IsTree words root free →
    walk_of words root page ≡ Some place → is_frame_free free place.frame ≡ false

-- two pages that are mapped in either order leave the same walk of every page
abbrev pub MappingCommutes : Type 0
MappingCommutes =
    (words first second first' second' : List ℕ) (free free1 free2 free1' free2' : List Bool) (root page other frame frame' : ℕ) (rights rights' : PageBits) →
    (page % 2 ^ 36 ≡ other % 2 ^ 36 → ⊥) →
    IsPageAdded words first free free1 root page frame rights → IsPageAdded first second free1 free2 root other frame' rights' →
    IsPageAdded words first' free free1' root other frame' rights' → IsPageAdded first' second' free1' free2' root page frame rights →
    (any : ℕ) → walk_of second root any ≡ walk_of second' root any

-- the place of a page in the order of addresses is the count of the pages below it
abbrev pub PlacesCountPages : Type 0
PlacesCountPages =
    (size number : ℕ) → 0 < size → 2 ^ 47 % size ≡ 0 → IsTrue (is_canonical (number * size)) → position size number ≡ pages_before size number

-- A frame that no walk meets may be given back.
abbrev pub GivingKeepsTheTree : Type 0
GivingKeepsTheTree =
    (words : List ℕ) (root : ℕ) (free free' : List Bool) (frame : ℕ) → IsTree words root free → IsFrameGiven free free' frame →
    ((level number : ℕ) (met : Place) → level ≤ 4 → reach words root level number ≡ Some met → met.frame ≡ frame → ⊥) → IsTree words root free'

-- a page that is mapped, and in no large page, has an entry in the table of its slot
abbrev pub MappedByATable : Type 0
MappedByATable =
    (words : List ℕ) (root page : ℕ) (place : Place) → walk_of words root page ≡ Some place → large_of words root (prefix_of page 3) ≡ None →
    IsSome (reach words root 3 (prefix_of page 3))

-- a slot with a large page has no table, and its pages are those of the large page
abbrev pub MappedInALargePage : Type 0
MappedInALargePage =
    (words : List ℕ) (root page : ℕ) (large : Place) → large_of words root (prefix_of page 3) ≡ Some large →
    (walk_of words root page ≡ Some (page_in (page % 512) large)) × (reach words root 3 (prefix_of page 3) ≡ None)

-- Over plain entries a processor's walk, whose physical addresses reach the whole memory, ends at a page exactly if
-- `walk_of` does, at the same frame with the same rights; the frame lies in the memory, and no reserved bit ends the
-- walk.
abbrev pub ProcessorsWalkAlike : Type 0
ProcessorsWalkAlike =
    (words : List ℕ) (root page width : ℕ) → ArePlain words root → 4096 * frame_count words ≤ 2 ^ width →
    (page_of (processor_walk width words root page) ≡ walk_of words root page)
    × (is_refused (processor_walk width words root page) ≡ false)
    × ((place : Place) → processor_walk width words root page ≡ AtPage place → place.frame < frame_count words)

-- Tables in an area: whatever else the machine's memory holds, a processor's walk ends at a page exactly if `walk_of`
-- does over the words of the tables, at the same frame with the same rights, and no reserved bit ends it.
abbrev pub AreaWalksAlike : Type 0
AreaWalksAlike =
    (area : Area) (words real : List ℕ) (root page width : ℕ) (free : List Bool) → IsTreeIn area words root free →
    ((frame index : ℕ) → index < 512 → in_area area frame ≡ true → word_at real frame index ≡ word_at words frame index) →
    4096 * frame_count words ≤ 2 ^ width →
    (page_of (processor_walk width real root page) ≡ walk_of words root page)
    × (is_refused (processor_walk width real root page) ≡ false)
    × ((place : Place) → processor_walk width real root page ≡ AtPage place → place.frame < frame_count words)

-- Over plain entries a processor writes to no table: each entry by which it may walk has its marks.
abbrev pub NoEntryIsMarked : Type 0
NoEntryIsMarked =
    (words : List ℕ) (root level number index : ℕ) (table : Place) (writes : Bool) → ArePlain words root → level < 4 → index < 512 →
    reach words root level number ≡ Some table → has_bit (word_at words table.frame index) 0 ≡ true →
    marked writes level (word_at words table.frame index) ≡ word_at words table.frame index

-- Over plain entries the type of a page is one of the first four: the entry that maps it has no PAT bit, so bits 3 and 4, which
-- the walk tells, are all of its type.
abbrev pub NoEntryHasPat : Type 0
NoEntryHasPat =
    (words : List ℕ) (root level number index : ℕ) (table : Place) → ArePlain words root → level < 4 → index < 512 →
    reach words root level number ≡ Some table → has_bit (word_at words table.frame index) 0 ≡ true →
    maps_page level (word_at words table.frame index) ≡ true → pat_of level (word_at words table.frame index) ≡ false
