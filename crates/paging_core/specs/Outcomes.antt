-- What holds after a call that wrote entries, as the walk sees it. `old` are the words of the memory before, `new` after;
-- `area` is where the tables may lie. `free` are the flags of free frames before; a mark, as in `free'`, means after.
use Rattle.std.specs.Prelude.{◌≡◌, ℕ, ◌+◌, ◌*◌, ◌/◌, ◌<◌, ◌≤◌, ⊤, Bool, false, List, length, IsTrue, IsSome, IfSome, MatchOption, Option, Some, None}
use Rattle.paging_core.specs.Address.{is_canonical, IsCanonicalRange}
use Rattle.paging_core.specs.Area.{Area, Whole, Part, in_area}
use Rattle.paging_core.specs.Entry.{page_entry}
use Rattle.paging_core.specs.EntryPlace.{IsRoot}
use Rattle.paging_core.specs.Memory.{word_at, frame_count}
use Rattle.paging_core.specs.Pool.{is_frame_free, free_count, FreeBelow, FreeIn, IsFrameTaken}
use Rattle.paging_core.specs.Walk.{Place, reach, large_of, walk_of, reached, place_with}
use Rattle.paging_core.specs.Tree.{IsTree, IsTreeIn}
use Rattle.paging_core.specs.Missing.{missing_of}
use Rattle.paging_core.specs.Mapping.{IsPageAdded}
use Rattle.paging_core.specs.PageChanges.{IsPageChanged, ArePagesChanged, removal, regrant, only}
use Rattle.paging_core.specs.Large.{IsLargeAdded, IsSlotAdded, IsLargeCleared, IsLargeRemoved, IsLargeCut, missing_above}
use Rattle.paging_core.specs.LargeChanges.{IsLargeSplit, IsLargeRegranted, AreLargeGranted}
use Rattle.paging_core.specs.declared.page_table.PageBits.{PageBits}

-- The page leads to no table: in the whole memory none does; else its frame is none of the area.
abbrev pub IsBeside : Area → List ℕ → ℕ → ℕ → Type 0
IsBeside Whole words root page = ⊤
IsBeside (Part first end) words root page = (place : Place) → walk_of words root page ≡ Some place → in_area (Part first end) place.frame ≡ false

-- No byte of these pages is changed, but for those that lead to a table.
abbrev pub KeepsBytes : Area → List ℕ → List ℕ → ℕ → Type 0
KeepsBytes Whole old new root = (address : ℕ) → reached new root address ≡ reached old root address
KeepsBytes (Part first end) old new root =
    (address : ℕ) → IsBeside (Part first end) old root (address / 4096) → reached new root address ≡ reached old root address

abbrev pub KeepsBytesOf : Area → (ℕ → Type 0) → List ℕ → List ℕ → ℕ → Type 0
KeepsBytesOf Whole pages old new root = (address : ℕ) → pages (address / 4096) → reached new root address ≡ reached old root address
KeepsBytesOf (Part first end) pages old new root =
    (address : ℕ) → pages (address / 4096) → IsBeside (Part first end) old root (address / 4096) → reached new root address ≡ reached old root address

-- The tables are a tree that uses no free frame, the root lies below the limit, and the free frames lie in the area.
pub record IsTreeAndPool (area : Area) (words : List ℕ) (root : ℕ) (free : List Bool) : Type 0 where
  pub rooted : IsRoot words root
  pub tree : IsTreeIn area words root free
  pub known : FreeIn area free (frame_count words)

-- In the whole memory: the tables are a tree that uses no free frame, and each frame has a flag.
pub record IsTreeAndFlags (words : List ℕ) (root : ℕ) (free : List Bool) : Type 0 where
  pub tree : IsTree words root free
  pub flags : frame_count words ≤ length free

-- The lowest free frame was taken; None exactly if no frame is free.
pub record IsLowestFrameTaken (free free' : List Bool) (result : Option ℕ) : Type 0 where
  pub taken : IsFrameTaken free free' result
  pub flags : length free' ≡ length free
  pub lowest : IfSome result (λ frame. (lower : ℕ) → lower < frame → is_frame_free free lower ≡ false)
  pub count : MatchOption result (free_count free ≡ 0) (λ _. free_count free' + 1 ≡ free_count free)

-- `root` is a table that maps nothing.
pub record IsRootMade (area : Area) (old new : List ℕ) (free : List Bool) (root : ℕ) : Type 0 where
  pub size : length new ≡ length old
  pub below : root < frame_count new
  pub tree : IsTreeIn area new root free
  pub empty : (level number : ℕ) → 0 < level → reach new root level number ≡ None
  pub no_large : (slot : ℕ) → large_of new root slot ≡ None
  pub unmapped : (page : ℕ) → walk_of new root page ≡ None

-- The page was mapped to the frame, and no other page's walk is changed. A range that has this page misses as many tables
-- as before.
pub record IsPagePut (area : Area) (old new : List ℕ) (root : ℕ) (free : List Bool) (page frame : ℕ) (rights : PageBits) : Type 0 where
  pub tree : IsTreeIn area new root free
  pub elsewhere : (other : ℕ) → IsTrue (is_canonical (other * 4096)) → (other ≡ page → ⊥) → walk_of new root other ≡ walk_of old root other
  pub added : IsPageAdded old new free free root page frame rights
  pub missing :
      (first pages : ℕ) → IsCanonicalRange first pages → first ≤ page → page < first + pages →
      missing_of new root first pages ≡ missing_of old root first pages

-- The page was mapped to the frame, with all tables that it missed, each in a frame from the pool. No other page's walk is
-- changed, and a range of pages with the page no longer misses its tables.
pub record IsPagePutWithTables (area area' : Area) (old new : List ℕ) (free free' : List Bool) (root page frame : ℕ) (rights : PageBits) : Type 0 where
  pub same_area : area' ≡ area
  pub standing : IsTreeAndPool area' new root free'
  pub elsewhere : (other : ℕ) → IsTrue (is_canonical (other * 4096)) → (other ≡ page → ⊥) → walk_of new root other ≡ walk_of old root other
  pub added : IsPageAdded old new free free' root page frame rights
  pub missing :
      (first pages : ℕ) → IsCanonicalRange first pages → first ≤ page → page < first + pages →
      missing_of new root first pages + missing_of old root page 1 ≡ missing_of old root first pages

-- The page was unmapped, and no other page's walk is changed.
pub record IsPageTakenOut (area : Area) (old new : List ℕ) (root : ℕ) (free : List Bool) (page : ℕ) : Type 0 where
  pub tree : IsTreeIn area new root free
  pub pages : ArePagesChanged old new root removal (only page)
  pub unmapped : walk_of new root page ≡ None
  pub elsewhere : (other : ℕ) → IsTrue (is_canonical (other * 4096)) → (other ≡ page → ⊥) → walk_of new root other ≡ walk_of old root other

-- The page's entry was made 0. If the tables are a tree, they stay one, and no other page's walk is changed.
pub record IsPageCleared (area area' : Area) (old new : List ℕ) (root page : ℕ) : Type 0 where
  pub same_area : area' ≡ area
  pub removed : IsPageChanged old new root page removal
  pub gone : (free : List Bool) → IsTreeIn area old root free → IsPageTakenOut area' old new root free page

-- The page has these rights; no other page's walk is changed, and no byte of any page.
pub record IsPageRegranted (area : Area) (old new : List ℕ) (root : ℕ) (free : List Bool) (page : ℕ) (rights : PageBits) : Type 0 where
  pub tree : IsTreeIn area new root free
  pub pages : ArePagesChanged old new root (regrant rights) (only page)
  pub granted : IfSome (walk_of old root page) (λ place. walk_of new root page ≡ Some (place_with place.frame rights))
  pub elsewhere : (other : ℕ) → IsTrue (is_canonical (other * 4096)) → (other ≡ page → ⊥) → walk_of new root other ≡ walk_of old root other
  pub bytes : KeepsBytes area old new root

-- The page's entry gives these rights now. If the tables are a tree, they stay one; no other page's walk is changed, and no
-- byte of any page.
pub record IsPageGranted (area area' : Area) (old new : List ℕ) (root page : ℕ) (rights : PageBits) : Type 0 where
  pub same_area : area' ≡ area
  pub changed : IsPageChanged old new root page (regrant rights)
  pub granted : (free : List Bool) → IsTreeIn area old root free → IsPageRegranted area' old new root free page rights

-- Pages from `first` on were mapped, each byte of them is 0; no other page's walk is changed, and no byte of a page that
-- was mapped.
pub record AddsClearPages (old new : List ℕ) (root first pages : ℕ) : Type 0 where
  pub elsewhere :
      (other : ℕ) → IsTrue (is_canonical (other * 4096)) → ((k : ℕ) → k < pages → other ≡ first + k → ⊥) →
      walk_of new root other ≡ walk_of old root other
  pub zeros : (address k : ℕ) → k < pages → address / 4096 ≡ first + k → reached new root address ≡ Some 0
  pub bytes : (address : ℕ) → IsSome (walk_of old root (address / 4096)) → reached new root address ≡ reached old root address

-- The pages from `first` on are no longer mapped; no other page's walk is changed, and no byte of such a page.
pub record IsRangeTakenOut (old new : List ℕ) (root first pages : ℕ) : Type 0 where
  pub unmapped : (k : ℕ) → k < pages → walk_of new root (first + k) ≡ None
  pub elsewhere :
      (other : ℕ) → IsTrue (is_canonical (other * 4096)) → ((k : ℕ) → k < pages → other ≡ first + k → ⊥) →
      walk_of new root other ≡ walk_of old root other
  pub bytes : (address : ℕ) → IsSome (walk_of new root (address / 4096)) → reached new root address ≡ reached old root address

-- The pages from `first` on have these rights; no other page's walk is changed, and no byte of any page.
pub record IsRangeRegranted (area : Area) (old new : List ℕ) (root first pages : ℕ) (rights : PageBits) : Type 0 where
  pub granted :
      (k : ℕ) → k < pages →
      IfSome (walk_of old root (first + k)) (λ place. walk_of new root (first + k) ≡ Some (place_with place.frame rights))
  pub elsewhere :
      (other : ℕ) → IsTrue (is_canonical (other * 4096)) → ((k : ℕ) → k < pages → other ≡ first + k → ⊥) →
      walk_of new root other ≡ walk_of old root other
  pub bytes : KeepsBytes area old new root

-- `page` numbers a slot of 512 pages. No page outside it leads elsewhere than before, and no byte of a page that was mapped
-- is changed.
pub record KeepsOtherSlots (area : Area) (old new : List ℕ) (root page : ℕ) : Type 0 where
  pub elsewhere :
      (other : ℕ) → IsTrue (is_canonical (other * 4096)) → (other / 512 ≡ page → ⊥) → walk_of new root other ≡ walk_of old root other
  pub bytes : KeepsBytesOf area (λ at. IsSome (walk_of old root at)) old new root

-- The first entries of the table map frames in a row, from `first` on, and no other word is changed.
pub record IsTableFilled (old new : List ℕ) (table first count : ℕ) (rights : PageBits) : Type 0 where
  pub size : length new ≡ length old
  pub entries : (k : ℕ) → k < count → word_at new table k ≡ page_entry (first + k) rights
  pub others : (f i : ℕ) → i < 512 → (f ≡ table → i < count → ⊥) → word_at new f i ≡ word_at old f i

-- The slot of the number `page` was mapped to the run of frames of the number `frame`, with all tables above it that it
-- missed. A range of pages with the slot no longer misses these; the slot's own still counts as missing.
pub record IsSlotPut (area area' : Area) (old new : List ℕ) (free free' : List Bool) (root page frame : ℕ) (rights : PageBits) : Type 0 where
  pub same_area : area' ≡ area
  pub standing : IsTreeAndPool area' new root free'
  pub others : KeepsOtherSlots area old new root page
  pub added : IsLargeAdded old new free free' root page frame rights
  pub missing :
      (first pages : ℕ) → IsCanonicalRange first pages → first ≤ 512 * page → 512 * page + 512 ≤ first + pages →
      missing_of new root first pages + missing_above old root page ≡ missing_of old root first pages

-- The slot of the number `page` was mapped to the lowest run that was free, and each of its bytes is 0.
pub record IsSlotMapped (old new : List ℕ) (free free' : List Bool) (root page : ℕ) (rights : PageBits) : Type 0 where
  pub added : IsSlotAdded old new free free' root page rights
  -- A range of pages with the slot no longer misses the tables above it. The slot's own still counts as missing.
  pub missing :
      (first pages : ℕ) → IsCanonicalRange first pages → first ≤ 512 * page → 512 * page + 512 ≤ first + pages →
      missing_of new root first pages + missing_above old root page ≡ missing_of old root first pages
  pub count : free_count free' + 512 + missing_above old root page ≡ free_count free
  pub zeros : (address k : ℕ) → k < 512 → address / 4096 ≡ 512 * page + k → reached new root address ≡ Some 0

-- The slot of the number `page` was unmapped; no other page's walk is changed, and no byte of such a page.
pub record IsLargeTakenOut (area : Area) (old new : List ℕ) (root : ℕ) (free : List Bool) (page : ℕ) : Type 0 where
  pub tree : IsTreeIn area new root free
  pub bytes : KeepsBytesOf area (λ at. IsSome (walk_of new root at)) old new root
  pub removed : IsLargeRemoved old new root page
  pub elsewhere :
      (other : ℕ) → IsTrue (is_canonical (other * 4096)) → (other / 512 ≡ page → ⊥) → walk_of new root other ≡ walk_of old root other

-- The slot's entry was made 0. If the tables are a tree, they stay one, and no other page's walk is changed.
pub record IsSlotCleared (area area' : Area) (old new : List ℕ) (root page : ℕ) : Type 0 where
  pub same_area : area' ≡ area
  pub cleared : IsLargeCleared old new root page
  pub gone : (free : List Bool) → IsTreeIn area old root free → IsLargeTakenOut area' old new root free page

-- In the whole memory: the large page of the slot was cut. No other page's walk is changed, and no byte of a page that
-- stays.
pub record IsSlotCut (old new : List ℕ) (free free' : List Bool) (root page keep : ℕ) : Type 0 where
  pub tree : IsTree new root free'
  pub bytes : (address : ℕ) → IsSome (walk_of new root (address / 4096)) → reached new root address ≡ reached old root address
  pub cut : IsLargeCut old new free free' root page keep
  pub known : FreeBelow free (frame_count old) → FreeBelow free' (frame_count new)
  pub elsewhere :
      (other : ℕ) → IsTrue (is_canonical (other * 4096)) → (other / 512 ≡ page → ⊥) → walk_of new root other ≡ walk_of old root other

-- The large page of the slot was split. No page's walk is changed, not even those of the slot, and no byte of any page.
pub record IsSlotSplit (area area' : Area) (old new : List ℕ) (free free' : List Bool) (root page : ℕ) : Type 0 where
  pub same_area : area' ≡ area
  pub standing : IsTreeAndPool area' new root free'
  pub split : IsLargeSplit old new free free' root page
  pub walks : (other : ℕ) → walk_of new root other ≡ walk_of old root other
  pub bytes : KeepsBytes area old new root

-- The pages of the slot of the number `page` have these rights; no other page's walk is changed, and no byte of any page.
pub record IsSlotRegranted (area : Area) (old new : List ℕ) (root : ℕ) (free : List Bool) (page : ℕ) (rights : PageBits) : Type 0 where
  pub tree : IsTreeIn area new root free
  pub granted : AreLargeGranted old new root page rights
  pub elsewhere :
      (other : ℕ) → IsTrue (is_canonical (other * 4096)) → (other / 512 ≡ page → ⊥) → walk_of new root other ≡ walk_of old root other
  pub bytes : KeepsBytes area old new root

-- The slot's entry gives these rights now. If the tables are a tree, they stay one; no other page's walk is changed, and no
-- byte of any page.
pub record IsSlotGranted (area area' : Area) (old new : List ℕ) (root page : ℕ) (rights : PageBits) : Type 0 where
  pub same_area : area' ≡ area
  pub regranted : IsLargeRegranted old new root page rights
  pub granted : (free : List Bool) → IsTreeIn area old root free → IsSlotRegranted area' old new root free page rights
