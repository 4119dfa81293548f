-- What calls ask of pages and entries: a call on one, or on some in a row.
use Rattle.std.specs.Prelude.{◌≡◌, ℕ, ◌+◌, ◌*◌, ◌<◌, ◌≤◌, ◌^◌, Bool, true, List, IsSome, None}
use Rattle.paging_core.specs.Address.{IsCanonicalRange}
use Rattle.paging_core.specs.Area.{Area}
use Rattle.paging_core.specs.EntryPlace.{IsRoot, IsEntryIn}
use Rattle.paging_core.specs.Large.{slot_of, IsSlotEmpty}
use Rattle.paging_core.specs.Memory.{frame_count}
use Rattle.paging_core.specs.Missing.{missing_of}
use Rattle.paging_core.specs.Moments.{IsChangedIn}
use Rattle.paging_core.specs.Pool.{is_frame_free, free_count, FreeIn}
use Rattle.paging_core.specs.Prefix.{prefix_of}
use Rattle.paging_core.specs.Tree.{IsUnmet, IsRunUnmet}
use Rattle.paging_core.specs.Walk.{reach, large_of, walk_of}
use Rattle.paging_core.specs.WalkEnd.{IsEntryOf}

-- Entry `index` of the table is the page's, where its walk ends, and may be written.
pub record IsPageEntry (area : Area) (words : List ℕ) (root page table index : ℕ) : Type 0 where
  pub rooted : IsRoot words root
  pub entry : IsEntryOf words root page table index
  pub place : IsEntryIn area words table index

-- The entry may be written, and a table may be made for it: the free frames lie in the area, and the memory allows that
-- any of them is changed.
pub record IsReadyForTable (area : Area) (words : List ℕ) (free : List Bool) (allows : List ℕ → Type 0) (table index : ℕ) : Type 0 where
  pub entry : IsEntryIn area words table index
  pub known : FreeIn area free (frame_count words)
  pub before : (now : List ℕ) (frame : ℕ) → is_frame_free free frame ≡ true → IsChangedIn words now frame → allows now

-- The page is mapped.
pub record IsMappedPage (words : List ℕ) (root page : ℕ) : Type 0 where
  pub rooted : IsRoot words root
  pub mapped : IsSome (walk_of words root page)

-- The page is mapped by an entry of a last table, and not in a large page.
pub record IsSmallPage (words : List ℕ) (root page : ℕ) : Type 0 where
  pub rooted : IsRoot words root
  pub mapped : IsSome (walk_of words root page)
  pub small : IsSome (reach words root 3 (prefix_of page 3))

-- The pages from `first` on lie in one canonical half, and each is mapped, none in a large page.
pub record AreSmallPages (words : List ℕ) (root first pages : ℕ) : Type 0 where
  pub rooted : IsRoot words root
  pub range : IsCanonicalRange first pages
  pub mapped : (k : ℕ) → k < pages → IsSome (walk_of words root (first + k))
  pub small : (k : ℕ) → k < pages → IsSome (reach words root 3 (prefix_of (first + k) 3))

-- The slot of the number `page` is mapped by one entry.
pub record IsLargePage (words : List ℕ) (root page : ℕ) : Type 0 where
  pub rooted : IsRoot words root
  pub large : IsSome (large_of words root (slot_of page))

-- The page is not mapped, and may be mapped to the frame. In a whole memory this is no table's, and no other page leads
-- to it; if the tables lie in an area, a page may lead to any frame, to a table's too.
pub record IsMappable (area : Area) (words : List ℕ) (root page frame : ℕ) : Type 0 where
  pub unmapped : walk_of words root page ≡ None
  pub below : frame < frame_count words
  pub unmet : IsUnmet area words root frame

-- The pages from `first` on lie in one canonical half, none is mapped, and there are free frames for them and for the
-- tables that are missing.
pub record IsRangeMappable (words : List ℕ) (root : ℕ) (free : List Bool) (first pages : ℕ) : Type 0 where
  pub range : IsCanonicalRange first pages
  pub unmapped : (k : ℕ) → k < pages → walk_of words root (first + k) ≡ None
  pub room : pages + missing_of words root first pages ≤ free_count free

-- The slot of the number `page` is empty, and may be mapped to the run of frames of the number `frame`. In a whole memory
-- these are no tables', and no page leads to one of them.
pub record IsSlotMappable (area : Area) (words : List ℕ) (root page frame : ℕ) : Type 0 where
  pub empty : IsSlotEmpty words root page
  pub below : 512 * frame + 511 < frame_count words
  pub unmet : IsRunUnmet area words root (512 * frame)

-- The numbers `first` to `last` are those of prefixes of `level` indices.
pub record ArePrefixes (words : List ℕ) (root level first last : ℕ) : Type 0 where
  pub rooted : IsRoot words root
  pub below : level < 4
  pub ordered : first ≤ last
  pub bounded : last < 2 ^ (9 * level)
