-- What a call on pages does to them, and what it leaves as it was.
use Rattle.std.specs.Prelude.{◌≡◌, ℕ, ◌+◌, ◌*◌, ◌<◌, Bool, false, IfSome, OnErr, Option, Some, None, Result}
use Rattle.std.specs.Result.{result_err}
use Rattle.paging_core.specs.Large.{slot_of, IsLargeAdded, IsLargeCleared}
use Rattle.paging_core.specs.Mapping.{IsPageAdded}
use Rattle.paging_core.specs.PageChanges.{removal, IsPageChanged}
use Rattle.paging_core.specs.Pool.{free_count}
use Rattle.paging_core.specs.Walk.{Place, large_of, place_with}
use Rattle.paging_core.specs.declared.page_table.PageBits.{PageBits}
use Rattle.kernel_tables.specs.Faults.{split_of}
use Rattle.kernel_tables.specs.Flush.{page_alone, pages_of_slot, pages_of_range, IsFlushEnough}
use Rattle.kernel_tables.specs.Grants.{granting}
use Rattle.kernel_tables.specs.Ranges.{is_slot_of, has_page_of, tables_wanted, splits, AreSlotsLarge, AreNotLarge, AreSlotsGranted}
use Rattle.kernel_tables.specs.TableState.{TableState, IsPage, leads, IsSamePlace, DoTablesStay}
use Rattle.kernel_tables.specs.Words.{KeepsOtherWords}

-- Only these pages change: the root, the area and the limit stay, each table is met where it was, and every other page leads where
-- it led.
pub record ChangesOnly (pages : ℕ → Bool) (old new : TableState) : Type 0 where
  pub place : IsSamePlace old new
  pub tables : DoTablesStay old new
  pub elsewhere : (other : ℕ) → IsPage other → pages other ≡ false → leads new other ≡ leads old other

-- No page changes, but the tables may: the root, the area and the limit stay, and so does each table.
pub record ChangesNone (old new : TableState) : Type 0 where
  pub place : IsSamePlace old new
  pub tables : DoTablesStay old new
  pub walks : (other : ℕ) → leads new other ≡ leads old other

-- How a call that changes these pages answers: it is refused exactly with this fault, and then changes nothing. It changes only
-- these pages, and then a flush of `flushed` is enough.
pub record IsChange {T E : Type 0} (pages flushed : ℕ → Bool) (fault : Option E) (old : TableState) (result : Result T E) (new : TableState) : Type 0 where
  pub refused : result_err result ≡ fault
  pub same : OnErr result (new ≡ old)
  pub only : ChangesOnly pages old new
  pub flush : IsFlushEnough old new flushed

-- The page, which has an entry of its own, led to the frame, and leads nowhere. Only its entry is changed: no frame is taken, and
-- each slot is large as it was.
pub record IsEntryCleared (old new : TableState) (page frame : ℕ) : Type 0 where
  pub only : ChangesOnly (page_alone page) old new
  pub free : new.free ≡ old.free
  pub led : IfSome (leads old page) (λ place. frame ≡ place.frame)
  pub unmapped : leads new page ≡ None
  pub removed : IsPageChanged old.words new.words old.root page removal
  pub larges : (n : ℕ) → large_of new.words new.root n ≡ large_of old.words old.root n
  pub words : KeepsOtherWords (page_alone page) old new

-- The page, which has an entry of its own, leads where it led, with these bits. Only its entry is changed: no frame is taken, and
-- each slot is large as it was.
pub record IsEntryGranted (old new : TableState) (page : ℕ) (bits : Place → PageBits) : Type 0 where
  pub only : ChangesOnly (page_alone page) old new
  pub free : new.free ≡ old.free
  pub granted : IfSome (leads old page) (λ place. leads new page ≡ Some (place_with place.frame (bits place)))
  pub changed : IsPageChanged old.words new.words old.root page (granting bits)
  pub larges : (n : ℕ) → large_of new.words new.root n ≡ large_of old.words old.root n
  pub words : KeepsOtherWords (page_alone page) old new

-- The pages of the slot lead nowhere, and it is not large. No frame is taken, and each other slot is large as it was.
pub record IsLargeSlotCleared (old new : TableState) (slot : ℕ) : Type 0 where
  pub only : ChangesOnly (pages_of_slot slot) old new
  pub free : new.free ≡ old.free
  pub unmapped : (k : ℕ) → k < 512 → leads new (512 * slot + k) ≡ None
  pub gone : large_of new.words new.root (slot_of slot) ≡ None
  pub larges : (n : ℕ) → (n ≡ slot_of slot → ⊥) → large_of new.words new.root n ≡ large_of old.words old.root n
  pub words : KeepsOtherWords (pages_of_slot slot) old new

-- The slot is large as it was, and its pages lead where they led, with these bits. No frame is taken, and each other slot is
-- large as it was.
pub record IsLargeSlotGranted (old new : TableState) (slot : ℕ) (bits : Place → PageBits) : Type 0 where
  pub only : ChangesOnly (pages_of_slot slot) old new
  pub free : new.free ≡ old.free
  pub granted : (k : ℕ) → k < 512 → IfSome (leads old (512 * slot + k)) (λ was. leads new (512 * slot + k) ≡ Some (place_with was.frame (bits was)))
  pub large :
      IfSome (large_of old.words old.root (slot_of slot)) (λ was. large_of new.words new.root (slot_of slot) ≡ Some (place_with was.frame (bits was)))
  pub larges : (n : ℕ) → (n ≡ slot_of slot → ⊥) → large_of new.words new.root n ≡ large_of old.words old.root n
  pub words : KeepsOtherWords (pages_of_slot slot) old new

-- The page leads to the frame with the rights; of the words only the entries that this takes are changed.
pub record IsPageMapped (old new : TableState) (page frame : ℕ) (rights : PageBits) : Type 0 where
  pub mapped : leads new page ≡ Some (place_with frame rights)
  pub added : IsPageAdded old.words new.words old.free new.free old.root page frame rights

-- The page led to the frame, and leads nowhere. A frame was taken if it was part of a large page; otherwise one entry is changed.
-- Its slot is not large, and each other is large as it was.
pub record IsPageUnmapped (old new : TableState) (page frame : ℕ) : Type 0 where
  pub led : IfSome (leads old page) (λ place. frame ≡ place.frame)
  pub unmapped : leads new page ≡ None
  pub free : free_count new.free + split_of old page ≡ free_count old.free
  pub removed : split_of old page ≡ 0 → IsPageChanged old.words new.words old.root page removal
  pub large : AreNotLarge (is_slot_of page) old new
  pub words : KeepsOtherWords (page_alone page) old new

-- The page leads where it led, with these bits. A frame was taken if it was part of a large page; otherwise one entry is changed.
-- Its slot is not large, and each other is large as it was.
pub record IsPageGranted (old new : TableState) (page : ℕ) (bits : Place → PageBits) : Type 0 where
  pub granted : IfSome (leads old page) (λ place. leads new page ≡ Some (place_with place.frame (bits place)))
  pub free : free_count new.free + split_of old page ≡ free_count old.free
  pub changed : split_of old page ≡ 0 → IsPageChanged old.words new.words old.root page (granting bits)
  pub large : AreNotLarge (is_slot_of page) old new
  pub words : KeepsOtherWords (page_alone page) old new

-- The pages of the large page lead to 512 frames in a row, of which this is the first by its number as a large one.
pub record IsLargeMapped (old new : TableState) (page frame : ℕ) (rights : PageBits) : Type 0 where
  pub mapped : (k : ℕ) → k < 512 → leads new (512 * page + k) ≡ Some (place_with (512 * frame + k) rights)
  pub added : IsLargeAdded old.words new.words old.free new.free old.root page frame rights

-- The pages of the large page led to frames in a row from this one on, and lead nowhere.
pub record IsLargeUnmapped (old new : TableState) (page frame : ℕ) : Type 0 where
  pub led : IfSome (large_of old.words old.root (slot_of page)) (λ large. frame ≡ large.frame)
  pub unmapped : (k : ℕ) → k < 512 → leads new (512 * page + k) ≡ None
  pub cleared : IsLargeCleared old.words new.words old.root page

-- The pages lead to frames in a row with the rights. As many frames were taken as tables were wanted. Exactly the slots
-- that became large are large, besides those that were before.
pub record IsMappedInARow (old new : TableState) (page pages frame : ℕ) (rights : PageBits) : Type 0 where
  pub mapped : (k : ℕ) → k < pages → leads new (page + k) ≡ Some (place_with (frame + k) rights)
  pub free : free_count new.free + tables_wanted old page pages frame ≡ free_count old.free
  pub large : AreSlotsLarge old new page pages frame rights
  pub words : KeepsOtherWords (pages_of_range page pages) old new

-- The pages lead nowhere. A frame was taken for each large page that was split. No slot that has a page of the range is large,
-- and each other is large as it was.
pub record IsRangeUnmapped (old new : TableState) (page pages : ℕ) : Type 0 where
  pub unmapped : (k : ℕ) → k < pages → leads new (page + k) ≡ None
  pub free : free_count new.free + splits old page pages ≡ free_count old.free
  pub large : AreNotLarge (has_page_of page pages) old new
  pub words : KeepsOtherWords (pages_of_range page pages) old new

-- Each of the pages leads where it led, with these bits. A frame was taken for each large page that was split. The large
-- pages that lie whole in the range stay large.
pub record IsRangeGranted (old new : TableState) (page pages : ℕ) (bits : Place → PageBits) : Type 0 where
  pub granted : (k : ℕ) → k < pages → IfSome (leads old (page + k)) (λ was. leads new (page + k) ≡ Some (place_with was.frame (bits was)))
  pub free : free_count new.free + splits old page pages ≡ free_count old.free
  pub large : AreSlotsGranted old new page pages bits
  pub words : KeepsOtherWords (pages_of_range page pages) old new
