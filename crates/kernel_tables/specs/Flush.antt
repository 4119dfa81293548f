-- What a processor's translation cache may keep (AMD64 volume 2, "Translation-Lookaside Buffer"), own.
use Rattle.std.specs.Prelude.{◌≡◌, ℕ, ◌+◌, ◌/◌, ◌<◌, Bool, true, false, ◌==◌, ◌&&◌, nat_le, nat_lt, if◌then◌else◌, Option, Some, None}
use Rattle.paging_core.specs.Area.{Area, in_area}
use Rattle.paging_core.specs.Walk.{Place, reach}
use Rattle.kernel_tables.specs.TableState.{TableState, IsPage, leads, AreSound, DoTablesStay}

-- no page; only the page; the pages of the slot; a number of pages from one on
abbrev pub no_page : ℕ → Bool
no_page other = false

-- one page
abbrev pub page_alone : ℕ → ℕ → Bool
page_alone page other = other == page

-- the 512 pages of a slot
abbrev pub pages_of_slot : ℕ → ℕ → Bool
pages_of_slot page other = other / 512 == page

-- the pages of a range, from its first one on
abbrev pub pages_of_range : ℕ → ℕ → ℕ → Bool
pages_of_range page pages other = nat_le page other && nat_lt other (page + pages)

-- After a flush of these pages, whatever is kept of a page is what a walk finds: each other page that was mapped leads
-- where it led.
abbrev pub IsFlushEnough : TableState → TableState → (ℕ → Bool) → Type 0
IsFlushEnough old new flushed =
    (page : ℕ) (place : Place) → IsPage page → flushed page ≡ false → leads old page ≡ Some place → leads new page ≡ Some place

-- A cache has places of some pages, each as a walk finds it.
abbrev pub Agrees : (ℕ → Option Place) → TableState → Type 0
Agrees cache state = (page : ℕ) (place : Place) → IsPage page → cache page ≡ Some place → leads state page ≡ Some place

-- the cache after pages were flushed
abbrev pub without_pages : (ℕ → Option Place) → (ℕ → Bool) → ℕ → Option Place
without_pages cache flushed page = (if flushed page then None else cache page)

-- A cache that agreed agrees again after a flush that is enough.
abbrev pub FlushedCachesAgree : Type 0
FlushedCachesAgree =
    (cache : ℕ → Option Place) (flushed : ℕ → Bool) (old new : TableState) → IsFlushEnough old new flushed → Agrees cache old → Agrees (without_pages cache flushed) new

-- what a new CR3 leaves of a cache: the places of global pages (AMD64 volume 2, "Global Pages")
abbrev pub global_place : Option Place → Option Place
global_place None = None
global_place (Some place) = (if place.global then Some place else None)

abbrev pub without_local : (ℕ → Option Place) → ℕ → Option Place
without_local cache page = global_place (cache page)

-- none of these pages was global
abbrev pub NoneIsGlobal : (ℕ → Bool) → TableState → Type 0
NoneIsGlobal pages state = (page : ℕ) (place : Place) → IsPage page → pages page ≡ true → leads state page ≡ Some place → place.global ≡ false

-- A cache that agreed agrees again after a new CR3 in the place of a flush that is enough, if none of the pages that were to be
-- flushed was global.
abbrev pub ReloadedCachesAgree : Type 0
ReloadedCachesAgree =
    (cache : ℕ → Option Place) (flushed : ℕ → Bool) (old new : TableState) → IsFlushEnough old new flushed → NoneIsGlobal flushed old →
    Agrees cache old → Agrees (without_local cache) new

-- Each place that the cache keeps is one at which a page led in some state of tables in this area, however long ago.
abbrev pub IsOfEarlier : (ℕ → Option Place) → Area → Type 0
IsOfEarlier cache area =
    (page : ℕ) (place : Place) → cache page ≡ Some place → (state : TableState) × AreSound state × (state.area ≡ area) × (leads state page ≡ Some place)

-- So no cache, flushed or not, shows the area to a user.
abbrev pub CachesHideTheArea : Type 0
CachesHideTheArea =
    (cache : ℕ → Option Place) (area : Area) → IsOfEarlier cache area →
    (page : ℕ) (place : Place) → cache page ≡ Some place → place.user ≡ true → in_area area place.frame ≡ false

-- A cache of tables has for some prefixes of pages the table at which the walk arrives: what a processor keeps of the entries that name
-- tables (AMD64 volume 2, "Translation-Lookaside Buffer"). An entry that maps a large page is none of these. A processor keeps it as
-- the translation of its pages, which lead where they led when it is split.
abbrev pub TablesAgree : (ℕ → ℕ → Option Place) → TableState → Type 0
TablesAgree cache state =
    (level number : ℕ) (table : Place) → level < 4 → cache level number ≡ Some table → reach state.words state.root level number ≡ Some table

-- A cache of tables that agreed agrees after each change of pages, without a flush: tables stay.
abbrev pub TableCachesAgree : Type 0
TableCachesAgree = (cache : ℕ → ℕ → Option Place) (old new : TableState) → DoTablesStay old new → TablesAgree cache old → TablesAgree cache new
