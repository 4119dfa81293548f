-- Page tables in an area of frames, beside the free frames of the area.
use Rattle.std.specs.Prelude.{◌≡◌, ℕ, ◌*◌, ◌^◌, ◌<◌, ◌≤◌, ◌&&◌, not, Bool, true, false, List, length, IsSome, IsTrue, Option, Some, None}
use Rattle.paging_core.specs.Address.{is_canonical}
use Rattle.paging_core.specs.Area.{Area, Whole, in_area}
use Rattle.paging_core.specs.Large.{slot_of}
use Rattle.paging_core.specs.Memory.{word_at, frame_count}
use Rattle.paging_core.specs.Missing.{missing_of}
use Rattle.paging_core.specs.Pool.{FreeIn}
use Rattle.paging_core.specs.Prefix.{prefix_of}
use Rattle.paging_core.specs.ProcessorWalk.{processor_walk, page_of, is_refused}
use Rattle.paging_core.specs.Tree.{IsTreeIn}
use Rattle.paging_core.specs.Walk.{Place, reach, large_of, walk_of}

-- the tables as their callers see them
pub record TableState : Type 0 where
  -- the words of all frames below the limit; those outside the area are 0 here
  pub words : List ℕ
  pub area : Area
  pub root : ℕ
  -- a flag for each frame: no other is free
  pub free : List Bool
  -- the kernel asked for pages of its own that lead into the area
  pub shared : Bool

-- it is the number of a page: the addresses of the page are canonical
abbrev pub IsPage : ℕ → Type 0
IsPage page = IsTrue (is_canonical (page * 4096))

-- where the page leads
abbrev pub leads : TableState → ℕ → Option Place
leads state page = walk_of state.words state.root page

-- how many tables are missing on the way to the page
abbrev pub misses : TableState → ℕ → ℕ
misses state page = missing_of state.words state.root page 1

-- one entry maps the slot
abbrev pub IsLarge : TableState → ℕ → Type 0
IsLarge state slot = IsSome (large_of state.words state.root (slot_of slot))

-- The page is mapped, by an entry of its own.
pub record HasOwnEntry (state : TableState) (page : ℕ) : Type 0 where
  pub mapped : IsSome (leads state page)
  pub small : IsSome (reach state.words state.root 3 (prefix_of page 3))

-- frames of pages are below it
abbrev pub limit_of : TableState → ℕ
limit_of state = frame_count state.words

-- the place is a frame of the area
abbrev pub place_in : Area → Option Place → Bool
place_in area None = false
place_in area (Some place) = in_area area place.frame

-- users would reach the area by the page if they reached the page
abbrev pub gives_area : TableState → ℕ → Bool → Bool
gives_area state page user = user && place_in state.area (leads state page)

-- A page may lead into the area: users do not reach it, and the kernel asked for such pages.
abbrev pub sees_area : TableState → Bool → Bool
sees_area state user = state.shared && not user

-- The tables are a tree in the area, the free frames lie there, and no page leads into it but those that may.
pub record AreSound (state : TableState) : Type 0 where
  pub root_in : state.root < frame_count state.words
  pub tree : IsTreeIn state.area state.words state.root state.free
  pub known : FreeIn state.area state.free (frame_count state.words)
  pub apart : (page : ℕ) (place : Place) → leads state page ≡ Some place → sees_area state place.user ≡ false → in_area state.area place.frame ≡ false
  -- a part of the memory
  pub part : state.area ≡ Whole → ⊥

-- the machine's memory has the words of the area, and any others elsewhere
abbrev pub HasArea : List ℕ → TableState → Type 0
HasArea real state =
    (frame index : ℕ) → index < 512 → in_area state.area frame ≡ true → word_at real frame index ≡ word_at state.words frame index

-- From the root a processor finds exactly the pages of the tables, with their frames and rights, and meets no reserved bit;
-- `width` is how many bits a physical address has.
abbrev pub IsWalkedAlike : TableState → Type 0
IsWalkedAlike state =
    (real : List ℕ) (page width : ℕ) → HasArea real state → 4096 * limit_of state ≤ 2 ^ width →
    (page_of (processor_walk width real state.root page) ≡ leads state page) × (is_refused (processor_walk width real state.root page) ≡ false)

-- the root, the area and the limit stay, and whether the kernel's pages may lead into the area
pub record IsSamePlace (old new : TableState) : Type 0 where
  pub root : new.root ≡ old.root
  pub area : new.area ≡ old.area
  pub size : length new.words ≡ length old.words
  pub shared : new.shared ≡ old.shared

-- each table that was met is met where it was
abbrev pub DoTablesStay : TableState → TableState → Type 0
DoTablesStay old new =
    (level number : ℕ) (met : Place) → level < 4 → reach old.words old.root level number ≡ Some met → reach new.words new.root level number ≡ Some met
