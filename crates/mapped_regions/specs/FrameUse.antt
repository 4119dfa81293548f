-- What each frame of physical memory serves for.
use Rattle.std.specs.Prelude.{◌≡◌, ℕ, ◌+◌, ◌*◌, ◌/◌, ◌<◌, ◌≤◌, true, IsTrue, Option, Some}
use Rattle.std.specs.List.{Contains}
use Rattle.std.specs.Option.{option_map}
use Rattle.paging_core.specs.Pool.{is_frame_free}
use Rattle.paging_core.specs.Walk.{Place, reach, walk_of}
use Rattle.machine_model.specs.declared.region.Region.{Region}
use Rattle.machine_model.specs.State.{is_within}
use Rattle.machine_model.specs.Machine.{Paged}

-- a frame is free, or it holds a table or a page
pub data FrameUse : Type 0 where
  Free : FrameUse
  -- the table at which a walk arrives after a number of steps, with the indices so far as one number: after none, the root
  Table : ℕ → ℕ → FrameUse
  -- a page of a region, by the page's number
  PageOf : Region → ℕ → FrameUse

-- a walk arrives at the frame
abbrev pub ArrivesAt : Option Place → ℕ → Type 0
ArrivesAt end frame = option_map (λ place. place.frame) end ≡ Some frame

-- The frame serves for this. It is free: its flag in the pool says so. It holds a table: a walk from the root arrives
-- there after at most three steps. It holds a page: the walk to the page arrives there, and the page lies in a region of
-- the list. A large page is 512 pages, each at a frame of its own.
abbrev pub ServesFor : Paged → ℕ → FrameUse → Type 0
ServesFor p frame Free = is_frame_free p.free frame ≡ true
ServesFor p frame (Table level number) = (level < 4) × ArrivesAt (reach p.words p.root level number) frame
ServesFor p frame (PageOf region page) =
    Contains p.regions region × IsTrue (is_within (4096 * page) region) × ArrivesAt (walk_of p.words p.root page) frame

-- The frame serves for exactly one thing.
pub record HasOneUse (p : Paged) (frame : ℕ) : Type 0 where
  pub one : FrameUse
  pub serves : ServesFor p frame one
  pub no_other : (other : FrameUse) → ServesFor p frame other → other ≡ one

-- The frame of each of these pages is free now: where the walk to the page arrived before.
abbrev pub AreFramesFree : Paged → Paged → ℕ → ℕ → Type 0
AreFramesFree old new start pages =
    (page frame : ℕ) → start / 4096 ≤ page → page < start / 4096 + pages → ArrivesAt (walk_of old.words old.root page) frame → is_frame_free new.free frame ≡ true
