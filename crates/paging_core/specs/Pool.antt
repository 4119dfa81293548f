-- A pool of frames: a flag for each frame, true if it is free. A frame past the flags is not free.
use Rattle.std.specs.Prelude.{◌≡◌, ℕ, ◌<◌, Bool, true, false, List, set, count_by, slice_index_or, Option, Some, None}
use Rattle.paging_core.specs.Area.{Area, in_area, Whole, Part}

-- whether a frame's flag says that it is free; none past the last flag is
abbrev pub is_frame_free : List Bool → ℕ → Bool
is_frame_free free frame = slice_index_or free frame false

-- how many frames are free
abbrev pub free_count : List Bool → ℕ
free_count free = count_by (λ flag. flag) free

-- the free frames are below the count
abbrev pub FreeBelow : List Bool → ℕ → Type 0
FreeBelow free count = (frame : ℕ) → is_frame_free free frame ≡ true → frame < count

-- the free frames lie in the area, and below the count
abbrev pub FreeIn : Area → List Bool → ℕ → Type 0
FreeIn Whole free count = FreeBelow free count
FreeIn (Part first end) free count = (frame : ℕ) → is_frame_free free frame ≡ true → (in_area (Part first end) frame ≡ true) × (frame < count)

-- a frame was taken that was free, or none is free
abbrev pub IsFrameTaken : List Bool → List Bool → Option ℕ → Type 0
IsFrameTaken free free' None = (free' ≡ free) × ((frame : ℕ) → is_frame_free free frame ≡ false)
IsFrameTaken free free' (Some frame) = (is_frame_free free frame ≡ true) × (free' ≡ set free frame false)

-- the frames that were taken are the lowest that were free
abbrev pub AreLowestTaken : List Bool → List Bool → Type 0
AreLowestTaken free free' = (f g : ℕ) → is_frame_free free f ≡ true → is_frame_free free' f ≡ false → is_frame_free free' g ≡ true → f < g

-- a frame was handed out
abbrev pub IsOut : List Bool → ℕ → Type 0
IsOut free frame = slice_index_or free frame true ≡ false

-- it is free again, and every other flag stays
abbrev pub IsFrameGiven : List Bool → List Bool → ℕ → Type 0
IsFrameGiven free free' frame = free' ≡ set free frame true
