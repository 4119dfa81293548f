-- The tables that the walk meets form a tree of plain entries.
use Rattle.std.specs.Prelude.{◌≡◌, ℕ, ◌<◌, ◌+◌, ◌≤◌, ⊤, Bool, true, false, List, Some}
use Rattle.paging_core.specs.Area.{Area, in_area, Whole, Part}
use Rattle.paging_core.specs.Pool.{is_frame_free}
use Rattle.paging_core.specs.Walk.{Place, reach, top}
use Rattle.paging_core.specs.Plain.{ArePlain}

-- The last level at which the tree has a frame for itself alone: in the whole memory that of pages, else that of the last
-- tables. There pages may lead to any frame, to one frame twice, and to a table's.
abbrev pub last_own : Area → ℕ
last_own Whole = 4
last_own (Part first end) = 3

-- The tables lie in the area. `free` has a flag for each frame.
pub record IsTreeIn (area : Area) (words : List ℕ) (root : ℕ) (free : List Bool) : Type 0 where
  -- each table is met with all rights
  pub rights : (level number : ℕ) (met : Place) → level < 4 → reach words root level number ≡ Some met → met ≡ top met.frame
  -- no frame of the tree is met twice
  pub distinct :
      (level number level' number' : ℕ) (met met' : Place) → level ≤ last_own area → level' ≤ last_own area →
      reach words root level number ≡ Some met → reach words root level' number' ≡ Some met' → met.frame ≡ met'.frame →
      (level ≡ level') × (number ≡ number')
  -- no frame of the tree is free
  pub used :
      (level number : ℕ) (met : Place) → level ≤ last_own area → reach words root level number ≡ Some met → is_frame_free free met.frame ≡ false
  -- no bit is set but those that are written here
  pub plain : ArePlain words root
  -- each table lies in the area
  pub inside : (level number : ℕ) (met : Place) → level < 4 → reach words root level number ≡ Some met → in_area area met.frame ≡ true

-- the tables are a tree in an area beside some free frames
abbrev pub HasTreeIn : Area → List ℕ → ℕ → Type 0
HasTreeIn area words root = (free : List Bool) × IsTreeIn area words root free

-- any frame may be a table's
abbrev pub IsTree : List ℕ → ℕ → List Bool → Type 0
IsTree words root free = IsTreeIn Whole words root free

-- the tables are a tree beside some free frames
abbrev pub HasTree : List ℕ → ℕ → Type 0
HasTree words root = (free : List Bool) × IsTree words root free

-- A page may be mapped to the frame: in the whole memory it is no table's and no page's; else it may be any frame.
abbrev pub IsUnmet : Area → List ℕ → ℕ → ℕ → Type 0
IsUnmet Whole words root frame = (level number : ℕ) (met : Place) → level ≤ 4 → reach words root level number ≡ Some met → met.frame ≡ frame → ⊥
IsUnmet (Part first end) words root frame = ⊤

-- a run of 512 frames from the first on may be mapped
abbrev pub IsRunUnmet : Area → List ℕ → ℕ → ℕ → Type 0
IsRunUnmet Whole words root first =
    (k level number : ℕ) (met : Place) → k < 512 → level ≤ 4 → reach words root level number ≡ Some met → met.frame ≡ first + k → ⊥
IsRunUnmet (Part from end) words root first = ⊤
