-- The frames of a memory, by their use.
use Rattle.std.specs.Prelude.{◌≡◌, ℕ, zero, suc, ◌+◌, Bool, true, false, ◌&&◌, nat_le, nat_lt, List, [], ◌∷◌, ◌++◌, count_by, if◌then◌else◌}
use Rattle.heap_tables.specs.declared.lines.Line.{Line}
use Rattle.heap_tables.specs.declared.owners.Owner.{Owner}
use Rattle.heap_tables.specs.declared.owners.Owner.TheVariants.{Heap, User}
use Rattle.heap_tables.specs.declared.uses.Use.{Use}
use Rattle.heap_tables.specs.declared.uses.Use.TheVariants.{Table, Large, HeapPage, UserPage, Free}
use Rattle.heap_tables.specs.Rows.{frames_of, is_table, has_large_pages}

-- a page of an owner
abbrev pub use_of_owner : Owner → Use
use_of_owner Heap = HeapPage
use_of_owner User = UserPage

-- what a line uses its frames for
abbrev pub use_in : Line → Use
use_in line = if is_table line then Table else if has_large_pages line then Large else use_of_owner line.owner

-- whether a frame is one of a line
abbrev pub has_frame : ℕ → Line → Bool
has_frame frame line = nat_le line.frame frame && nat_lt frame (line.frame + frames_of line)

-- what a frame is used for: by the first line that has it
abbrev pub use_of : ℕ → List Line → Use
use_of frame [] = Free
use_of frame (line ∷ lines) = if has_frame frame line then use_in line else use_of frame lines

-- what each of the first `frames` frames is used for
abbrev pub uses_of : List Line → ℕ → List Use
uses_of lines zero = []
uses_of lines (suc frames) = uses_of lines frames ++ use_of frames lines ∷ []

-- whether two uses are the same
abbrev pub same_use : Use → Use → Bool
same_use Table Table = true
same_use Large Large = true
same_use HeapPage HeapPage = true
same_use UserPage UserPage = true
same_use Free Free = true
same_use one other = false

-- how many frames are used so
abbrev pub use_count : Use → List Use → ℕ
use_count kind uses = count_by (same_use kind) uses

-- each frame is counted once
abbrev pub EachFrameIsCountedOnce : Type 0
EachFrameIsCountedOnce = (lines : List Line) (frames : ℕ) →
    use_count Table (uses_of lines frames) + use_count Large (uses_of lines frames) + use_count HeapPage (uses_of lines frames) + use_count UserPage (uses_of lines frames)
    + use_count Free (uses_of lines frames) ≡ frames
