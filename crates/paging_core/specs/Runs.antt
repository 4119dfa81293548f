-- Runs of 512 frames, the first a multiple of 512. A frame of 2 MiB is such a run, and has its number.
use Rattle.std.specs.Prelude.{◌≡◌, ℕ, ◌+◌, ◌*◌, ◌/◌, ◌<◌, ◌^◌, ◌≢◌, Bool, true, false, eqb, List, length, map, take, drop, get_or, Option, Some, None}
use Rattle.std.specs.List.{range_with_len}
use Rattle.paging_core.specs.Pool.{is_frame_free, free_count, IsOut}

-- how many frames of the run are free
unfoldable pub free_in : List Bool → ℕ → ℕ
free_in free run = free_count (take 512 (drop (512 * run) free))

-- a flag for each run that the flags of frames reach, true if its 512 frames are free
unfoldable pub whole_runs : List Bool → List Bool
whole_runs free = map (λ run. eqb (free_in free run) 512) (range_with_len 0 ((length free + 511) / 512))

-- every frame of the run is free
abbrev pub IsRunFree : List Bool → ℕ → Type 0
IsRunFree free run = (frame : ℕ) → frame / 512 ≡ run → is_frame_free free frame ≡ true

-- every frame of the run was handed out
abbrev pub IsRunOut : List Bool → ℕ → Type 0
IsRunOut free run = (frame : ℕ) → frame / 512 ≡ run → IsOut free frame

-- the frames of the run have this flag, and every other flag stays
pub record IsRunSet (free free' : List Bool) (run : ℕ) (value : Bool) : Type 0 where
  pub size : length free' ≡ length free
  pub here : (frame : ℕ) → frame / 512 ≡ run → is_frame_free free' frame ≡ value
  pub elsewhere : (frame : ℕ) → frame / 512 ≢ run → is_frame_free free' frame ≡ is_frame_free free frame

-- a run was taken whose frames were free, the lowest such run; or there is none
abbrev pub IsRunTaken : List Bool → List Bool → Option ℕ → Type 0
IsRunTaken free free' None = (free' ≡ free) × ((run : ℕ) → ¬ IsRunFree free run)
IsRunTaken free free' (Some run) = IsRunFree free run × IsRunSet free free' run false × ((lower : ℕ) → lower < run → ¬ IsRunFree free lower)

-- beside the flags of the frames, those of the runs that are wholly free, and each run's count of free frames
pub record AreRunsCounted (free whole : List Bool) (counts : List ℕ) : Type 0 where
  pub bounded : length free < 2 ^ 32
  pub runs : length counts ≡ (length free + 511) / 512
  pub counted : (run : ℕ) → get_or counts run 0 ≡ free_in free run
  pub are_whole : whole ≡ whole_runs free
