-- Where in physical memory the tables of a walk lie.
use Rattle.std.specs.Prelude.{ℕ, ◌+◌, ◌-◌, ◌*◌, Bool, true, nat_le, nat_lt, ◌&&◌, List, ◌++◌, length, replicate}

-- the frames in which tables may lie
pub data Area : Type 0 where
  -- any frame may be a table's
  Whole : Area
  -- the tables lie in the frames from a first one up to an end
  Part : ℕ → ℕ → Area

-- the frame lies in the area
abbrev pub in_area : Area → ℕ → Bool
in_area Whole frame = true
in_area (Part first end) frame = nat_le first frame && nat_lt frame end

-- one of a number of frames in a row is one of the area
abbrev pub area_meets : Area → ℕ → ℕ → Bool
area_meets Whole from count = nat_lt 0 count
area_meets (Part first end) from count = nat_lt first end && (nat_lt from end && nat_lt first (from + count))

-- The words of all frames below a limit, of which these are those of the frames from `first` on. The others are 0 here,
-- whatever the machine has there.
unfoldable pub with_zeros_around : List ℕ → ℕ → ℕ → List ℕ
with_zeros_around words first limit = replicate (512 * first) 0 ++ (words ++ replicate (512 * limit - (512 * first + length words)) 0)

-- An area of frames with its words, beside a limit of all frames.
pub record AreaWords : Type 0 where
  pub words : List ℕ
  pub area : Area
