-- The columns of a drawing of calls.
use Rattle.std.specs.Prelude.{ℕ, ◌+◌, ◌*◌, ◌/◌, nat_eq, if◌then◌else◌}

-- the left edge of the column of a call: the columns are 1024 pixels wide together, from 144 on
abbrev pub x_of : ℕ → ℕ → ℕ
x_of call calls = if nat_eq calls 0 then 144 else 144 + call * 1024 / calls
