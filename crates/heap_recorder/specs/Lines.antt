-- The lines of a run's calls.
use Rattle.std.specs.Prelude.{ℕ, List, [], ◌∷◌, ◌++◌, length, map, nat_le, nat_lt, if◌then◌else◌}
use Rattle.machine_model.specs.declared.call.Call.{Call}
use Rattle.call_lines.specs.CallLine.{call_line}

-- the lines of the calls so far, and of one more; the number is how many calls came before it
abbrev pub lines_after : ℕ → Call → List (List ℕ) → List (List ℕ)
lines_after number call lines = if nat_lt number 64 then lines ++ call_line call ∷ [] else []

-- The lines of a run's calls, if there are at most 64, and else none.
abbrev pub kept_call_lines : List Call → List (List ℕ)
kept_call_lines calls = if nat_le (length calls) 64 then map call_line calls else []
