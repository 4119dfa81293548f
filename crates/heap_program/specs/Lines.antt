-- The lines of an input, and what each asks for.
use Rattle.std.specs.Prelude.{◌≢◌, ℕ, List, [], ◌∷◌, map, Option, if◌then◌else◌, ◌==◌}
use Rattle.std.specs.List.{onto_first, AllByRecursion}
use Rattle.machine_model.specs.declared.call.Call.{Call}
use Rattle.call_lines.specs.Grammar.{item_of}

-- a line ends with a line feed; a last line without one counts if it has a byte
abbrev pub lines_of : List ℕ → List (List ℕ)
lines_of [] = []
lines_of (b ∷ bytes) = if b == 10 then [] ∷ lines_of bytes else onto_first b (lines_of bytes)

-- what each line asks for: a call, or None if the line is bad
unfoldable pub items_of : List ℕ → List (Option Call)
items_of bytes = map item_of (lines_of bytes)

-- there is no line feed among the bytes
abbrev pub IsOneLine : List ℕ → Type 0
IsOneLine bytes = AllByRecursion (λ b. b ≢ 10) bytes
