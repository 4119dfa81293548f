-- Numbers of an answer.
use Rattle.std.specs.Prelude.{ℕ, List, ◌++◌, Option, Some, None, false, codes}
use Rattle.std.specs.Fmt.{digits}
use Rattle.std.specs.List.{flat_map}

-- a number after a space
abbrev pub number_text : ℕ → List ℕ
number_text number = codes " 0x" ++ digits 16 false number

-- a line: a name, and numbers
abbrev pub line : List ℕ → List ℕ → List ℕ
line name numbers = name ++ (flat_map number_text numbers ++ codes "\n")

-- a number, or that there is none
abbrev pub value_text : Option ℕ → List ℕ
value_text (Some number) = number_text number
value_text None = codes " none"
