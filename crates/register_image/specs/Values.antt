-- Values by the names of their flags.
use Rattle.std.specs.Prelude.{ℕ, List, [], ◌∷◌, ◌++◌, Option, Some, None, Result, Ok, Err, codes}
use Rattle.std.specs.Int.RustNames.{bit_or}
use Rattle.bitflags.specs.Sets.{Row, find_name}
use Rattle.x86_registers.specs.XCr0.{xcr0_verdict}
use Rattle.x86_registers.specs.declared.xcontrol.InvalidXCr0.{InvalidXCr0}
use Rattle.x86_registers.specs.declared.xcontrol.InvalidXCr0.TheVariants.{X87, AvxWithoutSse, MpxApart, Avx512WithoutAvx, Avx512Apart}
use Rattle.register_image.specs.Numbers.{number_text}

-- the bits of both, if both are there
abbrev pub joined_bits : Option ℕ → Option ℕ → Option ℕ
joined_bits (Some left) (Some right) = Some (bit_or left right)
joined_bits (Some left) None = None
joined_bits None right = None

-- those bits, and those of the flags of these names
abbrev pub named_beside : List Row → Option ℕ → List (List ℕ) → Option ℕ
named_beside table bits [] = bits
named_beside table bits (name ∷ names) = named_beside table (joined_bits bits (find_name table name)) names

-- the bits of the flags of these names, if each is the name of a flag
abbrev pub named_bits : List Row → List (List ℕ) → Option ℕ
named_bits table names = named_beside table (Some 0) names

-- why XCR0 refuses flags
abbrev pub reason : InvalidXCr0 → List ℕ
reason X87 = codes " X87"
reason AvxWithoutSse = codes " AvxWithoutSse"
reason MpxApart = codes " MpxApart"
reason Avx512WithoutAvx = codes " Avx512WithoutAvx"
reason Avx512Apart = codes " Avx512Apart"

abbrev pub written_text : Result (Unit {0}) InvalidXCr0 → List ℕ
written_text (Ok done) = codes " written"
written_text (Err error) = reason error

-- the bits, and whether they can be written to XCR0
abbrev pub states_text : Option ℕ → List ℕ
states_text (Some bits) = number_text bits ++ written_text (xcr0_verdict bits)
states_text None = codes " none"
