-- Numbers as words.
use Rattle.std.specs.Prelude.{ℕ, ◌*◌, ◌/◌, ◌%◌, ◌^◌, List, [], ◌++◌, codes, decimal, false, nat_lt, nat_eq, if◌then◌else◌}
use Rattle.std.specs.Fmt.{digits}

-- an address, in lower case without leading zeros
abbrev pub hexadecimal : ℕ → List ℕ
hexadecimal n = codes "0x" ++ digits 16 false n

-- three digits after a comma: those of the last thousand of a number
unfoldable pub group_text : ℕ → List ℕ
group_text n = codes "," ++ (decimal (n / 100 % 10) ++ (decimal (n / 10 % 10) ++ decimal (n % 10)))

-- a number with a comma before each of its last three groups of three digits
unfoldable pub commas : ℕ → List ℕ
commas n =
    if nat_lt n 1000 then decimal n
    else if nat_lt n 1000000 then decimal (n / 1000) ++ group_text n
    else if nat_lt n 1000000000 then decimal (n / 1000000) ++ (group_text (n / 1000) ++ group_text n)
    else decimal (n / 1000000000) ++ (group_text (n / 1000000) ++ (group_text (n / 1000) ++ group_text n))

-- a number of things, as `1 page` or `2,000 pages`
unfoldable pub quantity : List ℕ → ℕ → List ℕ
quantity thing n = commas n ++ (codes " " ++ (thing ++ (if nat_eq n 1 then [] else codes "s")))

-- a number of tenths
unfoldable pub tenths : ℕ → List ℕ
tenths n = commas (n / 10) ++ (codes "." ++ decimal (n % 10))

-- of a whole, how many thousandths a part is, rounded down; 0 where there is nothing
abbrev pub permille : ℕ → ℕ → ℕ
permille part whole = if nat_eq whole 0 then 0 else 1000 * part / whole

-- a part of a whole, in percent
unfoldable pub percent : ℕ → ℕ → List ℕ
percent part whole = tenths (permille part whole) ++ codes " %"

-- bytes, in the greatest unit that they reach, rounded down to a tenth
unfoldable pub about : ℕ → List ℕ
about bytes =
    if nat_lt bytes 1024 then decimal bytes ++ codes " B"
    else if nat_lt bytes 1048576 then tenths (10 * bytes / 1024) ++ codes " KiB"
    else if nat_lt bytes 1073741824 then tenths (10 * bytes / 1048576) ++ codes " MiB"
    else tenths (10 * bytes / 1073741824) ++ codes " GiB"

-- bytes, exactly, in the greatest unit of which they are a multiple
unfoldable pub exactly : ℕ → List ℕ
exactly bytes =
    if nat_eq (bytes % 1073741824) 0 then commas (bytes / 1073741824) ++ codes " GiB"
    else if nat_eq (bytes % 1048576) 0 then commas (bytes / 1048576) ++ codes " MiB"
    else if nat_eq (bytes % 1024) 0 then commas (bytes / 1024) ++ codes " KiB"
    else commas bytes ++ codes " bytes"
