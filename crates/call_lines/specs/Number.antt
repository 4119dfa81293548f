-- How a number is written.
use Rattle.std.specs.Prelude.{◌^◌, ℕ, List, length, drop, codes, Option, None, Some, if◌then◌else◌, ◌&&◌, Bool, nat_eq, nat_lt, nat_le}
use Rattle.std.specs.Char.{is_digit}
use Rattle.std.specs.Str.Parse.{digits_value}
use Rattle.std.specs.List.{list_all, starts_with}

-- whether these are 1 to `most` digits of the base, of a value below 2 ^ 64
abbrev pub is_numeral : ℕ → ℕ → List ℕ → Bool
is_numeral base most digits =
    nat_lt 0 (length digits) && nat_le (length digits) most && list_all (λ b. is_digit b base) digits && nat_lt (digits_value base digits) (2 ^ 64)

abbrev pub numeral_of : ℕ → ℕ → List ℕ → Option ℕ
numeral_of base most digits = if is_numeral base most digits then Some (digits_value base digits) else None

-- 1 to 20 decimal digits, or 0x and 1 to 16 hexadecimal digits of either case
abbrev pub number_of : List ℕ → Option ℕ
number_of word = if starts_with nat_eq word (codes "0x") then numeral_of 16 16 (drop 2 word) else numeral_of 10 20 word
