-- Flags kept as the bits of 64-bit words.
use Rattle.std.specs.Prelude.{◌≡◌, ℕ, ◌+◌, ◌-◌, ◌/◌, ◌%◌, ◌^◌, ◌<◌, ◌≤◌, Bool, false, eqb, not, List, length, map, get_or}
use Rattle.std.specs.Int.{bit_at}
use Rattle.std.specs.List.{range_with_len}
use Rattle.std.proofs.lemmas.List.{length-map}
use Rattle.std.proofs.lemmas.List.FromFn.{length-map-range_with_len}

-- the flag of number n is bit n % 64 of word n / 64
abbrev pub flag_at : List ℕ → ℕ → Bool
flag_at words n = eqb (bit_at (get_or words (n / 64) 0) (n % 64)) 1

-- the flags of the numbers below the bound
unfoldable pub flags_of : List ℕ → ℕ → List Bool
flags_of words bound = map (flag_at words) (range_with_len 0 bound)

abbrev pub is_nonzero : ℕ → Bool
is_nonzero word = not (eqb word 0)

-- a flag for each word: whether it has a bit
unfoldable pub summary_of : List ℕ → List Bool
summary_of words = map is_nonzero words

-- there are as many words as the bound needs, and no bit from the bound on
pub record IsBitmap (words : List ℕ) (bound : ℕ) : Type 0 where
  pub count : length words ≡ (bound + 63) / 64
  pub clear : (n : ℕ) → bound ≤ n → flag_at words n ≡ false

-- every bit below the bound is set
pub record IsFullTo (words : List ℕ) (bound : ℕ) : Type 0 where
  pub count : length words ≡ (bound + 63) / 64
  pub whole : (i : ℕ) → i < bound / 64 → get_or words i 0 ≡ 2 ^ 64 - 1
  pub last : get_or words (bound / 64) 0 ≡ 2 ^ (bound % 64) - 1

pub length-flags_of : (words : List ℕ) (bound : ℕ) → length (flags_of words bound) ≡ bound
unfolding flags_of
length-flags_of words bound = length-map-range_with_len (flag_at words) 0 bound

pub length-summary_of : (words : List ℕ) → length (summary_of words) ≡ length words
unfolding summary_of
length-summary_of words = length-map words is_nonzero
