-- Marks at addresses: bits of words (own).
use Rattle.std.specs.Prelude.{◌≡◌, ℕ, ◌-◌, ◌/◌, ◌%◌, ◌<◌, ◌≤◌, Bool, ◌&&◌, ◌==◌, nat_le, List, length, slice_index}
use Rattle.std.specs.Int.{bit_at}

-- the bit of number n is bit n % 64 of word n / 64
abbrev pub has_mark : List ℕ → ℕ → Bool
has_mark words n = bit_at (slice_index words (n / 64)) (n % 64) == 1

-- Whether an address is marked: it is a base or a multiple of 16 after it, and bit n is set, if it is 16 n after it.
abbrev pub is_marked : ℕ → List ℕ → ℕ → Bool
is_marked base words address = nat_le base address && ((address - base) % 16 == 0 && has_mark words ((address - base) / 16))

-- an address has a bit
pub record HasBitPlace (base : ℕ) (words : List ℕ) (address : ℕ) : Type 0 where
  pub low : base ≤ address
  pub whole : (address - base) % 16 ≡ 0
  pub within : (address - base) / 16 / 64 < length words
