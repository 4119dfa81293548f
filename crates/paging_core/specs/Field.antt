-- A field of a word: its bits `low` up to `high`, `high` excluded (own).
use Rattle.std.specs.Prelude.{◌≡◌, ℕ, ◌+◌, ◌-◌, ◌*◌, ◌/◌, ◌%◌, ◌^◌, ◌<◌, ◌≤◌}
use Rattle.std.specs.Int.{bit_at}

-- the number that the field holds
abbrev pub field_of : ℕ → ℕ → ℕ → ℕ
field_of word low high = word / 2 ^ low % 2 ^ (high - low)

-- the word with another number in the field, and all bits above and below it as they were
abbrev pub with_bit_field : ℕ → ℕ → ℕ → ℕ → ℕ
with_bit_field word low high value = word / 2 ^ high * 2 ^ high + (value * 2 ^ low + word % 2 ^ low)

-- the same bit by bit: the field holds the number, and every other bit stays
pub record ReplacesField (old new low high value : ℕ) : Type 0 where
  pub field : field_of new low high ≡ value
  pub below : (bit : ℕ) → bit < low → bit_at new bit ≡ bit_at old bit
  pub above : (bit : ℕ) → high ≤ bit → bit_at new bit ≡ bit_at old bit
