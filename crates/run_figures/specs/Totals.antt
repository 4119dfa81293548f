-- Sizes and their sum.
use Rattle.std.specs.Prelude.{◌≡◌, ◌<◌, ◌≤◌, ◌^◌, ℕ, List, length, sum, slice_index}

-- the sizes before a number are 0
abbrev pub AreZeroBefore : ℕ → List ℕ → Type 0
AreZeroBefore first sizes = (k : ℕ) → k < first → slice_index sizes k ≡ 0

-- the total is the sum of the sizes, each of which fits 64 bits, and those before a number are 0
pub record AreTotalled (sizes : List ℕ) (total first : ℕ) : Type 0 where
  pub total_is : total ≡ sum sizes
  pub small : (k : ℕ) → slice_index sizes k < 2 ^ 64
  pub within : first ≤ length sizes
  pub zero : AreZeroBefore first sizes
