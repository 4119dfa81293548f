-- What a caller sees of a set of the numbers below a bound: a flag for each number, in order.
use Rattle.std.specs.Prelude.{◌≡◌, ℕ, ◌<◌, Bool, true, false, List, get_or}

-- no number is in the set
abbrev pub HasNoNumber : List Bool → Type 0
HasNoNumber flags = (k : ℕ) → get_or flags k false ≡ false

-- the number is in the set, and no smaller one is
pub record IsLowest (flags : List Bool) (number : ℕ) : Type 0 where
  pub contained : get_or flags number false ≡ true
  pub lowest : (k : ℕ) → k < number → get_or flags k false ≡ false
