-- What no call of a system changes.
use Rattle.std.specs.Prelude.{◌≡◌, ℕ, Bool}

pub record IsFixed {System : Type 0} (zeros frees parts : System → Bool) (unit : System → ℕ) (old new : System) : Type 0 where
  pub zeros_same : zeros new ≡ zeros old
  pub frees_same : frees new ≡ frees old
  pub parts_same : parts new ≡ parts old
  pub unit_same : unit new ≡ unit old
