-- The ledgers of the counters that calls of a heap have (own).
use Rattle.std.specs.Prelude.{◌≡◌, ℕ, ◌<◌}
use Rattle.std.specs.declared.sync.ledger.Blank.{Blank}

-- A blank of a ledger, in which a counter can begin.
pub record IsBlankOf (name parts : ℕ) (blank : Blank) : Type 0 where
  pub name_is : blank.name ≡ name
  pub parts_are : blank.parts ≡ parts
  pub some : 0 < blank.parts
