use Rattle.std.proofs.Common.{◌≡◌, ℕ, List, [], ◌∷◌, None, refl, arith}
use Rattle.std.proofs.lemmas.Grind.{common_steps}
use Rattle.bitflags.specs.Sets.{Row}
use Rattle.register_image.specs.Values.{named_beside}
use Rattle.register_image.proofs.values.flags_named.Goals as goal

-- once a name is no flag's, there are no bits
none_beside : (table : List Row) (names : List (List ℕ)) → named_beside table None names ≡ None
none_beside table [] = refl
none_beside table (name ∷ names) = none_beside table names

pub returns-in-None : goal.returns-in-None
returns-in-None g c exact = grind (arith, common_steps, none_beside, c.loop-name.invariant exact, c.in-None.ensures exact)
