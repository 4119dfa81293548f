-- The level above has fewer flags.
use Rattle.std.specs.Prelude.{ℕ, ◌+◌, ◌<◌, ◌≤◌, max, Bool, List, length, Option, None, Some, refl}
use Rattle.std.specs.Option.{ForSome}
use Rattle.std.proofs.Common.{arith}
use Rattle.std.specs.declared.boxed.Box.{Box}
use Rattle.std.specs.declared.alloc.Global.{Global}
use Rattle.number_set.specs.declared.level.Level.TheShapes.{weighed-Level-above}

pub depth_le-above : (above : Option (Box (List Bool) Global)) (n : ℕ) → ForSome above (λ b. length b.value < n) →
    max (weighed-Level-above.weight (List Bool) (λ flags. length flags + 1) above) 0 ≤ n
depth_le-above None n h = omega arith
depth_le-above (Some b) n h = omega (arith, h b refl)
