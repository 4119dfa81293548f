use Rattle.std.proofs.Common.{arith, set, true, Bool, length-set}
use Rattle.std.proofs.lemmas.Grind.{common_steps}
use Rattle.std.proofs.lemmas.List.Sums.{count_by-le-length}
use Rattle.number_set.proofs.NumberSet.insert.Goals as goal

pub overflow_add-self : goal.overflow_add-self
overflow_add-self c = grind (arith, common_steps, count_by-le-length (λ (flag : Bool). flag) (set c.self.inside.numbers c.args.number true), c.self.invariant.1, length-set c.self.inside.numbers c.args.number true)
