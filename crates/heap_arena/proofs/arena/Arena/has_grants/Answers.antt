use Rattle.std.proofs.Common.{ap, ◌∙◌, arith}
use Rattle.std.proofs.lemmas.Bool.Decides.{nat_tests}
use Rattle.heap_arena.specs.Grants.{grants}
use Rattle.heap_arena.proofs.GrantLemmas.{grants_none, grants_some}
use Rattle.heap_arena.proofs.arena.Arena.has_grants.Goals as goal

pub returns-clause-none : goal.returns-clause-none
returns-clause-none c = λ is. ap (grants c.args.self.now.table.words.now) (grind (arith, nat_tests)) ∙ grants_none c.args.self.now.table.words.now

pub returns-clause-some : goal.returns-clause-some
returns-clause-some c = λ is. grants_some c.args.self.now.table.words.now c.args.self.now.table.count (grind (arith, nat_tests))
