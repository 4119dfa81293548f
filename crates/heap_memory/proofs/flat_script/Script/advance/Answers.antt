use Rattle.std.proofs.Common.{arith}
use Rattle.heap_memory.proofs.FlatScriptLemmas.{taken_more, left_more}
use Rattle.heap_memory.specs.declared.flat_script.FlatStep.TheVariants.{Refuse}
use Rattle.heap_memory.specs.declared.grant.GrantFault.TheVariants.{NoSpace}
use Rattle.heap_memory.proofs.flat_script.Script.advance.Goals as goal

pub returns-then-self-len-clause-taken : goal.returns-then-self-len-clause-taken
returns-then-self-len-clause-taken c = taken_more c.args.self.now.steps.items c.args.self.now.count (Refuse NoSpace) (omega arith)

pub returns-then-self-len-clause-left : goal.returns-then-self-len-clause-left
returns-then-self-len-clause-left c = left_more c.args.self.now.steps.items c.args.self.now.count
