use Rattle.std.proofs.Common.{subst}
use Rattle.dlmalloc.specs.State.{countdown_from}
use Rattle.dlmalloc.specs.declared.heap.Dlmalloc.{Dlmalloc}
use Rattle.heap_arena.specs.declared.arena.Arena.{Arena}
use Rattle.checked_heap.specs.Answers.{IsOnlySet}
use Rattle.checked_heap.specs.Checked.{arena_heap_state}
use Rattle.limzhur_c.proofs.exports.limzhur_set_release_rate.Goals as goal

pub returns-clause-set : goal.returns-clause-set
returns-clause-set c = subst (λ (heap : Dlmalloc Arena). IsOnlySet (record (arena_heap_state heap) { rate = c.args.rate; countdown = countdown_from c.args.rate }) heap c.set_release_rate.new.self) c.open.ensures.heap c.set_release_rate.ensures
