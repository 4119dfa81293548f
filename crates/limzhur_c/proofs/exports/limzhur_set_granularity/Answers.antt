use Rattle.std.proofs.Common.{subst}
use Rattle.std.specs.Prelude.{if◌then◌else◌}
use Rattle.dlmalloc.specs.declared.heap.Dlmalloc.{Dlmalloc}
use Rattle.heap_arena.specs.declared.arena.Arena.{Arena}
use Rattle.checked_heap.specs.Answers.{IsOnlySet}
use Rattle.checked_heap.specs.Checked.{arena_heap_state}
use Rattle.limzhur_c.proofs.exports.limzhur_set_granularity.Goals as goal

pub returns-clause-set : goal.returns-clause-set
returns-clause-set c =
    subst (λ (heap : Dlmalloc Arena). IsOnlySet (record (arena_heap_state heap) {
      granularity = if c.set_granularity.result then c.args.bytes else heap.granularity;
    }) heap c.set_granularity.new.self) c.open.ensures.heap c.set_granularity.ensures.set
