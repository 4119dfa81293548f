use Rattle.std.proofs.Common.{rules, subst}
use Rattle.dlmalloc.specs.Blocks.{ArePlaced}
use Rattle.dlmalloc.specs.declared.heap.Dlmalloc.{Dlmalloc}
use Rattle.heap_arena.specs.Arena.{regions_of}
use Rattle.heap_arena.specs.declared.arena.Arena.{Arena}
use Rattle.checked_heap.specs.Checked.{arena_heap_state}
use Rattle.limzhur_c.proofs.exports.limzhur_stats.Goals as goal

pub returns-clause-placed : goal.returns-clause-placed
returns-clause-placed c = subst (λ (h : Dlmalloc Arena). ArePlaced (regions_of h.system) (arena_heap_state h))
    c.open-heap.ensures.heap c.law_blocks_placed.ensures

pub returns-clause-holds : goal.returns-clause-holds
returns-clause-holds c = record { top = search rules; above = search rules; blocks = search rules }
