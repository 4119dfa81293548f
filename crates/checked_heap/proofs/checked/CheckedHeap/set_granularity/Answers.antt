use Rattle.std.specs.Prelude.{if◌then◌else◌}
use Rattle.std.proofs.Common.{ap, length, subst, sym}
use Rattle.dlmalloc.specs.State.{extents_in}
use Rattle.heap_arena.specs.declared.arena.Arena.{Arena}
use Rattle.checked_heap.specs.Answers.{IsOnlySet}
use Rattle.checked_heap.specs.Checked.{arena_heap_state}
use Rattle.checked_heap.proofs.Marking.{kept_marked, same_blocks}
use Rattle.checked_heap.proofs.checked.CheckedHeap.set_granularity.Goals as goal

pub invariant_of-self : goal.invariant_of-self
invariant_of-self c =
    let system = c.set_granularity.ensures.system in
    let state = c.set_granularity.ensures.state in
    kept_marked c.set_granularity.new.self c.self.invariant
    (record {
      base = ap (λ (a : Arena). a.base) system;
      len = ap (λ (a : Arena). length a.words.now) system;
      table =
          ap (λ (a : Arena). length a.table.words.now) system;
    })
    (same_blocks (arena_heap_state c.self.inside.heap) (arena_heap_state c.set_granularity.new.self) (ap extents_in state))
    (same_blocks (arena_heap_state c.set_granularity.new.self) (arena_heap_state c.self.inside.heap)
    (sym (ap extents_in state)))

pub returns-clause-set : goal.returns-clause-set
returns-clause-set c = subst (λ heap. IsOnlySet (record (arena_heap_state heap) { granularity = if c.set_granularity.result then c.args.granularity else heap.granularity }) heap c.set_granularity.new.self) c.self.view_is
    (record { state_is = c.set_granularity.ensures.state; system = c.set_granularity.ensures.system; index = c.set_granularity.ensures.index })
