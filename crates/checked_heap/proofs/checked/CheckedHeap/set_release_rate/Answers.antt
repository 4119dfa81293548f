use Rattle.std.proofs.Common.{ap, length, subst, sym}
use Rattle.dlmalloc.specs.State.{extents_in}
use Rattle.dlmalloc.specs.State.{countdown_from}
use Rattle.heap_arena.specs.declared.arena.Arena.{Arena}
use Rattle.checked_heap.specs.Answers.{IsOnlySet}
use Rattle.checked_heap.specs.Checked.{arena_heap_state}
use Rattle.checked_heap.proofs.Marking.{kept_marked, same_blocks}
use Rattle.checked_heap.proofs.checked.CheckedHeap.set_release_rate.Goals as goal

pub invariant_of-self : goal.invariant_of-self
invariant_of-self c =
    let system = c.set_release_rate.ensures.system in
    let state = c.set_release_rate.ensures.state in
    kept_marked c.set_release_rate.new.self c.self.invariant
    (record {
      base = ap (λ (a : Arena). a.base) system;
      len = ap (λ (a : Arena). length a.words.now) system;
      table =
          ap (λ (a : Arena). length a.table.words.now) system;
    })
    (same_blocks (arena_heap_state c.self.inside.heap) (arena_heap_state c.set_release_rate.new.self) (ap extents_in state))
    (same_blocks (arena_heap_state c.set_release_rate.new.self) (arena_heap_state c.self.inside.heap)
    (sym (ap extents_in state)))

pub returns : goal.returns
returns c = subst (λ heap. IsOnlySet (record (arena_heap_state heap) { rate = c.args.rate; countdown = countdown_from c.args.rate }) heap c.set_release_rate.new.self) c.self.view_is
    (record { state_is = c.set_release_rate.ensures.state; system = c.set_release_rate.ensures.system; index = c.set_release_rate.ensures.index })
