use Rattle.std.proofs.Common.{subst, true}
use Rattle.dlmalloc.specs.Shortened.{IsTrimmed}
use Rattle.dlmalloc.specs.declared.heap.Dlmalloc.{Dlmalloc}
use Rattle.heap_arena.specs.Arena.{regions_of, word_of}
use Rattle.heap_arena.specs.declared.arena.Arena.{Arena}
use Rattle.checked_heap.specs.Checked.{arena_follows, KeepsWordsOutside}
use Rattle.checked_heap.proofs.Marking.{trimmed_marked}
use Rattle.checked_heap.proofs.Outside.{trimmed_outside}
use Rattle.checked_heap.proofs.checked.CheckedHeap.trim.Goals as goal

pub invariant_of-self : goal.invariant_of-self
invariant_of-self c = trimmed_marked c.trim.new.self c.self.invariant c.args.pad c.trim.result c.trim.ensures.trimmed

pub returns-clause-trimmed : goal.returns-clause-trimmed
returns-clause-trimmed c = subst (λ heap. IsTrimmed regions_of word_of arena_follows true true 1 heap c.args.pad c.trim.result
    c.trim.new.self) c.self.view_is c.trim.ensures.trimmed

pub returns-clause-outside : goal.returns-clause-outside
returns-clause-outside c =
    subst (λ (heap : Dlmalloc Arena). KeepsWordsOutside (regions_of heap.system) heap.system c.trim.new.self.system) c.self.view_is
    (trimmed_outside _ c.trim.new.self c.args.pad c.trim.result c.trim.ensures.trimmed)
