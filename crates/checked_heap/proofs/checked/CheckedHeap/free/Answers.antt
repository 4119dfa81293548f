use Rattle.std.proofs.Common.{subst, sym, true}
use Rattle.dlmalloc.specs.AfterFree.{IsFreed}
use Rattle.dlmalloc.specs.declared.heap.Dlmalloc.{Dlmalloc}
use Rattle.heap_arena.specs.Arena.{regions_of, word_of}
use Rattle.heap_arena.specs.declared.arena.Arena.{Arena}
use Rattle.sound_heap.specs.Heap.{HasBlock}
use Rattle.checked_heap.specs.Checked.{arena_follows, arena_heap_state, KeepsWordsOutside}
use Rattle.checked_heap.proofs.MarkLemmas.{place_of_mark}
use Rattle.checked_heap.proofs.Marking.{freed_marked}
use Rattle.checked_heap.proofs.Outside.{freed_outside}
use Rattle.checked_heap.proofs.checked.CheckedHeap.free.Goals as goal

pub clear-requires-clause-place : goal.clear-requires-clause-place
clear-requires-clause-place c =
    let block = subst (λ heap. HasBlock (arena_heap_state heap) c.args.address) (sym c.self.view_is) (c.has_block.ensures.0 c.if-not-has_block.false) in
    place_of_mark c.self.inside.marks.base c.self.inside.marks.words.now c.args.address (c.self.invariant.marked c.args.address block)

pub clear-requires-clause-marked : goal.clear-requires-clause-marked
clear-requires-clause-marked c =
    let block = subst (λ heap. HasBlock (arena_heap_state heap) c.args.address) (sym c.self.view_is) (c.has_block.ensures.0 c.if-not-has_block.false) in
    c.self.invariant.marked c.args.address block

pub invariant_of-self : goal.invariant_of-self
invariant_of-self c =
    let block = subst (λ heap. HasBlock (arena_heap_state heap) c.args.address) (sym c.self.view_is) (c.has_block.ensures.0 c.if-not-has_block.false) in
    freed_marked c.free.new.self c.self.invariant c.clear.new.self.base c.clear.new.self.words.now c.clear.new.self.count
    c.clear.ensures.base c.clear.ensures.len c.clear.ensures.counted
    c.args.address block c.free.ensures.freed c.clear.ensures.here c.clear.ensures.others

pub returns-clause-freed : goal.returns-clause-freed
returns-clause-freed c = λ is. subst (λ heap. IsFreed regions_of word_of arena_follows true true 1 heap c.args.address
    c.free.new.self) c.self.view_is c.free.ensures.freed

pub returns-clause-outside : goal.returns-clause-outside
returns-clause-outside c =
    subst (λ (heap : Dlmalloc Arena). KeepsWordsOutside (regions_of heap.system) heap.system c.free.new.self.system) c.self.view_is
    (freed_outside _ c.free.new.self c.args.address c.free.ensures.freed)
