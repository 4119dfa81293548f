use Rattle.std.proofs.Common.{◌+◌, rules, refl, sym, subst, arith}
use Rattle.dlmalloc.specs.declared.heap.Dlmalloc.{Dlmalloc}
use Rattle.heap_arena.specs.Arena.{regions_of, word_of, AreInside, IsWordPut}
use Rattle.heap_arena.specs.declared.arena.Arena.{Arena}
use Rattle.sound_heap.specs.Heap.{StaysInState}
use Rattle.checked_heap.specs.Checked.{arena_follows, arena_heap_state}
use Rattle.checked_heap.specs.Library.{HasWord}
use Rattle.checked_heap.proofs.Marking.{same_marked}
use Rattle.checked_heap.proofs.Stored.{block_above, stored_put}
use Rattle.checked_heap.proofs.checked.CheckedHeap.store.Goals as goal

pub invariant_of-self : goal.invariant_of-self
invariant_of-self c =
    let stays = c.store.ensures.stays in
    same_marked c.store.new.self c.self.invariant stays.followed.same stays.state

pub returns-clause-put : goal.returns-clause-put
returns-clause-put c = λ is.
    let heap = c.self.inside.heap in
    let word = subst (λ (heap : Dlmalloc Arena). HasWord (arena_heap_state heap) c.args.address c.args.offset) (sym c.self.view_is) (c.has_word.ensures.0 c.if-not-has_word.false) in
    let inside = subst (λ (arena : Arena). AreInside arena) c.system.ensures c.law_grants_inside.ensures.inside in
    let above = block_above heap.system (arena_heap_state heap) c.args.address inside c.law_blocks_placed.ensures word.block in
    let low = above.0 in
    let multiple = above.1 in
    let whole = word.aligned in
    subst (λ (heap : Dlmalloc Arena). IsWordPut (c.args.address + c.args.offset) c.args.value heap.system c.store.new.self.system) c.self.view_is
    (stored_put heap.system c.store.new.self.system (c.args.address + c.args.offset) c.args.value (omega (arith, low)) (omega (arith, multiple, whole))
    c.store.ensures.stored c.store.ensures.stays.regions_same c.store.ensures.stays.followed)

pub returns-clause-stays : goal.returns-clause-stays
returns-clause-stays c =
    subst (λ heap. StaysInState regions_of word_of arena_follows heap c.store.new.self) c.self.view_is c.store.ensures.stays

pub returns-then-not-has_word-clause-stays : goal.returns-then-not-has_word-clause-stays
returns-then-not-has_word-clause-stays c = record {
  state = refl;
  regions_same = refl;
  followed = search rules;
  index = λ before. (before, λ n. refl);
}
