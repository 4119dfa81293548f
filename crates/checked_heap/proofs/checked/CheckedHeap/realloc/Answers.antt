use Rattle.std.proofs.Common.{◌≡◌, ◌∙◌, refl, subst, sym, inl, arith}
use Rattle.dlmalloc.specs.Blocks.{BlocksAreApart}
use Rattle.dlmalloc.specs.declared.heap.Dlmalloc.{Dlmalloc}
use Rattle.heap_arena.specs.Arena.{regions_of, word_of}
use Rattle.heap_arena.specs.declared.arena.Arena.{Arena}
use Rattle.checked_heap.specs.Calls.{IsBlockResized}
use Rattle.checked_heap.specs.Library.{IsResizeRefused}
use Rattle.sound_heap.specs.Heap.{HasBlock, usable}
use Rattle.sound_heap.specs.declared.heap_error.HeapError.TheVariants.{Refused}
use Rattle.checked_heap.specs.Checked.{arena_follows, arena_refuses, arena_denies, arena_heap_state}
use Rattle.checked_heap.proofs.MarkLemmas.{place_of_mark}
use Rattle.checked_heap.proofs.Marking.{resized_same, moved_unmarked, moved_marked, unresized_marked}
use Rattle.checked_heap.proofs.Outside.{resized_outside, unresized_same}
use Rattle.checked_heap.proofs.Room.{resize_refused_for, resize_not_refused}
use Rattle.checked_heap.specs.Room.{IsRefusedResize}
use Rattle.checked_heap.proofs.checked.CheckedHeap.realloc.Goals as goal

pub clear-requires-clause-place : goal.clear-requires-clause-place
clear-requires-clause-place c =
    let block = subst (λ heap. HasBlock (arena_heap_state heap) c.args.from) (sym c.self.view_is) (c.has_block.ensures.0 c.if-not-has_block.false) in
    place_of_mark c.self.inside.marks.base c.self.inside.marks.words.now c.args.from (c.self.invariant.marked c.args.from block)

pub clear-requires-clause-marked : goal.clear-requires-clause-marked
clear-requires-clause-marked c =
    let block = subst (λ heap. HasBlock (arena_heap_state heap) c.args.from) (sym c.self.view_is) (c.has_block.ensures.0 c.if-not-has_block.false) in
    c.self.invariant.marked c.args.from block

pub mark-requires-clause-some : goal.mark-requires-clause-some
mark-requires-clause-some c = let same = c.clear.ensures.base in let some = c.self.invariant.some in omega (arith, same, some)

pub mark-requires-clause-unmarked : goal.mark-requires-clause-unmarked
mark-requires-clause-unmarked c =
    let heap = c.self.inside.heap in
    let block = subst (λ heap. HasBlock (arena_heap_state heap) c.args.from) (sym c.self.view_is) (c.has_block.ensures.0 c.if-not-has_block.false) in
    moved_unmarked c.realloc.new.self c.self.invariant c.args.from (usable (arena_heap_state heap) c.args.from) c.args.size
    c.in-Ok.to c.clear.new.self.base c.clear.new.self.words.now
    block c.in-Ok.ensures.ok.given c.clear.ensures.here c.clear.ensures.others

pub mark-requires-clause-base : goal.mark-requires-clause-base
mark-requires-clause-base c =
    let heap = c.self.inside.heap in
    (resized_same heap c.realloc.new.self c.args.from (usable (arena_heap_state heap) c.args.from) c.args.size c.in-Ok.to
    c.in-Ok.ensures.ok.given).base ∙ (c.self.invariant.base_is ∙ sym c.clear.ensures.base)

pub mark-requires-clause-room : goal.mark-requires-clause-room
mark-requires-clause-room c =
    let heap = c.self.inside.heap in
    let same = (resized_same heap c.realloc.new.self c.args.from (usable (arena_heap_state heap) c.args.from) c.args.size
    c.in-Ok.to c.in-Ok.ensures.ok.given).len in
    let room = c.self.invariant.room in
    let len = c.clear.ensures.len in
    omega (arith, same, room, len)

pub invariant_of-self : goal.invariant_of-self
invariant_of-self c =
    let heap = c.self.inside.heap in
    let block = subst (λ heap. HasBlock (arena_heap_state heap) c.args.from) (sym c.self.view_is) (c.has_block.ensures.0 c.if-not-has_block.false) in
    moved_marked c.realloc.new.self c.self.invariant c.mark.new.marks.base c.mark.new.marks.words.now c.mark.new.marks.count
    (c.mark.ensures.base ∙ c.clear.ensures.base) (c.mark.ensures.len ∙ c.clear.ensures.len) c.mark.ensures.counted
    c.args.from (usable (arena_heap_state heap) c.args.from) c.args.size c.in-Ok.to c.clear.new.self.base
    c.clear.new.self.words.now block c.in-Ok.ensures.ok.given
    c.clear.ensures.here c.clear.ensures.others c.mark.ensures.here c.mark.ensures.others

pub invariant_of-self-in-Err : goal.invariant_of-self-in-Err
invariant_of-self-in-Err c =
    let block = subst (λ heap. HasBlock (arena_heap_state heap) c.args.from) (sym c.self.view_is) (c.has_block.ensures.0 c.if-not-has_block.false) in
    unresized_marked c.realloc.new.self c.self.invariant c.args.from c.args.size (Refused c.in-Err.error)
    (block, c.in-Err.ensures.err.refused, λ few. c.in-Err.ensures.err.tried few (omega arith))

pub returns-then-not-has_block : goal.returns-then-not-has_block
returns-then-not-has_block c =
    let none = c.if-not-has_block.true in
    record {
      resized = tt;
      err = (λ block. let there = c.has_block.ensures.1 block in absurd (cc), refl);
      refused = (λ _. inl (λ block. let there = c.has_block.ensures.1 block in absurd (cc)), λ _. refl);
      same = λ _. refl;
      apart = subst (λ heap. BlocksAreApart (arena_heap_state heap)) c.self.view_is c.law_blocks_apart.ensures;
    }

pub returns-in-Ok : goal.returns-in-Ok
returns-in-Ok c =
    let heap = c.self.inside.heap in
    let block = c.has_block.ensures.0 c.if-not-has_block.false in
    let before = subst (λ heap. HasBlock (arena_heap_state heap) c.args.from) (sym c.self.view_is) block in
    let served = resize_not_refused heap c.realloc.new.self c.args.from (usable (arena_heap_state heap) c.args.from)
    c.args.size
    c.in-Ok.to before c.in-Ok.ensures.ok.given.small c.in-Ok.ensures.ok.resized in
    record {
      resized = subst (λ heap. IsBlockResized heap c.args.from c.args.size c.in-Ok.to c.realloc.new.self) c.self.view_is
          (record {
            block = before;
            reallocated = c.in-Ok.ensures.ok;
            enough = c.in-Ok.ensures.enough;
            outside = resized_outside heap c.realloc.new.self c.args.from (usable (arena_heap_state heap) c.args.from) c.args.size c.in-Ok.to c.in-Ok.ensures.ok.given;
          });
      err = tt;
      refused = (λ none. absurd (cc), λ refused. absurd (served (subst (λ heap. IsRefusedResize heap c.args.from c.args.size) (sym c.self.view_is) refused)));
      same = λ none. absurd (cc);
      apart = c.in-Ok.ensures.apart;
    }

pub returns-in-Err : goal.returns-in-Err
returns-in-Err c =
    let block = subst (λ heap. HasBlock (arena_heap_state heap) c.args.from) (sym c.self.view_is) (c.has_block.ensures.0 c.if-not-has_block.false) in
    let refused : IsResizeRefused regions_of word_of arena_follows arena_refuses arena_denies c.self.inside.heap c.args.from c.args.size
    (Refused c.in-Err.error) c.realloc.new.self = (block, c.in-Err.ensures.err.refused, λ few. c.in-Err.ensures.err.tried few (omega arith)) in
    record {
      resized = tt;
      err = subst (λ heap. IsResizeRefused regions_of word_of arena_follows arena_refuses arena_denies heap c.args.from c.args.size
          (Refused c.in-Err.error) c.realloc.new.self) c.self.view_is refused;
      refused = (
        λ _. subst (λ heap. IsRefusedResize heap c.args.from c.args.size) c.self.view_is
            (resize_refused_for c.self.inside.heap c.realloc.new.self c.args.from c.args.size (Refused c.in-Err.error) refused),
        λ _. refl,
      );
      same = λ _. subst (λ (heap : Dlmalloc Arena). c.realloc.new.self.system ≡ heap.system) c.self.view_is
          (unresized_same c.self.inside.heap c.realloc.new.self c.args.from c.args.size (Refused c.in-Err.error) refused);
      apart = c.in-Err.ensures.apart;
    }
