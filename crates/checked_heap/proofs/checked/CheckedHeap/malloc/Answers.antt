use Rattle.std.proofs.Common.{false, refl, subst, sym, arith}
use Rattle.dlmalloc.specs.declared.heap.Dlmalloc.{Dlmalloc}
use Rattle.heap_arena.specs.Arena.{regions_of, word_of}
use Rattle.heap_arena.specs.declared.arena.Arena.{Arena}
use Rattle.sound_heap.specs.Heap.{IsRequestRefused}
use Rattle.checked_heap.specs.Calls.{IsBlockGiven}
use Rattle.checked_heap.specs.Checked.{arena_follows, arena_refuses, arena_denies, KeepsWordsOutside}
use Rattle.checked_heap.proofs.Marking.{made_unmarked, made_marked, unserved_marked}
use Rattle.checked_heap.proofs.Outside.{found_outside, refused_outside}
use Rattle.checked_heap.proofs.Room.{refused_for, not_refused}
use Rattle.checked_heap.specs.Room.{IsRefused}
use Rattle.checked_heap.proofs.checked.CheckedHeap.malloc.Goals as goal

pub mark-requires-clause-unmarked : goal.mark-requires-clause-unmarked
mark-requires-clause-unmarked c =
    made_unmarked c.malloc.new.self c.self.invariant c.args.size c.args.align c.in-Ok.address c.in-Ok.ensures.ok.handed

pub mark-requires-clause-granted : goal.mark-requires-clause-granted
mark-requires-clause-granted c =
    let out = c.in-Ok.ensures.ok.handed in
    out.granted c.in-Ok.address (omega arith) (omega arith)

pub invariant_of-self : goal.invariant_of-self
invariant_of-self c =
    made_marked c.malloc.new.self c.self.invariant c.mark.new.marks.base c.mark.new.marks.words.now c.mark.new.marks.count
    c.mark.ensures.base c.mark.ensures.len c.mark.ensures.counted
    c.args.size c.args.align c.in-Ok.address c.in-Ok.ensures.ok.handed c.mark.ensures.here c.mark.ensures.others

pub invariant_of-self-in-Err : goal.invariant_of-self-in-Err
invariant_of-self-in-Err c = unserved_marked c.malloc.new.self c.self.invariant c.args.size c.args.align c.in-Err.error c.in-Err.ensures.err

pub returns-in-Ok : goal.returns-in-Ok
returns-in-Ok c =
    let out = c.in-Ok.ensures.ok in
    let served = not_refused c.self.inside.heap c.malloc.new.self c.args.size c.args.align c.in-Ok.address out.power
    out.handed.small (out.served refl) in
    record {
      given = subst (λ heap. IsBlockGiven heap c.args.size c.args.align false c.in-Ok.address c.malloc.new.self) c.self.view_is
          c.in-Ok.ensures.ok;
      err = tt;
      refused = (λ none. absurd (cc), λ refused. absurd (served (subst (λ heap. IsRefused heap c.args.size c.args.align) (sym c.self.view_is) refused)));
      apart = c.in-Ok.ensures.apart;
      outside = subst (λ (heap : Dlmalloc Arena). KeepsWordsOutside (regions_of c.malloc.new.self.system) heap.system c.malloc.new.self.system) c.self.view_is
          (found_outside _ c.malloc.new.self c.args.size c.args.align c.in-Ok.address c.in-Ok.ensures.ok.handed);
    }

pub returns-in-Err : goal.returns-in-Err
returns-in-Err c = record {
  given = tt;
  err = subst (λ heap. IsRequestRefused regions_of word_of arena_follows arena_refuses arena_denies
      heap c.args.size
      c.args.align c.in-Err.error c.malloc.new.self) c.self.view_is c.in-Err.ensures.err;
  refused = (
    λ _. subst (λ heap. IsRefused heap c.args.size c.args.align) c.self.view_is
        (refused_for c.self.inside.heap c.malloc.new.self c.args.size c.args.align c.in-Err.error c.in-Err.ensures.err),
    λ _. refl,
  );
  apart = c.in-Err.ensures.apart;
  outside = subst (λ (heap : Dlmalloc Arena). KeepsWordsOutside (regions_of c.malloc.new.self.system) heap.system c.malloc.new.self.system) c.self.view_is
      (refused_outside _ c.malloc.new.self c.args.size c.args.align c.in-Err.error c.in-Err.ensures.err);
}
