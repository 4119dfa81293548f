use Rattle.std.proofs.Common.{IfErr, OnOk, refl, subst}
use Rattle.heap_arena.specs.Arenas.{IsAdded}
use Rattle.checked_heap.specs.Calls.{IsArenaRefused}
use Rattle.checked_heap.proofs.Adding.{added_intact, refused_arena}
use Rattle.checked_heap.proofs.heap_arenas.add.Goals as goal

pub returns-clause-intact : goal.returns-clause-intact
returns-clause-intact g c =
    (added_intact (λ a. a.arenas.items) c.args.heap.now c.allocator_mut.result.now c.add.new.self c.add.result c.args.arena
    c.law_rests_outside.ensures c.requires c.allocator_mut.ensures.value c.add.ensures.ok c.add.ensures.same).0

pub returns-clause-answered : goal.returns-clause-answered
returns-clause-answered g c = record {
  taken = subst (λ system. OnOk c.add.result (IsAdded system.arenas.items c.args.arena c.add.new.self.arenas.items)) c.allocator_mut.ensures.value
      c.add.ensures.ok;
  err = subst (λ system. IfErr c.add.result (λ refusal. IsArenaRefused system.arenas.items g.row.N c.args.arena refusal.0
      refusal.1 c.add.new.self.arenas.items)) c.allocator_mut.ensures.value
      (refused_arena c.allocator_mut.result.now.arenas.items c.add.new.self.arenas.items g.row.N c.args.arena c.add.result
      c.add.ensures.err c.add.ensures.back c.add.ensures.same);
  others = refl;
}

pub returns-clause-state : goal.returns-clause-state
returns-clause-state g c = (added_intact (λ a. a.arenas.items) c.args.heap.now c.allocator_mut.result.now c.add.new.self c.add.result c.args.arena
    c.law_rests_outside.ensures c.requires c.allocator_mut.ensures.value c.add.ensures.ok c.add.ensures.same).1
