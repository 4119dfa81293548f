use Rattle.std.specs.Prelude.{[], List}
use Rattle.std.proofs.Common.{rules, subst}
use Rattle.heap_arena.specs.declared.arena.Arena.{Arena}
use Rattle.heap_arena.specs.Arena.{IsSameArena, IsArenaAfter}
use Rattle.heap_arena.specs.Arenas.{AreAfter}
use Rattle.heap_arena.proofs.ArenaLists.{refilled, zip_map, order_same}
use Rattle.heap_arena.proofs.arenas_memory.ArenasMemory.store.Goals as goal

pub invariant_of-self : goal.invariant_of-self
invariant_of-self g c =
    let olds = c.args.self.now.arenas.items in
    let news = c.store_among.new.arenas in
    let after = subst (λ (xs : List Arena). AreAfter xs [] news) c.as_mut_slice.ensures.value c.store_among.ensures.written.follows in
    let same = zip_map (λ x y. IsArenaAfter x [] y) (λ x y. IsSameArena x y) (λ x y one. one.same) olds news after in
    record { in_order = rw (refilled olds news (search rules)) (order_same olds news same c.args.self.now.in_order) }
