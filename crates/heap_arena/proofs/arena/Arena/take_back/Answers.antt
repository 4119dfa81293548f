use Rattle.std.proofs.Common.{refl, inl, inr, arith}
use Rattle.std.proofs.lemmas.Bool.Decides.{nat_tests}
use Rattle.heap_memory.specs.RunLaws.{whole_without, ordered_without}
use Rattle.heap_arena.specs.Arena.{regions_of}
use Rattle.heap_arena.proofs.GrantLemmas.{between_without}
use Rattle.heap_arena.proofs.arena.Arena.take_back.Goals as goal

pub invariant_of-self-clause-whole : goal.invariant_of-self-clause-whole
invariant_of-self-clause-whole c = rw c.give_back.ensures.grants (whole_without c.args.low c.args.high
    (regions_of c.args.self.now) c.requires c.args.self.now.whole)

pub invariant_of-self-clause-ordered : goal.invariant_of-self-clause-ordered
invariant_of-self-clause-ordered c = rw c.give_back.ensures.grants (ordered_without c.args.low c.args.high (regions_of c.args.self.now) c.args.self.now.ordered)

pub invariant_of-self-clause-between : goal.invariant_of-self-clause-between
invariant_of-self-clause-between c =
    let arena = c.args.self.now in
    rw c.give_back.ensures.grants (between_without arena.base arena.top c.args.low c.args.high c.max-self.result
    (regions_of arena) arena.whole arena.between (inl (grind (arith, nat_tests), grind (arith, nat_tests))))

pub invariant_of-self-else-reaches_top-clause-whole : goal.invariant_of-self-else-reaches_top-clause-whole
invariant_of-self-else-reaches_top-clause-whole c = rw c.give_back.ensures.grants
    (whole_without c.args.low c.args.high (regions_of c.args.self.now) c.requires c.args.self.now.whole)

pub invariant_of-self-else-reaches_top-clause-ordered : goal.invariant_of-self-else-reaches_top-clause-ordered
invariant_of-self-else-reaches_top-clause-ordered c = rw c.give_back.ensures.grants
    (ordered_without c.args.low c.args.high (regions_of c.args.self.now) c.args.self.now.ordered)

pub invariant_of-self-else-reaches_top-clause-between : goal.invariant_of-self-else-reaches_top-clause-between
invariant_of-self-else-reaches_top-clause-between c =
    let arena = c.args.self.now in
    rw c.give_back.ensures.grants (between_without arena.base arena.top c.args.low c.args.high arena.top (regions_of arena)
    arena.whole arena.between (inr refl))
