use Rattle.std.proofs.Common.{refl}
use Rattle.heap_arena.proofs.arena.Arena.new.Goals as goal

pub invariant_of-result-clause-whole : goal.invariant_of-result-clause-whole
invariant_of-result-clause-whole c = rw c.new.ensures.grants refl

pub invariant_of-result-clause-ordered : goal.invariant_of-result-clause-ordered
invariant_of-result-clause-ordered c = rw c.new.ensures.grants refl

pub invariant_of-result-clause-between : goal.invariant_of-result-clause-between
invariant_of-result-clause-between c = rw c.new.ensures.grants refl
