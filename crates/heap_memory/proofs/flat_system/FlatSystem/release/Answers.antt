use Rattle.heap_memory.specs.RunLaws.{granted_before, whole_without, ordered_without}
use Rattle.heap_memory.proofs.FlatScriptLemmas.{some_without}
use Rattle.heap_memory.proofs.flat_system.FlatSystem.release.Goals as goal

pub invariant_of-self-clause-held : goal.invariant_of-self-clause-held
invariant_of-self-clause-held c = λ at granted.
    c.args.self.now.held at (granted_before c.args.low c.args.high c.args.self.now.regions.items at (rw (← c.give_back.ensures.items) granted))

pub invariant_of-self-clause-given : goal.invariant_of-self-clause-given
invariant_of-self-clause-given c = λ at granted.
    c.args.self.now.given at (granted_before c.args.low c.args.high c.args.self.now.regions.items at (rw (← c.give_back.ensures.items) granted))

pub invariant_of-self-clause-ordered : goal.invariant_of-self-clause-ordered
invariant_of-self-clause-ordered c = rw c.give_back.ensures.items (ordered_without c.args.low c.args.high c.args.self.now.regions.items c.args.self.now.ordered)

pub invariant_of-self-clause-whole : goal.invariant_of-self-clause-whole
invariant_of-self-clause-whole c = rw c.give_back.ensures.items (whole_without c.args.low c.args.high c.args.self.now.regions.items c.requires c.args.self.now.whole)

pub invariant_of-self-clause-some : goal.invariant_of-self-clause-some
invariant_of-self-clause-some c = rw c.give_back.ensures.items (some_without c.args.low c.args.high c.args.self.now.regions.items c.args.self.now.some)
