use Rattle.std.proofs.Common.{arith, ◌∙◌}
use Rattle.std.proofs.lemmas.List.{length-set}
use Rattle.heap_cache.proofs.StackLemmas.{pushed_within}
use Rattle.heap_cache.proofs.stacks.Stacks.push.Goals as goal

pub overflow_add-self : goal.overflow_add-self
overflow_add-self c = let few = c.args.self.now.within c.args.class c.requires in omega (arith, few)

pub overflow_add-self-2 : goal.overflow_add-self-2
overflow_add-self-2 c = let few = c.args.self.now.within c.args.class c.requires in omega (arith, few)

pub offset_bounds-self-row-2 : goal.offset_bounds-self-row-2
offset_bounds-self-row-2 c = let few = c.args.self.now.within c.args.class c.requires in omega (arith, few)

pub bounds-self-row-2 : goal.bounds-self-row-2
bounds-self-row-2 c = let few = c.args.self.now.within c.args.class c.requires in omega (arith, few)

pub overflow_add-self-3 : goal.overflow_add-self-3
overflow_add-self-3 c = let few = c.args.self.now.within c.args.class c.requires in omega (arith, few)

pub invariant_of-self : goal.invariant_of-self
invariant_of-self c =
    let room = c.if-count-eq-DEPTH.false in
    record {
      len = length-set _ _ _ ∙ (length-set _ _ _ ∙ c.args.self.now.len);
      within = pushed_within c.args.self.now.rows c.args.class c.args.address c.args.self.now.len c.args.self.now.within c.requires (omega (arith, c.args.self.now.within c.args.class c.requires, room));
    }
