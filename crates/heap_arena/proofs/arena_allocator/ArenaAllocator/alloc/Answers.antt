use Rattle.std.specs.Prelude.{◌≡◌, ◌+◌, Bool, List, [], ◌∷◌, IsTrue, max, true, if◌then◌else◌}
use Rattle.std.proofs.Common.{◌∙◌, arith, ap, inl, inr, subst, sym, refl}
use Rattle.std.proofs.lemmas.Bool.Decides.{nat_tests}
use Rattle.heap_memory.specs.declared.grant.Grant.{Grant}
use Rattle.heap_memory.specs.Events.{Granted}
use Rattle.heap_memory.specs.Regions.{is_granted}
use Rattle.heap_memory.specs.RegionLaws.{granted_new, granted_split}
use Rattle.heap_memory.specs.Runs.{begins_in}
use Rattle.heap_arena.specs.Arena.{regions_of, end_of}
use Rattle.heap_arena.specs.ArenaLaws.{ever_before, ever_by}
use Rattle.heap_arena.proofs.GrantLemmas.{with_last, whole_more, ordered_more, between_more}
use Rattle.heap_arena.proofs.arena_allocator.ArenaAllocator.alloc.Goals as goal

pub invariant_of-self-clause-whole : goal.invariant_of-self-clause-whole
invariant_of-self-clause-whole c =
    let arena = c.args.self.now in
    let grant : Grant = record { base = arena.top; size = c.args.size; flags = 0 } in
    rw c.push.ensures.grants (whole_more arena.base arena.top grant (regions_of arena) (omega arith) arena.between
    (let top = arena.top_aligned in let begins = arena.begins in let low = arena.low in let high = arena.high in
    let size = c.requires.whole in let some = c.requires.some in grind (arith, nat_tests)) arena.whole)

pub invariant_of-self-clause-ordered : goal.invariant_of-self-clause-ordered
invariant_of-self-clause-ordered c =
    let arena = c.args.self.now in
    let grant : Grant = record { base = arena.top; size = c.args.size; flags = 0 } in
    rw c.push.ensures.grants (ordered_more arena.base arena.top grant (regions_of arena) (omega arith) c.requires.some arena.between arena.ordered)

pub invariant_of-self-clause-between : goal.invariant_of-self-clause-between
invariant_of-self-clause-between c =
    let arena = c.args.self.now in
    let grant : Grant = record { base = arena.top; size = c.args.size; flags = 0 } in
    rw c.push.ensures.grants (between_more arena.base arena.top (arena.top + c.args.size) (regions_of arena) grant
    arena.between arena.begins (omega arith) (omega arith))

pub returns-clause-follows : goal.returns-clause-follows
returns-clause-follows c =
    let arena = c.args.self.now in
    let grant : Grant = record { base = arena.top; size = c.args.size; flags = 0 } in
    let begins = arena.begins in
    let some = c.requires.some in
    let own : begins_in arena.base (end_of arena) grant ≡ true = grind (arith, nat_tests, begins, some) in
    record {
      same = record { base = refl; len = refl; table = c.push.ensures.len };
      placed = (λ is. (refl, refl), tt);
      top = sym (ap (λ (is : Bool). if is then arena.top + c.args.size else arena.top) own);
      peak = c.max-self.ensures ∙ sym (ap (λ (is : Bool). if is then max arena.peak (arena.top + c.args.size) else arena.peak) own);
      granted = λ at is.
          elim (granted_split grant (regions_of arena) at (subst (λ (rs : List Grant). IsTrue (is_granted rs at))
          (c.push.ensures.grants ∙ sym (with_last arena.base arena.top grant (regions_of arena) (omega arith) arena.between)) is)) [
            | inl here ↦ ever_by arena (Granted c.args.size grant ∷ []) at
                (ap (λ (b : Bool). is_granted (if b then grant ∷ [] else []) at) own ∙ granted_new grant [] at here.0 here.1)
            | inr before ↦ ever_before arena (Granted c.args.size grant ∷ []) at before
          ];
      untouched = λ i never. refl;
    }
