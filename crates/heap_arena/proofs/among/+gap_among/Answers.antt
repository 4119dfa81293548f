use Rattle.std.specs.Prelude.{◌≤◌}
use Rattle.std.proofs.Common.{rules, subst, arith}
use Rattle.std.proofs.lemmas.Bool.Decides.{nat_tests}
use Rattle.heap_arena.specs.declared.arena.Arena.{Arena}
use Rattle.heap_arena.specs.Arena.{end_of}
use Rattle.heap_arena.proofs.ArenaLists.{order_insert, order_first, none_behind}
use Rattle.heap_arena.proofs.among.+gap_among.Goals as goal

pub returns-in_ok-gap_among-in-len1-up-clause-order : goal.returns-in_ok-gap_among-in-len1-up-clause-order
returns-in_ok-gap_among-in-len1-up-clause-order t c =
    let first = c.first-item.result in
    let past : end_of first ≤ c.args.arena.now.base = grind (arith, nat_tests) in
    order_insert c.args.arena.now first c.in_ok-gap_among-in-len1-up.field-0 c.args.arenas.now (search rules) c.requires
    (subst (λ (a : Arena). end_of a ≤ c.args.arena.now.base) c.first-item.is past)
    c.in_ok-gap_among-in-len1-up.ensures.order

pub returns-else-base-end-clause-order : goal.returns-else-base-end-clause-order
returns-else-base-end-clause-order t c =
    let first = c.first-item.result in
    let before : end_of c.args.arena.now ≤ first.base = grind (arith, nat_tests) in
    order_first c.args.arena.now first c.args.arenas.now c.requires (subst (λ (a : Arena). end_of c.args.arena.now ≤ a.base) c.first-item.is before)

pub returns-else-base-end-clause-apart : goal.returns-else-base-end-clause-apart
returns-else-base-end-clause-apart t c = none_behind c.args.arena.now c.args.arenas.now (returns-else-base-end-clause-order t c)
