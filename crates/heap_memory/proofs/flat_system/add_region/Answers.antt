use Rattle.std.proofs.Common.{List, ◌∙◌, ap, arith}
use Rattle.std.specs.Prelude.{position, nat_lt}
use Rattle.heap_memory.specs.declared.grant.Grant.{Grant}
use Rattle.heap_memory.proofs.FlatScriptLemmas.{inserted_by}
use Rattle.heap_memory.proofs.flat_system.add_region.Goals as goal

pub returns-clause-items : goal.returns-clause-items
returns-clause-items c =
    c.in-Ok.ensures.items ∙ inserted_by c.args.grant c.args.regions.now.items c.first_above.result c.len.result c.unwrap_or-place.result
    (c.first_above.ensures ∙ ap (λ (rs : List Grant). position (λ region. nat_lt c.args.grant.base region.base) rs) c.deref.ensures.value)
    (omega (arith, c.len.ensures)) c.unwrap_or-place.ensures
