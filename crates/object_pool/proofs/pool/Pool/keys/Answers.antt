use Rattle.std.proofs.Common.{sym, subst, ◌∙◌}
use Rattle.object_pool.specs.Pool.{StandsForLists}
use Rattle.object_pool.proofs.KeyLists.{keys_are}
use Rattle.object_pool.proofs.pool.Pool.keys.Goals as goal

pub returns : goal.returns
returns g c = λ lists stands.
    let p = c.self.inside in
    let held = subst (λ pool. StandsForLists g.A.Links.word pool lists) (sym c.self.view_is) stands in
    c.keys.ensures ∙ keys_are p.slots.slots.items p.slots.freed.items _ lists held.holds
