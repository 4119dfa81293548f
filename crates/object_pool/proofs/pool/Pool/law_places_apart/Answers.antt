use Rattle.std.proofs.Common.{subst}
use Rattle.object_pool.specs.Pool.{PlacesAreApart}
use Rattle.object_pool.proofs.SlabPlaces.{places_apart}
use Rattle.object_pool.proofs.pool.Pool.law_places_apart.Goals as goal

pub returns : goal.returns
returns g c =
    let p = c.self.inside in
    subst (λ pool. PlacesAreApart pool.slabs pool.size) c.self.view_is
    (places_apart g.A.Links.regions g.A.Links.word p.slabs.heap p.slabs.size p.slabs.places.items c.self.invariant.laid
    c.law_blocks_apart.ensures)
