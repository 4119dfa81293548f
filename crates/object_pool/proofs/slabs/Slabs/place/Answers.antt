use Rattle.std.proofs.Common.{◌+◌, ◌*◌, ◌/◌, ◌%◌, sym, subst, arith}
use Rattle.std.proofs.lemmas.List.{get_or_read}
use Rattle.object_pool.specs.Bytes.{AreGranted}
use Rattle.object_pool.proofs.SlabPlaces.{place_granted}
use Rattle.object_pool.proofs.slabs.Slabs.place.Goals as goal

pub returns-clause-granted : goal.returns-clause-granted
returns-clause-granted g c =
    let s = c.args.self.now in
    subst (λ at. AreGranted (g.A.Links.regions s.heap.system) (at + s.size * (c.args.index % 64)) s.size)
    (sym (get_or_read s.places.items (c.args.index / 64) c.index.result.now (omega (arith, c.requires.there)) c.index.ensures 0))
    (place_granted g.A.Links.regions g.A.Links.word s.heap s.size s.places.items c.requires.laid c.law_blocks_placed.ensures c.args.index c.requires.there)
