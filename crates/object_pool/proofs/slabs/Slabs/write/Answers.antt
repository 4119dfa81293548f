use Rattle.std.proofs.Common.{length, subst}
use Rattle.object_pool.specs.Bytes.{IsWritten}
use Rattle.object_pool.proofs.SlabPlaces.{object_inside, written_laid, written_here, written_others, written_kept}
use Rattle.object_pool.proofs.slabs.Slabs.write.Goals as goal

pub put_bytes-requires : goal.put_bytes-requires
put_bytes-requires g c =
    let s = c.args.self.now in
    record {
      inside = object_inside g.A.Links.regions g.A.Links.word s.heap s.size s.places.items c.requires.slot.laid
          c.args.index c.requires.slot.there (length c.args.bytes.now) c.place-place.result c.requires.many
          c.place-place.ensures.place;
    }

pub returns-clause-laid : goal.returns-clause-laid
returns-clause-laid g c =
    let s = c.args.self.now in
    written_laid g.A.Links.regions g.A.Links.word s.heap s.size s.places.items c.requires.slot.laid c.law_blocks_placed.ensures
    c.law_blocks_apart.ensures g.A.Links.follows c.args.index c.requires.slot.there c.put_bytes.new.heap
    c.put_bytes.ensures.stays c.args.bytes.now c.requires.many
    (subst (λ at. IsWritten (g.A.Links.regions s.heap.system) (g.A.Links.word s.heap.system) at c.args.bytes.now
    (length c.args.bytes.now) (g.A.Links.word c.put_bytes.new.heap.system)) c.place-place.ensures.place
    c.put_bytes.ensures.written)

pub returns-clause-put : goal.returns-clause-put
returns-clause-put g c =
    let s = c.args.self.now in
    let written = subst (λ at. IsWritten (g.A.Links.regions s.heap.system) (g.A.Links.word s.heap.system) at c.args.bytes.now
    (length c.args.bytes.now) (g.A.Links.word c.put_bytes.new.heap.system)) c.place-place.ensures.place
    c.put_bytes.ensures.written in
    record {
      stays = c.put_bytes.ensures.stays;
      here = written_here g.A.Links.regions g.A.Links.word s.heap s.size s.places.items c.requires.slot.laid c.law_blocks_placed.ensures
          c.law_blocks_apart.ensures g.A.Links.follows c.args.index c.requires.slot.there c.put_bytes.new.heap
          c.put_bytes.ensures.stays c.args.bytes.now c.requires.many written;
      others = written_others g.A.Links.regions g.A.Links.word s.heap s.size s.places.items c.requires.slot.laid c.law_blocks_placed.ensures
          c.law_blocks_apart.ensures g.A.Links.follows c.args.index c.requires.slot.there c.put_bytes.new.heap
          c.put_bytes.ensures.stays c.args.bytes.now c.requires.many written;
      kept = written_kept g.A.Links.regions g.A.Links.word s.heap s.size s.places.items c.requires.slot.laid c.law_blocks_placed.ensures
          c.law_blocks_apart.ensures g.A.Links.follows c.args.index c.requires.slot.there c.put_bytes.new.heap
          c.put_bytes.ensures.stays c.args.bytes.now c.requires.many written;
    }
