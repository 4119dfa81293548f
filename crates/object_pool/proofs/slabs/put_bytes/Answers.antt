use Rattle.std.proofs.Common.{[], length, ◌∙◌, ap, sym, subst, arith}
use Rattle.dlmalloc.specs.Heap.{state_of}
use Rattle.object_pool.specs.Bytes.{IsWritten}
use Rattle.sound_heap.specs.Heap.{AreInBlock, StaysInState}
use Rattle.object_pool.proofs.HeapBlocks.{written_rests, written_index}
use Rattle.object_pool.proofs.slabs.put_bytes.Goals as goal

pub write_bytes-requires : goal.write_bytes-requires
write_bytes-requires g c =
    let inside = subst (λ heap. AreInBlock (state_of g.A.Links.word heap) c.args.address (length c.args.bytes.now)) (sym c.heap.view_is) c.requires.inside in
    rw c.allocator_mut.ensures.value
    (λ k from to. (c.law_blocks_placed.ensures inside.block inside.size inside.is).granted k
    (omega (arith, from, inside.low)) (omega (arith, to, inside.within)))

pub invariant_of-heap : goal.invariant_of-heap
invariant_of-heap g c =
    let heap = c.heap.inside.heap in
    let inside = subst (λ heap. AreInBlock (state_of g.A.Links.word heap) c.args.address (length c.args.bytes.now)) (sym c.heap.view_is) c.requires.inside in
    let value = c.allocator_mut.ensures.value in
    let same = c.write_bytes.ensures.regions_same ∙ ap g.A.Links.regions value in
    let written = subst (λ system. IsWritten (g.A.Links.regions system) (g.A.Links.word system) c.args.address
    c.args.bytes.now (length c.args.bytes.now) (g.A.Links.word c.write_bytes.new.memory)) value
    c.write_bytes.ensures.written in
    let rest = written_rests g.A.Links.regions g.A.Links.word heap c.write_bytes.new.memory inside.block inside.size
    inside.is c.law_blocks_placed.ensures c.args.address c.args.bytes.now (length c.args.bytes.now) inside.low
    inside.within written c.law_rests_outside.ensures c.heap.invariant.sound same in
    record { sound = rest.0; linked = rest.2 c.heap.invariant.linked }

pub returns-clause-written : goal.returns-clause-written
returns-clause-written g c =
    subst (λ heap. IsWritten (g.A.Links.regions heap.system) (g.A.Links.word heap.system) c.args.address c.args.bytes.now
    (length c.args.bytes.now) (g.A.Links.word c.write_bytes.new.memory)) c.heap.view_is
    (subst (λ system. IsWritten (g.A.Links.regions system) (g.A.Links.word system) c.args.address c.args.bytes.now
    (length c.args.bytes.now) (g.A.Links.word c.write_bytes.new.memory)) c.allocator_mut.ensures.value
    c.write_bytes.ensures.written)

pub returns-clause-stays : goal.returns-clause-stays
returns-clause-stays g c =
    let heap = c.heap.inside.heap in
    let inside = subst (λ heap. AreInBlock (state_of g.A.Links.word heap) c.args.address (length c.args.bytes.now)) (sym c.heap.view_is) c.requires.inside in
    let value = c.allocator_mut.ensures.value in
    let same = c.write_bytes.ensures.regions_same ∙ ap g.A.Links.regions value in
    let written = subst (λ system. IsWritten (g.A.Links.regions system) (g.A.Links.word system) c.args.address
    c.args.bytes.now (length c.args.bytes.now) (g.A.Links.word c.write_bytes.new.memory)) value
    c.write_bytes.ensures.written in
    let rest = written_rests g.A.Links.regions g.A.Links.word heap c.write_bytes.new.memory inside.block inside.size
    inside.is c.law_blocks_placed.ensures c.args.address c.args.bytes.now (length c.args.bytes.now) inside.low
    inside.within written c.law_rests_outside.ensures c.heap.invariant.sound same in
    subst (λ heap. StaysInState g.A.Links.regions g.A.Links.word g.A.Links.follows heap
    (record c.heap.inside.heap { system = c.write_bytes.new.memory })) c.heap.view_is (record {
      state = rest.1;
      regions_same = same;
      followed = subst (λ system. g.A.Links.follows system [] c.write_bytes.new.memory) value c.write_bytes.ensures.followed;
      index = written_index g.A.Links.regions g.A.Links.word heap c.write_bytes.new.memory inside.block inside.size
          inside.is c.law_blocks_placed.ensures c.args.address c.args.bytes.now (length c.args.bytes.now) inside.low
          inside.within written c.law_order_rests_outside.ensures c.heap.invariant.sound same;
    })
