use Rattle.std.proofs.Common.{◌*◌, ap, arith, refl, sym, subst, slice_index}
use Rattle.dlmalloc_chunks.specs.Request.{limit}
use Rattle.dlmalloc.specs.Blocks.{IsBlock}
use Rattle.dlmalloc.specs.Heap.{state_of}
use Rattle.dlmalloc.specs.Served.{IsMallocRefused}
use Rattle.object_pool.specs.Pool.{AreSlabsLaidOut}
use Rattle.object_pool.proofs.HeapBlocks.{handed_keeps, handed_fresh, handed_only, served_once, order_once, refused_keeps}
use Rattle.object_pool.proofs.SlabPlaces.{added_laid}
use Rattle.object_pool.proofs.slabs.Slabs.add.Goals as goal

pub unreachable-requires : goal.unreachable-requires
unreachable-requires g c =
    let small = c.law_slabs_small.ensures in
    let same = ap limit c.granularity.ensures in
    let large = (subst (λ error. IsMallocRefused g.A.Allocator.denies c.args.self.now.heap.system
    (state_of g.A.Links.word c.args.self.now.heap) (64 * c.args.self.now.size) error) c.in-Err-TooLarge.field-0-is
    (c.in-Err-TooLarge.ensures).err.refused) in
    omega (arith, small, large, same)

pub hand_out-requires : goal.hand_out-requires
hand_out-requires g c = record { align = (4, refl) }

pub returns-in-Ok-clause-laid : goal.returns-in-Ok-clause-laid
returns-in-Ok-clause-laid g c =
    let s = c.args.self.now in
    subst (AreSlabsLaidOut g.A.Links.regions g.A.Links.word c.hand_out.new.self s.size) (sym c.push_reserved.ensures.items)
    (added_laid g.A.Links.regions g.A.Links.word s.heap s.size s.places.items c.requires.laid g.A.Links.follows
    c.hand_out.new.self c.in-Ok.address c.law_blocks_placed.ensures c.in-Ok.ensures.ok.handed)

pub returns-in-Ok-clause-kept : goal.returns-in-Ok-clause-kept
returns-in-Ok-clause-kept g c =
    let s = c.args.self.now in
    handed_keeps g.A.Links.regions g.A.Links.word g.A.Links.follows s.heap c.hand_out.new.self (64 * s.size) 16
    c.in-Ok.address c.law_blocks_placed.ensures c.in-Ok.ensures.ok.handed

pub returns-in-Ok-clause-added : goal.returns-in-Ok-clause-added
returns-in-Ok-clause-added g c =
    let s = c.args.self.now in
    record {
      address = c.in-Ok.address;
      is = c.push_reserved.ensures.items;
      fresh = handed_fresh g.A.Links.regions g.A.Links.word g.A.Links.follows s.heap c.hand_out.new.self (64 * s.size) 16
          c.in-Ok.address c.law_blocks_placed.ensures c.in-Ok.ensures.ok.handed;
      only = handed_only g.A.Links.regions g.A.Links.word g.A.Links.follows s.heap c.hand_out.new.self (64 * s.size) 16
          c.in-Ok.address c.law_blocks_placed.ensures c.in-Ok.ensures.ok.handed;
      served = served_once g.A.Links.regions g.A.Links.word g.A.Links.follows s.heap c.hand_out.new.self g.A.Allocator.zeros
          s.size c.in-Ok.address (c.in-Ok.ensures.ok.served refl);
      member = c.in-Ok.ensures.ok.member;
      order = order_once g.A.Links.regions g.A.Links.word g.A.Links.follows s.heap c.hand_out.new.self g.A.Allocator.zeros
          (64 * s.size) c.in-Ok.address (c.in-Ok.ensures.ok.served refl);
    }

pub returns-in-Err-System-clause-kept : goal.returns-in-Err-System-clause-kept
returns-in-Err-System-clause-kept g c =
    let s = c.args.self.now in
    refused_keeps g.A.Links.regions g.A.Links.word g.A.Links.follows s.heap c.hand_out.new.self g.A.Allocator.refuses
    c.law_blocks_placed.ensures c.in-Err-System.ensures.err.same

pub returns-in-Err-System-clause-laid : goal.returns-in-Err-System-clause-laid
returns-in-Err-System-clause-laid g c =
    let s = c.args.self.now in
    let laid = c.requires.laid in
    let same = c.in-Err-System.ensures.err.same.state in
    record {
      some = laid.some;
      small = laid.small;
      blocks = λ i there. subst (λ heap. IsBlock heap (slice_index s.places.items i) (64 * s.size)) (sym same) (laid.blocks i there);
      distinct = laid.distinct;
    }
