use Rattle.std.proofs.Common.{arith, ◌+◌, ◌≤◌, sym, subst}
use Rattle.dlmalloc.specs.Heap.{state_of}
use Rattle.sound_heap.specs.Heap.{HasBlock, usable}
use Rattle.sound_heap.proofs.BlockWords.{word_inside}
use Rattle.sound_heap.proofs.heap.Heap.load.Goals as goal

pub overflow_add-address : goal.overflow_add-address
overflow_add-address g c =
    let block = subst (λ heap. HasBlock (state_of g.A.Links.word heap) c.args.address) (sym c.self.view_is) c.requires.block in
    let within = subst (λ heap. c.args.offset + 8 ≤ usable (state_of g.A.Links.word heap) c.args.address) (sym c.self.view_is) c.requires.within in
    let small = (word_inside g.A.Links.regions g.A.Links.word c.self.inside.heap c.self.invariant.sound c.args.address block
    c.args.offset within c.requires.aligned).1 in
    omega (arith, small)

pub load-requires : goal.load-requires
load-requires g c =
    let block = subst (λ heap. HasBlock (state_of g.A.Links.word heap) c.args.address) (sym c.self.view_is) c.requires.block in
    let within = subst (λ heap. c.args.offset + 8 ≤ usable (state_of g.A.Links.word heap) c.args.address) (sym c.self.view_is) c.requires.within in
    rw c.allocator.ensures (word_inside g.A.Links.regions g.A.Links.word c.self.inside.heap c.self.invariant.sound
    c.args.address block c.args.offset within c.requires.aligned).0
