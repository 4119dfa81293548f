use Rattle.std.proofs.Common.{◌≡◌, ◌∙◌, ℕ, ◌+◌, ◌-◌, ap, sym, arith}
use Rattle.dlmalloc_chunks.specs.Head.{size_of}
use Rattle.dlmalloc_chunks.specs.declared.extent.Kind.TheVariants.{Used}
use Rattle.dlmalloc.specs.Heap.{state_of}
use Rattle.dlmalloc.proofs.Extents.Lookup.{extent}
use Rattle.dlmalloc.proofs.Blocks.Chunks.{block_chunk, block_head}
use Rattle.dlmalloc.proofs.Resizing.InPlaceOrElsewhere.{size_at}
use Rattle.sound_heap.proofs.calls.usable_size.Goals as goal

pub size-requires : goal.size-requires
size-requires g c =
    let block = c.requires.block in
    rw c.allocator.ensures (block_head g.A.Links.regions g.A.Links.word c.args.heap.now c.requires.sound c.args.address block.0 block.1)

pub overflow_sub-result : goal.overflow_sub-result
overflow_sub-result g c =
    let block = c.requires.block in
    let heap = c.args.heap.now in
    let at = c.args.address - 16 in
    let value : c.size.result ≡ size_of (g.A.Links.word heap.system (at + 8)) = c.size.ensures.value
    ∙ ap (λ system. size_of (g.A.Links.word system (at + 8))) c.allocator.ensures in
    let told = block_chunk g.A.Links.regions g.A.Links.word heap c.requires.sound c.args.address block.0 block.1 c.size.result value in
    let sizes = size_at (state_of g.A.Links.word heap) at (extent at c.size.result Used) told in
    let least = size_at (state_of g.A.Links.word heap) at block.1.extent block.1.there in
    let holds = block.1.holds in
    omega arith

pub returns : goal.returns
returns g c =
    let block = c.requires.block in
    let heap = c.args.heap.now in
    let at = c.args.address - 16 in
    let value : c.size.result ≡ size_of (g.A.Links.word heap.system (at + 8)) = c.size.ensures.value
    ∙ ap (λ system. size_of (g.A.Links.word system (at + 8))) c.allocator.ensures in
    let told = block_chunk g.A.Links.regions g.A.Links.word heap c.requires.sound c.args.address block.0 block.1 c.size.result value in
    ap (λ (size : ℕ). size - 8) (sym (size_at (state_of g.A.Links.word heap) at (extent at c.size.result Used) told))
