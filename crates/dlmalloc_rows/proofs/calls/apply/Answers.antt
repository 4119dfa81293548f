use Rattle.std.proofs.Common.{◌≡◌, ℕ, ◌-◌, ◌≤◌, Some, refl, arith}
use Rattle.heap_memory.specs.FlatSystem.{word_of}
use Rattle.dlmalloc_chunks.specs.declared.extent.Kind.TheVariants.{Used}
use Rattle.dlmalloc.specs.Extents.{extent_at}
use Rattle.dlmalloc.specs.State.{HeapState, extents_in}
use Rattle.dlmalloc.specs.Blocks.{IsBlock}
use Rattle.dlmalloc.specs.Heap.{state_of}
use Rattle.dlmalloc.proofs.Extents.Lookup.{extent}
use Rattle.dlmalloc_rows.proofs.calls.apply.Goals as goal

-- a chunk in use is one of a block
block_of : (heap : HeapState) (address size : ℕ) → (16 ≤ address) × (32 ≤ size)
    × (extent_at (address - 16) (extents_in heap) ≡ Some (extent (address - 16) size Used)) → (n : ℕ) × IsBlock heap address n
block_of heap address size told =
    let long = told.1 in (
      size - 8,
      record { extent = extent (address - 16) size Used; there = told.2; low = told.0; used = refl; holds = omega arith; little = omega arith },
    )

pub malloc-requires-clause-align : goal.malloc-requires-clause-align
malloc-requires-clause-align g c = (4, refl)

pub c_realloc-requires-clause-block : goal.c_realloc-requires-clause-block
c_realloc-requires-clause-block g c = block_of (state_of word_of c.args.heap.now) c.in-CRealloc.address
    c.in_ok-chunk_of-in-CRealloc.field-0 c.in_ok-chunk_of-in-CRealloc.ensures

pub c_free-requires-clause-block : goal.c_free-requires-clause-block
c_free-requires-clause-block g c = block_of (state_of word_of c.args.heap.now) c.in-Free.address
    c.in_ok-chunk_of-in-Free.field-0 c.in_ok-chunk_of-in-Free.ensures
