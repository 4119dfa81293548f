use Rattle.std.proofs.Common.{◌-◌, ◌≤◌, arith}
use Rattle.dlmalloc.specs.Blocks.{usable}
use Rattle.dlmalloc.specs.Heap.{state_of}
use Rattle.sound_heap.proofs.BlockWords.{enough}
use Rattle.paged_systems_rows.proofs.TwinHeaps.{word, block_of, has_block}
use Rattle.paged_systems_rows.proofs.twin_rows.apply.Goals as goal

pub realloc-requires : goal.realloc-requires
realloc-requires g c = record {
  block = has_block (state_of word c.args.heap.now) c.in-CRealloc.address
      c.in_ok-chunk_of-in-CRealloc.field-0 c.in_ok-chunk_of-in-CRealloc.ensures;
}

pub free-requires : goal.free-requires
free-requires g c = record {
  block = has_block (state_of word c.args.heap.now) c.in-Free.address
      c.in_ok-chunk_of-in-Free.field-0 c.in_ok-chunk_of-in-Free.ensures;
}

pub store-requires-clause-block : goal.store-requires-clause-block
store-requires-clause-block g c = has_block (state_of word c.args.heap.now) c.in-Store.address
    c.in_ok-chunk_of-in-Store.field-0 c.in_ok-chunk_of-in-Store.ensures

pub store-requires-clause-within : goal.store-requires-clause-within
store-requires-clause-within g c =
    let told = c.in_ok-chunk_of-in-Store in let heap = state_of word c.args.heap.now in let address = c.in-Store.address in
    let long : 32 ≤ told.field-0 = told.ensures.1 in
    let least : told.field-0 - 8 ≤ usable heap address = enough heap address (told.field-0 - 8) (block_of heap address told.field-0 told.ensures) in
    omega (arith, long, least)

pub load-requires-clause-block : goal.load-requires-clause-block
load-requires-clause-block g c = has_block (state_of word c.args.heap.now) c.in-Load.address c.in_ok-chunk_of-in-Load.field-0 c.in_ok-chunk_of-in-Load.ensures

pub load-requires-clause-within : goal.load-requires-clause-within
load-requires-clause-within g c =
    let told = c.in_ok-chunk_of-in-Load in let heap = state_of word c.args.heap.now in let address = c.in-Load.address in
    let long : 32 ≤ told.field-0 = told.ensures.1 in
    let least : told.field-0 - 8 ≤ usable heap address = enough heap address (told.field-0 - 8) (block_of heap address told.field-0 told.ensures) in
    omega (arith, long, least)
