use Rattle.heap_memory.specs.FlatSystem.{regions_of, word_of}
use Rattle.dlmalloc.specs.Binned.{IsBinned}
use Rattle.dlmalloc.specs.Heap.{IsSound}
use Rattle.dlmalloc_rows.proofs.order.take_places.Given as goal

abbrev pub invariant-loop-place : goal.invariant-loop-place
invariant-loop-place g l = IsSound regions_of word_of l.heap × IsBinned regions_of word_of l.heap
