use Rattle.heap_memory.specs.FlatSystem.{regions_of, word_of}
use Rattle.dlmalloc.specs.Binned.{IsBinned}
use Rattle.dlmalloc.specs.Heap.{IsSound}
use Rattle.dlmalloc_rows.proofs.call_rows.serve_wide.Given as goal

abbrev pub invariant-loop-fault : goal.invariant-loop-fault
invariant-loop-fault g l = IsSound regions_of word_of l.heap × IsBinned regions_of word_of l.heap
