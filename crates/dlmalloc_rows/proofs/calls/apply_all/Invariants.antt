use Rattle.heap_memory.specs.FlatSystem.{regions_of, word_of}
use Rattle.dlmalloc.specs.Binned.{IsBinned}
use Rattle.dlmalloc.specs.Heap.{IsSound}
use Rattle.dlmalloc_rows.proofs.calls.apply_all.Given as goal

abbrev pub invariant-loop-call : goal.invariant-loop-call
invariant-loop-call g l = IsSound regions_of word_of l.heap × IsBinned regions_of word_of l.heap
