use Rattle.heap_memory.specs.FlatSystem.{regions_of, word_of}
use Rattle.dlmalloc.specs.Binned.{IsBinned}
use Rattle.dlmalloc.specs.Heap.{IsSound}
use Rattle.dlmalloc_rows.proofs.denials.grow_denied.Given as goal

abbrev pub invariant-loop-i : goal.invariant-loop-i
invariant-loop-i g l = IsSound regions_of word_of l.heap × IsBinned regions_of word_of l.heap
