use Rattle.heap_memory.specs.FlatSystem.{regions_of, word_of}
use Rattle.dlmalloc_rows.specs.Plain.{AreBeside}
use Rattle.dlmalloc_rows.proofs.plain_list.run.Given as goal

abbrev pub invariant-turns : goal.invariant-turns
invariant-turns g l = AreBeside (regions_of l.memory) (word_of l.memory) l.bins l.list.items

abbrev pub invariant-leaving : goal.invariant-leaving
invariant-leaving g l = AreBeside (regions_of l.memory) (word_of l.memory) l.bins l.list.items
