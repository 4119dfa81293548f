use Rattle.heap_memory.specs.FlatSystem.{regions_of, word_of}
use Rattle.dlmalloc_rows.proofs.Beside.{beside_none}
use Rattle.dlmalloc_rows.proofs.plain_list.run.Goals as goal

pub worked_answers-requires : goal.worked_answers-requires
worked_answers-requires g c = beside_none _ _ _ _ c.requires.granted (c.new-bins.ensures (regions_of c.args.memory.now)
    (word_of c.args.memory.now)) c.new-list.ensures.items
