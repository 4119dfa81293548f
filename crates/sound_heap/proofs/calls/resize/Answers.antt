use Rattle.sound_heap.proofs.calls.resize.Goals as goal

pub returns-clause-ok : goal.returns-clause-ok
returns-clause-ok g c = c.c_realloc-answer.ensures.reallocated

pub returns-clause-err : goal.returns-clause-err
returns-clause-err g c = c.c_realloc-answer.ensures.refused
