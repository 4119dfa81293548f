use Rattle.sound_heap.proofs.heap.Heap.realloc.Given as goal

abbrev pub ghosts-resize : goal.ghosts-resize
ghosts-resize g a = record { name = a.blank.name; parts = a.blank.parts }
