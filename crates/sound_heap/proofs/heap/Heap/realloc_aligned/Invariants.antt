use Rattle.sound_heap.proofs.heap.Heap.realloc_aligned.Given as goal

abbrev pub ghosts-resize_aligned : goal.ghosts-resize_aligned
ghosts-resize_aligned g a = record { name = a.blank.name; parts = a.blank.parts }
