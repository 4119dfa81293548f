use Rattle.sound_heap.proofs.heap.Heap.extents.Given as goal

abbrev pub ghosts-extents : goal.ghosts-extents
ghosts-extents g a = record { name = a.blank.name; parts = a.blank.parts }
