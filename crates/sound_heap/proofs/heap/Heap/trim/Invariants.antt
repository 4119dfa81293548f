use Rattle.sound_heap.proofs.heap.Heap.trim.Given as goal

abbrev pub ghosts-trim : goal.ghosts-trim
ghosts-trim g a = record { name = a.blank.name; parts = a.blank.parts }
