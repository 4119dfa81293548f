use Rattle.sound_heap.proofs.heap.Heap.usable_size.Given as goal

abbrev pub ghosts-usable_size : goal.ghosts-usable_size
ghosts-usable_size g a = record { name = a.blank.name; parts = a.blank.parts }
