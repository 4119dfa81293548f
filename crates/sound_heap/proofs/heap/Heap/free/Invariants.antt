use Rattle.sound_heap.proofs.heap.Heap.free.Given as goal

abbrev pub ghosts-free : goal.ghosts-free
ghosts-free g a = record { name = a.blank.name; parts = a.blank.parts }
