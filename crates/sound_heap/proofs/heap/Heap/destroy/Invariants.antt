use Rattle.sound_heap.proofs.heap.Heap.destroy.Given as goal

abbrev pub ghosts-destroy : goal.ghosts-destroy
ghosts-destroy g a = record { name = a.blank.name; parts = a.blank.parts }
