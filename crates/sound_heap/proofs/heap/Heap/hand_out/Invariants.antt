use Rattle.sound_heap.proofs.heap.Heap.hand_out.Given as goal

abbrev pub ghosts-hand_out : goal.ghosts-hand_out
ghosts-hand_out g a = record { name = a.blank.name; parts = a.blank.parts }
