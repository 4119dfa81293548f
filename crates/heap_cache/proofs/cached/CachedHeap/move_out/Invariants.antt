use Rattle.heap_cache.proofs.cached.CachedHeap.move_out.Given as goal

abbrev pub ghosts-copy : goal.ghosts-copy
ghosts-copy g a = record { name = a.blank.name; parts = a.blank.parts }
