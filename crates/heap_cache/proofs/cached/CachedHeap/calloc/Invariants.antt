use Rattle.heap_cache.proofs.cached.CachedHeap.calloc.Given as goal

abbrev pub ghosts-clear : goal.ghosts-clear
ghosts-clear g a = record { name = a.blank.name; parts = a.blank.parts }
