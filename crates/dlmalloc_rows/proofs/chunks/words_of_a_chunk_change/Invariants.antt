use Rattle.dlmalloc_rows.proofs.chunks.words_of_a_chunk_change.Given as goal

abbrev pub ghosts-use_a_chunk : goal.ghosts-use_a_chunk
ghosts-use_a_chunk g a = record { name = a.blank.name; parts = a.blank.parts }

abbrev pub ghosts-free_a_chunk : goal.ghosts-free_a_chunk
ghosts-free_a_chunk g a = record { name = a.blank.name; parts = a.blank.parts }
