use Rattle.dlmalloc_rows.proofs.system.words_and_bytes_are_kept.Given as goal

abbrev pub ghosts-counted : goal.ghosts-counted
ghosts-counted g a = record { name = a.blank.name; parts = a.blank.parts }
