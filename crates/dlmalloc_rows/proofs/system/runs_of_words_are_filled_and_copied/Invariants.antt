use Rattle.dlmalloc_rows.proofs.system.runs_of_words_are_filled_and_copied.Given as goal

abbrev pub ghosts-fill : goal.ghosts-fill
ghosts-fill g a = record { name = a.blank.name; parts = a.blank.parts }

abbrev pub ghosts-copy : goal.ghosts-copy
ghosts-copy g a = record { name = a.blank.name; parts = a.blank.parts }
