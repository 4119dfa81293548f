use Rattle.dlmalloc_rows.proofs.plain_list.answers_as_a_plain_list_does.Given as goal

abbrev pub ghosts-run : goal.ghosts-run
ghosts-run g a = record { name = a.blank.name; parts = a.blank.parts }
