use Rattle.dlmalloc_rows.proofs.flags.flags_are_compared_whole.Given as goal

abbrev pub ghosts-serve_given : goal.ghosts-serve_given
ghosts-serve_given g a = record { name = a.blank.name; parts = a.blank.parts }
