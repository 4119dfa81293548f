use Rattle.dlmalloc_rows.proofs.flags.extern_segments_stay_apart.Given as goal

abbrev pub ghosts-serve_given : goal.ghosts-serve_given
ghosts-serve_given g a = record { name = a.blank.name; parts = a.blank.parts }
