use Rattle.dlmalloc_rows.proofs.keeping.a_system_may_keep_segments.Given as goal

abbrev pub ghosts-serve_given : goal.ghosts-serve_given
ghosts-serve_given g a = record { name = a.blank.name; parts = a.blank.parts }
