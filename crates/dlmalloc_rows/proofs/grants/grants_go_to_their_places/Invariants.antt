use Rattle.dlmalloc_rows.proofs.grants.grants_go_to_their_places.Given as goal

abbrev pub ghosts-serve_given : goal.ghosts-serve_given
ghosts-serve_given g a = record { name = a.blank.name; parts = a.blank.parts }
