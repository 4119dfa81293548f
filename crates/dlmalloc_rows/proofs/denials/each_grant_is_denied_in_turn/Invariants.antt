use Rattle.dlmalloc_rows.proofs.denials.each_grant_is_denied_in_turn.Given as goal

abbrev pub ghosts-serve_denied : goal.ghosts-serve_denied
ghosts-serve_denied g a = record { name = a.blank.name; parts = a.blank.parts }
