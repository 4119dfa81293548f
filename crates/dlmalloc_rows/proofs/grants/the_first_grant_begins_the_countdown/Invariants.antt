use Rattle.dlmalloc_rows.proofs.grants.the_first_grant_begins_the_countdown.Given as goal

abbrev pub ghosts-serve_given : goal.ghosts-serve_given
ghosts-serve_given g a = record { name = a.blank.name; parts = a.blank.parts }
