use Rattle.dlmalloc_rows.proofs.call_rows.calls_leave_these_extents.Given as goal

abbrev pub ghosts-serve : goal.ghosts-serve
ghosts-serve g a = record { name = a.blank.name; parts = a.blank.parts }
