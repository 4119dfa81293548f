use Rattle.dlmalloc_rows.proofs.call_rows.the_top_grows_and_refusals_change_nothing.Given as goal

abbrev pub ghosts-begin_wide : goal.ghosts-begin_wide
ghosts-begin_wide g a = record { name = a.blank.name; parts = a.blank.parts }
