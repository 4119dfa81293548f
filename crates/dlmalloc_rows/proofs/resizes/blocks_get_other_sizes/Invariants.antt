use Rattle.dlmalloc_rows.proofs.resizes.blocks_get_other_sizes.Given as goal

abbrev pub ghosts-serve : goal.ghosts-serve
ghosts-serve g a = record { name = a.blank.name; parts = a.blank.parts }
