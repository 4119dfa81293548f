use Rattle.dlmalloc_rows.proofs.order.equal_sizes_are_taken_in_order.Given as goal

abbrev pub ghosts-serve_order : goal.ghosts-serve_order
ghosts-serve_order g a = record { name = a.blank.name; parts = a.blank.parts }
