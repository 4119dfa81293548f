use Rattle.std.proofs.Common.{rules, refl, arith, ◌∙◌}
use Rattle.paging_core_rows.proofs.pages.change_three.Goals as goal

pub protect_range-requires-clause-pages : goal.protect_range-requires-clause-pages
protect_range-requires-clause-pages g c = record {
  rooted = search rules;
  range = search rules;
  mapped = λ k lt. let m = c.map_range.ensures.added.mapped k lt in rw m.found refl;
  small = λ k lt. let t = c.map_range.ensures.added.tables 3 k (omega arith) lt in rw t.1 refl;
}

pub unmap_range-requires-clause-standing : goal.unmap_range-requires-clause-standing
unmap_range-requires-clause-standing g c = record {
  tree = c.protect_range.ensures.tree c.map_range.new.pool c.map_range.ensures.added.tree;
  flags = search rules;
}

pub unmap_range-requires-clause-pages : goal.unmap_range-requires-clause-pages
unmap_range-requires-clause-pages g c = record {
  rooted = search rules;
  range = search rules;
  mapped = λ k lt.
      let m = c.map_range.ensures.added.mapped k lt in
      let g = rw m.found at (c.protect_range.ensures.granted.granted k lt) in
      rw g refl;
  small = λ k lt.
      let t = c.map_range.ensures.added.tables 3 k (omega arith) lt in
      let s = c.protect_range.ensures.changed.stayed 3 _ (omega arith) (λ e. absurd (omega arith)) ∙ t.1 in
      rw s refl;
}

pub protect_range-requires-clause-tree : goal.protect_range-requires-clause-tree
protect_range-requires-clause-tree g c = (c.map_range.new.pool, c.map_range.ensures.added.tree)
