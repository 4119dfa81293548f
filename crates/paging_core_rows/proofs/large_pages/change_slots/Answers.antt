use Rattle.std.proofs.Common.{rules, refl, ◌∙◌}
use Rattle.std.specs.Prelude.{IsTrue}
use Rattle.paging_core_rows.proofs.large_pages.change_slots.Goals as goal

pub cut_large-requires-clause-standing : goal.cut_large-requires-clause-standing
cut_large-requires-clause-standing g c = record {
  tree = c.store_word.ensures.kept.tree c.map_slot.new.pool c.map_slot.ensures.standing.tree;
  flags = search rules;
}

pub cut_large-requires-clause-page : goal.cut_large-requires-clause-page
cut_large-requires-clause-page g c = record {
  rooted = search rules;
  large = let mapped : IsTrue c.map_slot.result = search rules in
      let is = c.store_word.ensures.kept.larges c.map_slot.new.pool c.map_slot.ensures.standing.tree _ ∙ ((c.map_slot.ensures.mapped mapped).added).added.large in
      rw is refl;
}
