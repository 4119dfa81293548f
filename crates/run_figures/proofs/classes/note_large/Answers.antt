use Rattle.std.proofs.Common.{sym, ◌∙◌}
use Rattle.run_figures.proofs.Counts.{counted_none, counted_one}
use Rattle.run_figures.proofs.classes.note_large.Goals as goal

pub returns-then-is_in_tree-clause-counted : goal.returns-then-is_in_tree-clause-counted
returns-then-is_in_tree-clause-counted c index few =
    counted_one c.args.counts.now c.args.extent c.compute_tree_index.result index c.told-counts
    (sym c.is_in_tree.ensures ∙ c.if-is_in_tree.true) c.compute_tree_index.ensures few

pub returns-else-is_in_tree-clause-counted : goal.returns-else-is_in_tree-clause-counted
returns-else-is_in_tree-clause-counted c index few =
    counted_none c.args.counts.now c.args.extent index (sym c.is_in_tree.ensures ∙ c.if-is_in_tree.false)
