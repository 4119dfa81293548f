use Rattle.std.proofs.Common.{◌≡◌, ◌++◌, string_bytes}
use Rattle.run_figures.specs.Text.{tree_texts}
use Rattle.run_figures.proofs.text.push_trees.Given as goal

abbrev pub invariant-loop-index : goal.invariant-loop-index
invariant-loop-index l = string_bytes l.out ≡ string_bytes l.fn.out ++ tree_texts l.before l.behind l.extents l.index
