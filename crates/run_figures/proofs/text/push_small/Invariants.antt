use Rattle.std.proofs.Common.{◌≡◌, ◌++◌, string_bytes}
use Rattle.run_figures.specs.Text.{small_texts}
use Rattle.run_figures.proofs.text.push_small.Given as goal

abbrev pub invariant-loop-size : goal.invariant-loop-size
invariant-loop-size l = string_bytes l.out ≡ string_bytes l.fn.out ++ small_texts l.before l.behind l.extents l.size
