use Rattle.std.proofs.Common.{◌≡◌, max, drop}
use Rattle.heap_curves.specs.Calls.{most_words}
use Rattle.heap_curves.proofs.upright.most_words.Given as goal

abbrev pub invariant-loop-line : goal.invariant-loop-line
invariant-loop-line l = max l.most (most_words (drop l.line-index l.lines)) ≡ most_words l.lines
