use Rattle.std.proofs.Common.{◌≡◌, max, drop}
use Rattle.heap_curves.specs.Calls.{longest_word}
use Rattle.heap_curves.proofs.upright.longest_word.Given as goal

abbrev pub invariant-loop-line : goal.invariant-loop-line
invariant-loop-line l = max l.most (longest_word (drop l.line-index l.lines)) ≡ longest_word l.lines
