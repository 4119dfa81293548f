use Rattle.std.proofs.Common.{◌≡◌, ◌≤◌, max, drop}
use Rattle.heap_curves.specs.Calls.{longest_from}
use Rattle.heap_curves.proofs.upright.longest_in.Given as goal

abbrev pub invariant-loop-letter : goal.invariant-loop-letter
invariant-loop-letter l = record {
  rest : max l.most (longest_from l.letters (drop l.letter-index l.line)) ≡ longest_from 0 l.line;
  few : l.letters ≤ l.letter-index;
}
