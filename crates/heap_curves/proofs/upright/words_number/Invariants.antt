use Rattle.std.proofs.Common.{◌≡◌, ◌≤◌, ◌+◌, drop}
use Rattle.heap_curves.specs.Calls.{words_number}
use Rattle.heap_curves.proofs.upright.words_number.Given as goal

abbrev pub invariant-loop-letter : goal.invariant-loop-letter
invariant-loop-letter l = record {
  rest : l.number + words_number (drop l.letter-index l.line) ≡ words_number l.line;
  few : l.number ≤ l.letter-index;
}
