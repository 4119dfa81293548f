use Rattle.std.proofs.Common.{◌≡◌, ◌≤◌, max, drop}
use Rattle.heap_curves.specs.Calls.{most_letters}
use Rattle.heap_curves.proofs.calls.most_letters.Given as goal

abbrev pub invariant-loop-line : goal.invariant-loop-line
invariant-loop-line l = record {
  most : max l.most (most_letters (drop l.line-index l.lines)) ≡ most_letters l.lines;
  few : l.most ≤ 28;
}
