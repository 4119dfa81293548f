use Rattle.std.proofs.Common.{◌≡◌, ◌<◌, ℕ, length, get_or}
use Rattle.run_figures.proofs.sizes.end_from.Given as goal

abbrev pub invariant-loop-number : goal.invariant-loop-number
invariant-loop-number l = record {
  long : length l.sizes.items ≡ length l.fn.sizes.items;
  zero : (k : ℕ) → k < l.number → get_or l.sizes.items k 0 ≡ 0;
}
