use Rattle.std.proofs.Common.{◌≡◌, ◌<◌, ℕ, length, None}
use Rattle.kernel_heap.specs.Numbered.{live_at}
use Rattle.kernel_heap.proofs.numbered_blocks.end_from.Given as goal

abbrev pub invariant-loop-number : goal.invariant-loop-number
invariant-loop-number l = record {
  long : length l.blocks.items ≡ length l.fn.blocks.items;
  none : (k : ℕ) → k < l.number → live_at l.blocks.items k ≡ None;
}
