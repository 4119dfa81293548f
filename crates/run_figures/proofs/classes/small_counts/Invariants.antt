use Rattle.std.proofs.Common.{◌≡◌, ◌<◌, ℕ, length, take, get_or}
use Rattle.run_figures.specs.Classes.{small_count}
use Rattle.run_figures.proofs.classes.small_counts.Given as goal

abbrev pub invariant-loop-extent : goal.invariant-loop-extent
invariant-loop-extent l = record {
  size : length l.counts ≡ 256;
  counts : (size : ℕ) → size < 256 → get_or l.counts size 0 ≡ small_count size (take l.extent-index l.extents);
}
