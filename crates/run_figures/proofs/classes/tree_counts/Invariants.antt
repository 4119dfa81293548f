use Rattle.std.proofs.Common.{◌≡◌, ◌<◌, ℕ, length, take, get_or}
use Rattle.run_figures.specs.Classes.{tree_count}
use Rattle.run_figures.proofs.classes.tree_counts.Given as goal

abbrev pub invariant-loop-extent : goal.invariant-loop-extent
invariant-loop-extent l = record {
  size : length l.counts ≡ 32;
  counts : (index : ℕ) → index < 32 → get_or l.counts index 0 ≡ tree_count index (take l.extent-index l.extents);
}
