use Rattle.std.proofs.Common.{◌≡◌, take}
use Rattle.run_figures.specs.Figures.{greatest_of}
use Rattle.run_figures.proofs.counting.greatest_free.Given as goal

abbrev pub invariant-loop-extent : goal.invariant-loop-extent
invariant-loop-extent l = l.greatest ≡ greatest_of (take l.extent-index l.extents)
