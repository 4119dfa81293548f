use Rattle.std.proofs.Common.{◌-◌}
use Rattle.page_ranges.proofs.GapLoop.{AreGapsFilled}
use Rattle.page_ranges.proofs.mapping.map_pages.Given as goal

abbrev pub invariant-loop-done : goal.invariant-loop-done
invariant-loop-done l = AreGapsFilled l.initial.frames l.frames l.initial.pool l.pool l.root l.first l.pages l.done l.rights

abbrev pub decreases-loop-done : goal.decreases-loop-done
decreases-loop-done l = l.pages - l.done
