use Rattle.std.proofs.Common.{◌-◌}
use Rattle.page_ranges.proofs.UnmapSteps.{IsUnmappedSoFar}
use Rattle.page_ranges.proofs.unmapping.unmap_pages.Given as goal

abbrev pub invariant-loop-done : goal.invariant-loop-done
invariant-loop-done l = IsUnmappedSoFar l.fn.frames l.frames l.fn.pool l.pool l.root l.first l.pages l.done

abbrev pub decreases-loop-done : goal.decreases-loop-done
decreases-loop-done l = l.pages - l.done
