use Rattle.paging_core.specs.Large.{AreFramesCleared}
use Rattle.paging_core.proofs.large.clear_frames.Given as goal

abbrev pub invariant-loop-step : goal.invariant-loop-step
invariant-loop-step l = AreFramesCleared l.fn.frames l.frames l.first l.step
