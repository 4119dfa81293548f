use Rattle.address_space.specs.PageCopies.{ArePagesCopied}
use Rattle.address_space.proofs.copying.copy_pages.Given as goal

abbrev pub invariant-loop-step : goal.invariant-loop-step
invariant-loop-step l = ArePagesCopied l.fn.frames l.frames l.root l.from l.step l.to
