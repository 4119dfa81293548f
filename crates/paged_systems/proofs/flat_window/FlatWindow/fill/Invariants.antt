use Rattle.paged_systems.specs.FlatWindow.{ArePutAt}
use Rattle.paged_systems.proofs.flat_window.FlatWindow.fill.Given as goal

abbrev pub invariant-loop-i : goal.invariant-loop-i
invariant-loop-i l = ArePutAt l.fn.self l.self l.at l.i (λ k. l.value)
