use Rattle.std.proofs.Common.{◌+◌, ◌-◌}
use Rattle.paged_systems.specs.FlatWindow.{flat_word, ArePutAt}
use Rattle.paged_systems.proofs.flat_window.FlatWindow.copy.Given as goal

abbrev pub invariant-loop-i : goal.invariant-loop-i
invariant-loop-i l = ArePutAt l.fn.self l.self l.to l.i (λ k. flat_word l.fn.self (l.from + (k - l.to)))
