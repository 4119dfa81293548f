use Rattle.std.proofs.Common.{◌-◌, ◌≤◌, length, take}
use Rattle.heap_program.specs.Advanced.{Advanced}
use Rattle.heap_program.proofs.session.Session.feed.Given as goal

abbrev pub invariant-loop-done : goal.invariant-loop-done
invariant-loop-done g l = Advanced g.R.Respond.responds l.fn.self l.self (take l.done l.piece) × (l.done ≤ length l.piece)

abbrev pub decreases-loop-done : goal.decreases-loop-done
decreases-loop-done g l = length l.piece - l.done
