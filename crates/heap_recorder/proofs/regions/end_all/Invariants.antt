use Rattle.std.proofs.Common.{◌≡◌, ◌++◌, drop, map}
use Rattle.heap_recorder.specs.Regions.{ended}
use Rattle.heap_recorder.proofs.regions.end_all.Given as goal

abbrev pub invariant-loop-held : goal.invariant-loop-held
invariant-loop-held l = l.gone.items ++ map (ended l.calls) (drop l.held-index l.now) ≡ l.fn.gone.items ++ map (ended l.calls) l.now
