use Rattle.std.proofs.Common.{◌≡◌, ◌≤◌, ◌++◌, drop, length}
use Rattle.heap_recorder.specs.Regions.{gone_after}
use Rattle.heap_recorder.proofs.regions.push_gone.Given as goal

abbrev pub invariant-loop-held : goal.invariant-loop-held
invariant-loop-held l = record {
  rest : l.gone.items ++ gone_after l.call (drop l.held-index l.now) (drop l.place l.list) ≡ l.fn.gone.items ++ gone_after l.call l.now l.list;
  within : l.place ≤ length l.list;
}
