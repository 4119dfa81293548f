use Rattle.std.proofs.Common.{◌≡◌, ◌<◌, ◌-◌, ◌^◌}
use Rattle.heap_map.specs.Histogram.{most_from, most_of_all}
use Rattle.heap_map.proofs.histogram.most_of_all.Given as goal

abbrev pub invariant-loop-bar : goal.invariant-loop-bar
invariant-loop-bar l = record {
  rest : most_from (16 - l.bar) l.low l.most l.extents ≡ most_of_all l.extents;
  few : l.low < 2 ^ 21;
}
