use Rattle.std.proofs.Common.{◌≡◌, ◌<◌, ◌+◌, ◌-◌, ◌*◌, ◌^◌, ◌++◌, string_bytes}
use Rattle.heap_map.specs.Histogram.{size_bars_from, bars_text}
use Rattle.heap_map.proofs.histogram.push_bars.Given as goal

abbrev pub invariant-loop-bar : goal.invariant-loop-bar
invariant-loop-bar l = record {
  rest : string_bytes l.out ++ size_bars_from (16 - l.bar) l.x l.floor l.low l.most l.extents ≡ string_bytes l.fn.out ++ bars_text l.floor l.most l.extents;
  few : l.low < 2 ^ 21;
  place : l.x ≡ 472 + 23 * l.bar;
}
