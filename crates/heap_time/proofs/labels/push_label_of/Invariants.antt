use Rattle.std.proofs.Common.{◌≡◌, drop, string_bytes}
use Rattle.heap_time.specs.Labels.{stay_label_text}
use Rattle.heap_time.proofs.labels.push_label_of.Given as goal

abbrev pub invariant-loop-band : goal.invariant-loop-band
invariant-loop-band l = record {
  same : string_bytes l.out ≡ string_bytes l.fn.out;
  rest : stay_label_text l.calls (drop l.band-index l.bands) l.stay ≡ stay_label_text l.calls l.bands l.stay;
}
