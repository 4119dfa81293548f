use Rattle.std.proofs.Common.{◌≡◌, ◌++◌, take, string_bytes}
use Rattle.std.specs.List.{flat_map}
use Rattle.heap_time.specs.Labels.{stay_label_text}
use Rattle.heap_time.proofs.labels.push_labels.Given as goal

abbrev pub invariant-loop-stay : goal.invariant-loop-stay
invariant-loop-stay l = string_bytes l.out ≡ string_bytes l.fn.out ++ flat_map (stay_label_text l.calls l.bands) (take l.stay-index l.stays)
