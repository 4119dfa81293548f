use Rattle.std.proofs.Common.{◌≡◌, ◌++◌, take, string_bytes}
use Rattle.std.specs.List.{flat_map}
use Rattle.heap_time.specs.Large.{large_mark_text}
use Rattle.heap_time.proofs.large.push_marks.Given as goal

abbrev pub invariant-loop-band : goal.invariant-loop-band
invariant-loop-band l = string_bytes l.out ≡ string_bytes l.fn.out ++ flat_map (large_mark_text l.calls l.large) (take l.band-index l.bands)
