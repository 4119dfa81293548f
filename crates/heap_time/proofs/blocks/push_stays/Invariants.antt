use Rattle.std.proofs.Common.{◌≡◌, ◌++◌, take, string_bytes}
use Rattle.std.specs.List.{flat_map}
use Rattle.heap_time.specs.Blocks.{stay_text}
use Rattle.heap_time.proofs.blocks.push_stays.Given as goal

abbrev pub invariant-loop-stay : goal.invariant-loop-stay
invariant-loop-stay l = string_bytes l.out ≡ string_bytes l.fn.out ++ flat_map (stay_text l.calls l.band) (take l.stay-index l.stays)
