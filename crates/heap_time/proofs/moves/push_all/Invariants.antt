use Rattle.std.proofs.Common.{◌≡◌, ◌++◌, take, string_bytes}
use Rattle.std.specs.List.{flat_map}
use Rattle.heap_time.specs.Moves.{move_text}
use Rattle.heap_time.proofs.moves.push_all.Given as goal

abbrev pub invariant-loop-stay : goal.invariant-loop-stay
invariant-loop-stay l = string_bytes l.out ≡ string_bytes l.fn.out ++ flat_map (move_text l.calls l.bands l.stays) (take l.stay-index l.stays)
