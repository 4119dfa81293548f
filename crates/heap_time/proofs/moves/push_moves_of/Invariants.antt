use Rattle.std.proofs.Common.{◌≡◌, ◌++◌, take, string_bytes}
use Rattle.std.specs.List.{flat_map}
use Rattle.heap_time.specs.Moves.{arrow_to}
use Rattle.heap_time.proofs.moves.push_moves_of.Given as goal

abbrev pub invariant-loop-next : goal.invariant-loop-next
invariant-loop-next l = string_bytes l.out ≡ string_bytes l.fn.out ++ flat_map (arrow_to l.calls l.bands l.stay) (take l.next-index l.stays)
