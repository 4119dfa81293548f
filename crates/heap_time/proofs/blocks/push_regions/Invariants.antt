use Rattle.std.proofs.Common.{◌≡◌, ◌++◌, take, string_bytes}
use Rattle.std.specs.List.{flat_map}
use Rattle.heap_time.specs.Blocks.{held_text}
use Rattle.heap_time.proofs.blocks.push_regions.Given as goal

abbrev pub invariant-loop-held : goal.invariant-loop-held
invariant-loop-held l = string_bytes l.out ≡ string_bytes l.fn.out ++ flat_map (held_text l.calls l.band) (take l.held-index l.heap)
