use Rattle.std.proofs.Common.{◌≡◌, ◌++◌, take, string_bytes}
use Rattle.std.specs.List.{flat_map}
use Rattle.heap_program.specs.Text.{region_line}
use Rattle.memory_image.proofs.image.push_regions.Given as goal

abbrev pub invariant-loop-region : goal.invariant-loop-region
invariant-loop-region l = string_bytes l.out ≡ string_bytes l.fn.out ++ flat_map region_line (take l.region-index l.regions)
