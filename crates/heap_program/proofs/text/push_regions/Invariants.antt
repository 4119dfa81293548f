use Rattle.std.proofs.Common.{◌≡◌, ◌++◌, take, string_bytes}
use Rattle.heap_program.specs.Text.{spaced, pages_text}
use Rattle.heap_program.proofs.text.push_regions.Given as goal

abbrev pub invariant-loop-region : goal.invariant-loop-region
invariant-loop-region l = string_bytes l.out ≡ string_bytes l.fn.out ++ spaced pages_text (take l.region-index l.regions)
