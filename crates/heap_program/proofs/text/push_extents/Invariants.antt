use Rattle.std.proofs.Common.{◌≡◌, ◌++◌, take, string_bytes}
use Rattle.heap_program.specs.Text.{spaced, extent_text}
use Rattle.heap_program.proofs.text.push_extents.Given as goal

abbrev pub invariant-loop-extent : goal.invariant-loop-extent
invariant-loop-extent l = string_bytes l.out ≡ string_bytes l.fn.out ++ spaced extent_text (take l.extent-index l.extents)
