use Rattle.std.proofs.Common.{◌≡◌, ◌++◌, string_bytes}
use Rattle.heap_tables.specs.Rows.{guides_text}
use Rattle.heap_tables.proofs.rows.push_guides.Given as goal

abbrev pub invariant-loop-step : goal.invariant-loop-step
invariant-loop-step l = string_bytes l.out ≡ string_bytes l.fn.out ++ guides_text l.y l.step
