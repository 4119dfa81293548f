use Rattle.std.proofs.Common.{◌≡◌, ◌++◌, take, string_bytes}
use Rattle.heap_cells.specs.Paths.{shade_bars_text}
use Rattle.heap_cells.proofs.paths.push_bars_text.Given as goal

abbrev pub invariant-loop-bar : goal.invariant-loop-bar
invariant-loop-bar l = string_bytes l.out ≡ string_bytes l.fn.out ++ shade_bars_text l.shade (take l.bar-index l.bars)
