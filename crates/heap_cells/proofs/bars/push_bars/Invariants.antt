use Rattle.std.proofs.Common.{◌≡◌, ◌≤◌, ◌++◌, drop}
use Rattle.heap_cells.specs.Bars.{bars_from, bars_of}
use Rattle.heap_cells.proofs.bars.push_bars.Given as goal

abbrev pub invariant-loop-next : goal.invariant-loop-next
invariant-loop-next l = record {
  place : l.start ≤ l.next;
  rest : l.bars.items ++ bars_from l.side l.y l.start l.next l.shade (drop l.next l.shades) ≡ l.fn.bars.items ++ bars_of l.side l.y l.shades;
}
