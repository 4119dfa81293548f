use Rattle.std.proofs.Common.{◌≡◌, ◌≤◌, ◌++◌, drop, string_bytes}
use Rattle.heap_curves.specs.Refused.{refused_columns_from, refused_columns_text}
use Rattle.heap_curves.proofs.refused.push_bars.Given as goal

abbrev pub invariant-loop-next : goal.invariant-loop-next
invariant-loop-next l = record {
  rest : string_bytes l.out ++ refused_columns_from l.calls l.y l.first l.number (drop l.next l.refused) ≡ string_bytes
      l.fn.out ++ refused_columns_text l.calls l.y l.refused;
  few : l.number ≤ l.next;
}
