use Rattle.std.proofs.Common.{◌≡◌, ◌++◌, drop, string_bytes}
use Rattle.heap_curves.specs.Calls.{call_lines_text}
use Rattle.heap_curves.proofs.calls.push_lines.Given as goal

abbrev pub invariant-loop-line : goal.invariant-loop-line
invariant-loop-line l = record {
  rest : string_bytes l.out ++ call_lines_text l.top l.y l.calls l.call (drop l.line-index l.lines) ≡ string_bytes
      l.fn.out ++ call_lines_text l.top l.y l.calls 0 l.lines;
  place : l.call ≡ l.line-index;
}
