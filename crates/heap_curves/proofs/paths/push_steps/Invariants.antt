use Rattle.std.proofs.Common.{◌≡◌, ◌++◌, length, drop, string_bytes}
use Rattle.heap_curves.specs.Paths.{steps_text}
use Rattle.heap_curves.proofs.paths.push_steps.Given as goal

abbrev pub invariant-loop-column : goal.invariant-loop-column
invariant-loop-column l = record {
  rest : string_bytes l.out ++ steps_text l.curve l.scale (length l.columns) l.place l.height
      (drop l.column-index l.columns) ≡ string_bytes l.fn.out ++ steps_text l.curve l.scale (length l.columns) 0 l.first
      l.columns;
  place : l.place ≡ l.column-index;
}
