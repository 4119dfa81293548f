use Rattle.std.proofs.Common.{◌≡◌, ◌++◌, take, string_bytes}
use Rattle.heap_map.specs.Blocks.{named_at}
use Rattle.heap_map.specs.Marks.{marks_text}
use Rattle.heap_map.proofs.marks.push_marks.Given as goal

abbrev pub invariant-loop-piece : goal.invariant-loop-piece
invariant-loop-piece l = string_bytes l.out ≡ string_bytes l.fn.out ++ marks_text (named_at l.blocks) l.row l.base l.y (take l.piece-index l.line)
