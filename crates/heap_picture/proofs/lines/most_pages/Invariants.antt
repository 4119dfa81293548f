use Rattle.std.proofs.Common.{◌≡◌, max, drop}
use Rattle.heap_picture.specs.Lines.{most_pages}
use Rattle.heap_picture.proofs.lines.most_pages.Given as goal

abbrev pub invariant-loop-line : goal.invariant-loop-line
invariant-loop-line l = max l.most (most_pages (drop l.line-index l.lines)) ≡ most_pages l.lines
