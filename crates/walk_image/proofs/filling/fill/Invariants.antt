use Rattle.std.proofs.Common.{◌≡◌, ◌*◌, drop}
use Rattle.walk_image.specs.Filled.{filled}
use Rattle.walk_image.proofs.filling.fill.Given as goal

abbrev pub invariant-loop-k : goal.invariant-loop-k
invariant-loop-k l = filled l.frames (drop (2 * l.k) l.pairs) ≡ filled l.fn.frames l.pairs
