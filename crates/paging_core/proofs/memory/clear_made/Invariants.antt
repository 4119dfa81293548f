use Rattle.std.proofs.Common.{◌≡◌, ◌*◌}
use Rattle.std.specs.Vec.{vec_capacity}
use Rattle.paging_core.specs.Memory.{with_zeros}
use Rattle.paging_core.proofs.memory.clear_made.Given as goal

abbrev pub invariant-loop-quarter : goal.invariant-loop-quarter
invariant-loop-quarter l =
    (l.words.items ≡ with_zeros l.fn.words.items l.fn.base (128 * l.quarter))
    × (vec_capacity l.words ≡ vec_capacity l.fn.words)
