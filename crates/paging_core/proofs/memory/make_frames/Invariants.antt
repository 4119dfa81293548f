use Rattle.std.proofs.Common.{◌≡◌, ◌-◌, ◌*◌, ◌≤◌, ◌++◌, replicate}
use Rattle.std.specs.Vec.{vec_len, vec_capacity}
use Rattle.paging_core.proofs.memory.make_frames.Given as goal

abbrev pub invariant-loop : goal.invariant-loop
invariant-loop l =
    (l.words.items ≡ l.fn.words.items ++ replicate (128 * l.counter - vec_len l.fn.words) 0)
    × ((vec_len l.words ≡ 128 * l.counter) × ((vec_len l.fn.words ≤ 128 * l.counter) × (vec_capacity l.fn.words ≤ vec_capacity l.words)))
