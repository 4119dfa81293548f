-- Pages that hold some bytes.
use Rattle.std.proofs.Common.{ℕ, ◌*◌, ◌<◌, ◌≤◌, arith}
use Rattle.machine_model.specs.Request.{pages_in}

pub pages_hold : (n : ℕ) → n ≤ 4096 * pages_in n
unfolding pages_in
pages_hold n = omega arith

pub pages_some : (n : ℕ) → 0 < n → 0 < pages_in n
unfolding pages_in
pages_some n some = omega arith
