-- Where columns begin.
use Rattle.std.proofs.Common.{◌≤◌, ◌<◌, ℕ, ◌+◌, ◌*◌, ◌/◌, min, max, arith}
use Rattle.std.proofs.Math.Nat.{mul-le-mul, mul_comm}
use Rattle.std.proofs.lemmas.Nat.{div-mul-add}
use Rattle.heap_curves.specs.Columns.{column_start}
use Rattle.heap_curves.proofs.Numbers.{quotient_grows}

-- no column begins after the last call
pub start_within : (calls column : ℕ) → column ≤ min calls 1024 → column * calls / max 1 (min calls 1024) ≤ calls
start_within calls column few =
    let k = max 1 (min calls 1024) in
    let some : 0 < k = omega arith in
    let less : column * calls ≤ k * calls = mul-le-mul (omega (arith, few)) (omega arith) in
    let turned = mul_comm k calls in
    let most = quotient_grows (column * calls) (calls * k + 0) k some (omega (arith, less, turned)) in
    let whole = div-mul-add calls k 0 some in
    omega (arith, most, whole)

-- and each begins no earlier than the one before
pub start_grows : (calls column : ℕ) → column_start calls column ≤ column_start calls (column + 1)
start_grows calls column =
    quotient_grows (column * calls) ((column + 1) * calls) (max 1 (min calls 1024)) (omega arith) (mul-le-mul (omega arith) (omega arith))
