-- Products and quotients.
use Rattle.std.proofs.Common.{ℕ, ◌+◌, ◌*◌, ◌/◌, ◌≤◌, ◌<◌, arith}
use Rattle.std.proofs.lemmas.Nat.{div_below}
use Rattle.std.proofs.Math.Nat.{div-le_self, mul-le-mul, mul-le-mul_right, mul-le-mul_left, mul-div-le}

pub quotient_least : (n k : ℕ) → n / k ≤ n
quotient_least n k = div-le_self n k

pub product_least : (n k a b : ℕ) → n ≤ a → k ≤ b → n * k ≤ a * b
product_least n k a b less few = mul-le-mul less few

-- a part of a number is no more than it
pub part_least : (part parts n : ℕ) → 1 ≤ parts → part ≤ parts → part * n / parts ≤ n
part_least part parts n some among =
    let whole : part * n ≤ parts * n = mul-le-mul_right n among in
    let less : part * n < parts * (n + 1) = omega (arith, whole, some) in
    let below = div_below (part * n) parts (n + 1) some (omega (arith, less)) in
    omega (arith, below)

-- a row that is one of a band's lies within its height
pub row_within : (side height row : ℕ) → row < height / side → side * row + side ≤ height
row_within side height row among =
    let up : row + 1 ≤ height / side = omega (arith, among) in
    let rows = mul-le-mul_left side up in
    let all = mul-div-le height side in
    omega (arith, rows, all)
