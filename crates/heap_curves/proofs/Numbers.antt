-- Quotients and products.
use Rattle.std.proofs.Common.{◌≡◌, ◌≤◌, ◌<◌, ℕ, ◌+◌, ◌*◌, ◌/◌, ◌^◌, arith, zero, add-one, ap, ◌∙◌}
use Rattle.std.proofs.Math.Nat.{div-le_self, mul-le-mul, mul-le-mul_left, mul-div-le, pow-succ', pow-le-pow_right}
use Rattle.std.proofs.lemmas.Nat.{div-add-mod', le-div}

pub quotient_least : (n k : ℕ) → n / k ≤ n
quotient_least n k = div-le_self n k

pub product_least : (n k : ℕ) → n ≤ 512 → k < 2 ^ 64 → n * k ≤ 512 * 2 ^ 64
product_least n k less few = let more : k ≤ 2 ^ 64 = omega (arith, few) in mul-le-mul less more

-- a greater number has no smaller quotient
pub quotient_grows : (a b k : ℕ) → 0 < k → a ≤ b → a / k ≤ b / k
quotient_grows a b k some less = let whole = div-add-mod' a k in le-div (a / k) b k some (omega (arith, whole, less))

-- the call of a tick is not after the last one
pub tick_within : (calls step tick : ℕ) → tick < calls / step + 1 → step * tick ≤ calls
tick_within calls step tick less =
    let more : tick ≤ calls / step = omega (arith, less) in
    let whole = mul-le-mul_left step more in
    let fits = mul-div-le calls step in
    omega (arith, whole, fits)

pub ten_more : (n : ℕ) → 10 ^ (n + 1) ≡ 10 ^ n * 10
ten_more n = let more = ap (λ (k : ℕ). 10 ^ k) (add-one n) ∙ pow-succ' 10 n in omega (arith, more)

pub ten_some : (n : ℕ) → 1 ≤ 10 ^ n
ten_some n = let positive : zero < 10 = omega arith in let up : 0 ≤ n = omega arith in pow-le-pow_right positive up

pub ten_most : (n : ℕ) → n ≤ 20 → 10 ^ n ≤ 10 ^ 20
ten_most n few = let positive : zero < 10 = omega arith in pow-le-pow_right positive few
