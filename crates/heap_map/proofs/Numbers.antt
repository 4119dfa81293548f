-- Quotients and remainders.
use Rattle.std.proofs.Common.{ℕ, ◌*◌, ◌%◌, ◌/◌, ◌^◌, ◌≤◌}
use Rattle.std.proofs.Math.Nat.{mod-le, div-le_self, mul-le-mul}

pub rest_least : (n k : ℕ) → n % k ≤ n
rest_least n k = mod-le n k

pub quotient_least : (n k : ℕ) → n / k ≤ n
quotient_least n k = div-le_self n k

pub product_least : (n k : ℕ) → n ≤ 2 ^ 53 → k ≤ 512 → n * k ≤ 2 ^ 53 * 512
product_least n k less few = mul-le-mul less few
