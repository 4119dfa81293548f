-- Powers of two as shifts.
use Rattle.std.proofs.Common.{◌≡◌, ℕ, ◌*◌, ◌%◌, ◌^◌, arith}
use Rattle.std.proofs.lemmas.Nat.{one_shl}

-- a power of two below 2 ^ 16 fits 64 bits
pub one_shifted : (n : ℕ) → (1 * 2 ^ (n % 16)) % 2 ^ 64 ≡ 2 ^ (n % 16)
one_shifted n = one_shl (n % 16) 64 (omega arith)
