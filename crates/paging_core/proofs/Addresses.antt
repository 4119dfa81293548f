-- Addresses as the code computes them.
use Rattle.std.proofs.Common.{◌≡◌, ℕ, ◌+◌, ◌-◌, ◌*◌, ◌/◌, ◌%◌, ◌^◌, ◌<◌, ◌≤◌, refl, sym, ◌∙◌, arith}
use Rattle.std.specs.Prelude.{bit_and, bit_or, IsTrue}
use Rattle.std.proofs.lemmas.Nat.{and_mask, or_shifted, div-add-mod', le-div, mul-le}
use Rattle.std.proofs.lemmas.Nat.Bits.{and_pow}
use Rattle.std.proofs.Math.Nat.{div-eq_of_lt-le}
use Rattle.paging_core.specs.Address.{is_canonical, sign_extended}

bit_zero : (a b : ℕ) → bit_and a 0x800000000000 ≡ b → b ≡ a / 2 ^ 47 % 2 * 2 ^ 47
bit_zero a b e = sym e ∙ and_pow a 47

pub truncated_low : (a : ℕ) → bit_and a 0x800000000000 ≡ 0 → bit_and a 0x7fffffffffff ≡ sign_extended a
truncated_low a e =
    let z : a / 2 ^ 47 % 2 ≡ 0 = let h = bit_zero a 0 e in omega arith in
    and_mask a 47 ∙ rw z (omega arith)

pub truncated_high : (a : ℕ) → (bit_and a 0x800000000000 ≡ 0 → ⊥) → bit_or 0xffff800000000000 (bit_and a 0x7fffffffffff) ≡ sign_extended a
truncated_high a ne =
    let h = bit_zero a (bit_and a 0x800000000000) refl in
    let z : a / 2 ^ 47 % 2 ≡ 1 = omega arith in
    let m : bit_and a 0x7fffffffffff ≡ a % 2 ^ 47 = and_mask a 47 in
    let o : bit_or ((2 ^ 17 - 1) * 2 ^ 47) (a % 2 ^ 47) ≡ (2 ^ 17 - 1) * 2 ^ 47 + a % 2 ^ 47 = or_shifted (2 ^ 17 - 1) 47 (a % 2 ^ 47) (omega arith) in
    rw (m, z) (o ∙ omega arith)

-- a canonical half is a whole number of pages, so an address and the start of its page are in one half:
-- what rounds down to a multiple of s stays at or above the multiples of s that it was at or above
rounded : (a s h q m : ℕ) → 0 < s → m * s ≡ h → q * h ≤ a → a < (q + 1) * h → a / s * s / h ≡ q
rounded a s h q m pos e lo hi =
    let d : a / s * s + a % s ≡ a = div-add-mod' a s in
    let t : q * m * s ≡ q * h = grind arith in
    let b : q * m ≤ a / s = le-div (q * m) a s pos (omega arith) in
    let c : q * m * s ≤ a / s * s = mul-le (q * m) s (a / s) s b (omega arith) in
    div-eq_of_lt-le h (omega arith) (omega arith)

pub canonical_rounded : (a s : ℕ) → 0 < s → 2 ^ 47 % s ≡ 0 → IsTrue (is_canonical a) → IsTrue (is_canonical (a / s * s))
canonical_rounded a s pos whole h =
    let m : 2 ^ 47 / s * s + 2 ^ 47 % s ≡ 2 ^ 47 = div-add-mod' (2 ^ 47) s in
    let e = rounded a s (2 ^ 47) (a / 2 ^ 47) (2 ^ 47 / s) pos (omega arith) (omega arith) (omega arith) in
    rw e h
