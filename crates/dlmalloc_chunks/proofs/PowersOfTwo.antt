-- Powers of two: the numbers of which one bit is set, and from 16 on multiples of 16.
use Rattle.std.proofs.Common.{◌≡◌, ℕ, zero, suc, ◌+◌, ◌-◌, ◌*◌, ◌/◌, ◌%◌, ◌^◌, ◌<◌, ◌≤◌, IsTrue, refl, ap, ◌∙◌, arith, inl, inr, ◌⊎◌}
use Rattle.std.specs.Prelude.{count_ones}
use Rattle.std.specs.Int.{IsPowerOfTwo, is_power_of_two}
use Rattle.std.proofs.lemmas.Bool.Decides.{nat_tests}
use Rattle.std.proofs.lemmas.Nat.{zero_from_ones, ones_le_self, pow-add}
use Rattle.std.proofs.Math.Pow.{pow_mono}
use native.Mathlib.Decide.{dec_lt}
use lib.Count.{ones_step}

pow_suc : (k : ℕ) → 2 ^ suc k ≡ 2 * 2 ^ k
pow_suc k = grind arith

doubled : (n : ℕ) → n % 2 ≡ 0 → IsPowerOfTwo (n / 2) → IsPowerOfTwo n
doubled n even half = (suc half.0, let next = pow_suc half.0 in let is = half.1 in omega arith)

even_or_odd : (n : ℕ) → (n % 2 ≡ 0) ⊎ (n % 2 ≡ 1)
even_or_odd n = grind arith

power_below : (d n : ℕ) → n ≤ d → count_ones n ≡ 1 → IsPowerOfTwo n
power_below zero n low one = absurd (let most = ones_le_self n in omega arith)
power_below (suc d) n low one =
    let step = ones_step n in
    elim (even_or_odd n) [
      | inl even ↦ doubled n even (power_below d (n / 2) (omega arith) (omega arith))
      | inr odd ↦ (0, let half = zero_from_ones (n / 2) (omega arith) in omega arith)
    ]

ones_of_power : (k : ℕ) → count_ones (2 ^ k) ≡ 1
unfolding lib.Count.ones
ones_of_power zero = refl
ones_of_power (suc k) =
    let next = pow_suc k in
    let half : 2 ^ suc k / 2 ≡ 2 ^ k = omega arith in
    let step = ones_step (2 ^ suc k) in
    let rest : count_ones (2 ^ suc k / 2) ≡ 1 = ap (λ (n : ℕ). count_ones n) half ∙ ones_of_power k in
    omega arith

pub power_from_test : (n : ℕ) → IsTrue (is_power_of_two n) → IsPowerOfTwo n
power_from_test n test = power_below n n (omega arith) (grind (arith, nat_tests))

pub test_of_power : (n : ℕ) → IsPowerOfTwo n → IsTrue (is_power_of_two n)
test_of_power n power = let one : count_ones n ≡ 1 = ap (λ (m : ℕ). count_ones m) power.1 ∙ ones_of_power power.0 in grind (arith, nat_tests)

-- from 16 on it is a multiple of 16
pub power_whole : (n : ℕ) → IsPowerOfTwo n → 16 ≤ n → n % 16 ≡ 0
power_whole n power least =
    elim (dec_lt power.0 4) [
      | yes few ↦ absurd (let low : power.0 ≤ 3 = omega arith in let small : 2 ^ power.0 ≤ 2 ^ 3 = pow_mono low in let is = power.1 in omega arith)
      | no many ↦ whole (power.0 - 4) (power.1 ∙ ap (λ (k : ℕ). 2 ^ k) (sum power.0 (omega arith)))
    ]
  where
    sum : (k : ℕ) → 4 ≤ k → k ≡ 4 + (k - 4)
    sum k many = omega arith

    whole : (k : ℕ) → n ≡ 2 ^ (4 + k) → n % 16 ≡ 0
    whole k is = let parts : 2 ^ (4 + k) ≡ 2 ^ 4 * 2 ^ k = pow-add 2 4 k in omega arith
