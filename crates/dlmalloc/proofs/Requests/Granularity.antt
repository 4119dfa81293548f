-- A granularity, and each number of them, is made of units of 16 bytes.
use Rattle.dlmalloc.proofs.Names.{◌≡◌, ℕ, ◌+◌, ◌-◌, ◌*◌, ◌/◌, ◌%◌, ◌^◌, ◌≤◌, sym, ◌∙◌, ap, arith, pow_mono, dec_lt, mul-mod_left, IsPowerOfTwo}
use Rattle.std.proofs.lemmas.Nat.{pow-add}
use Rattle.std.proofs.Math.Nat.{mul_assoc}

-- a granularity is made of units of 16
pub granularity_whole : (g : ℕ) → IsPowerOfTwo g → 16 ≤ g → g % 16 ≡ 0
granularity_whole g power least =
    elim (dec_lt power.0 4) [
      | yes few ↦ absurd (let low : power.0 ≤ 3 = omega arith in let small : 2 ^ power.0 ≤ 2 ^ 3 = pow_mono low in let is = power.1 in omega arith)
      | no many ↦ whole (power.0 - 4) (power.1 ∙ ap (λ k. 2 ^ k) (sum power.0 (omega arith)))
    ]
  where
    sum : (k : ℕ) → 4 ≤ k → k ≡ 4 + (k - 4)
    sum k many = omega arith

    whole : (k : ℕ) → g ≡ 2 ^ (4 + k) → g % 16 ≡ 0
    whole k is = let parts : 2 ^ (4 + k) ≡ 2 ^ 4 * 2 ^ k = pow-add 2 4 k in omega arith

-- and so is each number of them
pub granularities_whole : (q g : ℕ) → IsPowerOfTwo g → 16 ≤ g → q * g % 16 ≡ 0
granularities_whole q g power least =
    let whole = granularity_whole g power least in
    let units : g ≡ g / 16 * 16 = omega arith in
    ap (λ u. q * u % 16) units ∙ (ap (λ u. u % 16) (sym (mul_assoc q (g / 16) 16)) ∙ mul-mod_left (q * (g / 16)) 16)

-- what is asked for is a whole number of granularities, with room for the chunk
pub asked_whole : (n g : ℕ) → IsPowerOfTwo g → 16 ≤ g → (n + (g - 1)) / g * g % 16 ≡ 0
asked_whole n g power least = granularities_whole ((n + (g - 1)) / g) g power least
