-- The bytes of the range of a trie.
use Rattle.std.proofs.Common.{◌≡◌, ℕ, zero, suc, ◌+◌, ◌-◌, ◌*◌, ◌%◌, ◌^◌, ◌<◌, ◌≤◌, refl, ap, ◌∙◌, arith}
use Rattle.std.proofs.lemmas.Nat.{pow-add, pow_pos}
use Rattle.std.proofs.Math.Pow.{pow_mono}
use Rattle.bins.specs.Tries.{width}

pub width_is : (n : ℕ) → width n ≡ 8 * 2 ^ n
width_is zero = refl
width_is (suc n) =
    let twice : 2 ^ (n + 1) ≡ 2 ^ n * 2 ^ 1 = pow-add 2 n 1 in
    let next : n + 1 ≡ suc n = omega arith in
    ap (λ w. 2 * w) (width_is n) ∙ (omega (arith, twice) ∙ ap (λ m. 8 * 2 ^ m) next)

pub half_fits : (n : ℕ) → n ≤ 60 → 8 * 2 ^ n % 2 ^ 64 ≡ width n
half_fits n few = let small : 2 ^ n ≤ 2 ^ 60 = pow_mono few in omega (arith, width_is n)

-- a range has 8 bytes or more
pub width_some : (n : ℕ) → 8 ≤ width n
width_some n = let some : 0 < 2 ^ n = pow_pos n in omega (arith, width_is n)

pub wide : (levels : ℕ) → 0 < levels → width levels ≡ 2 * width (levels - 1)
wide zero some = absurd (omega arith)
wide (suc n) some = let e : n ≡ suc n - 1 = omega arith in ap (λ m. 2 * width m) e

pub width_whole : (n : ℕ) → width n % 8 ≡ 0
width_whole zero = refl
width_whole (suc n) = let h = width_whole n in omega arith
