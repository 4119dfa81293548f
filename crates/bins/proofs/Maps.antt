-- Bits of a map from a place on.
use Rattle.std.proofs.Common.{◌≡◌, ℕ, ◌+◌, ◌-◌, ◌/◌, ◌%◌, ◌^◌, ◌<◌, ◌≤◌, inl, inr, sym, ap, ◌∙◌, w32, arith}
use Rattle.std.specs.Int.{bit_at, trailing_zeros}
use Rattle.std.proofs.lemmas.Nat.{pow-add}
use Rattle.std.proofs.lemmas.Nat.Bits.{bit_at-trailing_zeros, bit_at-zero, bit_at_above}
use Rattle.std.proofs.Math.Nat.{div-div-eq-div-mul, div-le_self}
use Rattle.std.proofs.lemmas.Bool.{cases_lt}

pub bit_shifted : (map from i : ℕ) → bit_at (map / 2 ^ from) i ≡ bit_at map (from + i)
bit_shifted map from i = ap (λ n. n % 2) (div-div-eq-div-mul map (2 ^ from) (2 ^ i) ∙ ap (λ n. map / n) (sym (pow-add 2 from i)))

pub none_from : (map from : ℕ) → map / 2 ^ from ≡ 0 → (i : ℕ) → from ≤ i → bit_at map i ≡ 0
none_from map from none i above =
    let is : from + (i - from) ≡ i = omega arith in
    ap (λ n. bit_at map n) (sym is) ∙ (sym (bit_shifted map from (i - from)) ∙ (ap (λ n. bit_at n (i - from)) none ∙ bit_at-zero (i - from)))

-- the lowest set bit from a place on
pub record IsLowest (map from lowest : ℕ) : Type 0 where
  pub above : from ≤ lowest
  pub below : lowest < 32
  pub set : bit_at map lowest ≡ 1
  pub least : (other : ℕ) → from ≤ other → other < lowest → bit_at map other ≡ 0

pub lowest_is : (map from : ℕ) → map < 2 ^ 32 → 0 < map / 2 ^ from → IsLowest map from (from + trailing_zeros w32 (map / 2 ^ from))
lowest_is map from small some =
    let smaller : map / 2 ^ from ≤ map = div-le_self map (2 ^ from) in
    let h = bit_at-trailing_zeros w32 (map / 2 ^ from) some (omega arith) in
    let set : bit_at map (from + trailing_zeros w32 (map / 2 ^ from)) ≡ 1 = sym (bit_shifted map from (trailing_zeros w32 (map / 2 ^ from))) ∙ h.1 in
    record {
      above = omega arith;
      below = elim (cases_lt (from + trailing_zeros w32 (map / 2 ^ from)) 32) [
        | inl less ↦ less
        | inr more ↦ (let zero = bit_at_above map 32 (from + trailing_zeros w32 (map / 2 ^ from)) small more in absurd (omega (arith, zero, set)))
      ];
      set = set;
      least = λ other above below.
          let is : from + (other - from) ≡ other = omega arith in
          ap (λ n. bit_at map n) (sym is) ∙ (sym (bit_shifted map from (other - from)) ∙ h.2 (other - from) (omega arith));
    }
