-- A balanced tree is low: n levels want 2 ^ (n / 2) pairs.
use Rattle.std.proofs.Common.{◌≡◌, ℕ, zero, suc, ◌+◌, ◌-◌, ◌*◌, ◌^◌, ◌≤◌, length, refl, ap, arith, inl, inr}
use Rattle.std.proofs.lemmas.Bool.{cases_lt}
use Rattle.meminterval.specs.Tree.{Tree, entries, fibonacci, levels, IsBalanced}
use Rattle.meminterval.proofs.Trees.{fibonacci_grows, fibonacci_step, fibonacci_within}

power_step : (m : ℕ) → 2 ^ suc m ≡ 2 * 2 ^ m
power_step m = grind arith

doubled : (m : ℕ) → 2 ^ m ≤ fibonacci (2 * m + 1)
doubled zero = let one : fibonacci (2 * 0 + 1) ≡ 1 = refl in omega (arith, one)
doubled (suc m) =
    let e : 2 * suc m + 1 ≡ 2 * m + 1 + 2 = omega arith in
    let f : fibonacci (2 * m + 1 + 1) ≡ fibonacci (2 * m + 2) = ap fibonacci (omega arith) in
    rw e (omega (arith, power_step m, doubled m, fibonacci_step (2 * m + 1), fibonacci_grows (2 * m), f))

further_on : (n d : ℕ) → fibonacci (n + 1) ≤ fibonacci (n + 1 + d)
further_on n zero = let e : n + 1 + 0 ≡ n + 1 = omega arith in rw e (omega arith)
further_on n (suc d) =
    let e : n + 1 + suc d ≡ n + d + 2 = omega arith in
    let f : fibonacci (n + 1 + d) ≡ fibonacci (n + d + 1) = ap fibonacci (omega arith) in
    rw e (omega (arith, further_on n d, f, fibonacci_grows (n + d)))

module _ {E : Type 0} where
  half_levels : (t : Tree E) → IsBalanced t → (m : ℕ) → 2 * m ≤ levels t + 1 → 2 ^ m ≤ length (entries t) + 1
  half_levels t b m h =
      let e : fibonacci (levels t + 2) ≡ fibonacci (2 * m + 1 + (levels t + 1 - 2 * m)) = ap fibonacci (omega (arith, h)) in
      omega (arith, doubled m, further_on (2 * m) (levels t + 1 - 2 * m), fibonacci_within t b, e)

  -- a tree of at most 2^63 pairs has at most 128 levels
  pub low : (t : Tree E) → IsBalanced t → length (entries t) ≤ 2 ^ 63 → levels t ≤ 128
  low t b few = elim (cases_lt 128 (levels t)) [
    | inl lt ↦ absurd (omega (arith, few, half_levels t b 65 (omega (arith, lt))))
    | inr ge ↦ ge
  ]
