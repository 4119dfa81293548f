-- The numbers of indices in base 512.
use Rattle.std.proofs.Common.{◌≡◌, ◌<◌, ◌≤◌, ℕ, zero, suc, ◌+◌, ◌-◌, ◌*◌, ◌^◌, subst, arith}

-- three indices are below 2 ^ 27
pub few_low : (left number : ℕ) → 1 ≤ left → number < 512 ^ (4 - left) → number < 2 ^ 27
few_low zero number some few = absurd (omega (arith, some))
few_low (suc zero) number some few = omega (arith, few)
few_low (suc (suc zero)) number some few = omega (arith, few)
few_low (suc (suc (suc zero))) number some few = omega (arith, few)
few_low (suc (suc (suc (suc left)))) number some few =
    let none : 4 - suc (suc (suc (suc left))) ≡ 0 = omega arith in
    let few' = subst (λ (n : ℕ). number < 512 ^ n) none few in
    omega (arith, few')

-- and four below 2 ^ 36
pub few_pages : (left number : ℕ) → number < 512 ^ (4 - left) → number < 2 ^ 36
few_pages zero number few = omega (arith, few)
few_pages (suc zero) number few = omega (arith, few)
few_pages (suc (suc zero)) number few = omega (arith, few)
few_pages (suc (suc (suc zero))) number few = omega (arith, few)
few_pages (suc (suc (suc (suc left)))) number few =
    let none : 4 - suc (suc (suc (suc left))) ≡ 0 = omega arith in
    let few' = subst (λ (n : ℕ). number < 512 ^ n) none few in
    omega (arith, few')

-- one index more
pub few_under : (left number index : ℕ) → 1 ≤ left → left ≤ 4 → number < 512 ^ (4 - left) → index < 512 → 512 * number + index < 512 ^ (4 - (left - 1))
few_under zero number index some low few within = absurd (omega (arith, some))
few_under (suc zero) number index some low few within = omega (arith, few, within)
few_under (suc (suc zero)) number index some low few within = omega (arith, few, within)
few_under (suc (suc (suc zero))) number index some low few within = omega (arith, few, within)
few_under (suc (suc (suc (suc zero)))) number index some low few within = omega (arith, few, within)
few_under (suc (suc (suc (suc (suc left))))) number index some low few within = absurd (omega (arith, low))
