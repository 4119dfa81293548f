-- Sums of sizes that fit 64 bits.
use Rattle.std.proofs.Common.{◌≡◌, ◌<◌, ◌≤◌, ◌+◌, ◌-◌, ◌*◌, ◌^◌, ℕ, zero, suc, List, [], ◌∷◌, ◌++◌, length, map, get_or, set, refl, sym, ap, ◌∙◌, arith}
use Rattle.std.proofs.lemmas.List.Sums.{sum_by-cons}
use Rattle.std.specs.Prelude.{sum}
use Rattle.run_figures.specs.Totals.{AreTotalled}

sum-cons : (x : ℕ) (xs : List ℕ) → sum (x ∷ xs) ≡ x + sum xs
sum-cons x xs = sum_by-cons (λ (y : ℕ). y) x xs

pub sum_few : (xs : List ℕ) → ((k : ℕ) → get_or xs k 0 < 2 ^ 64) → sum xs ≤ length xs * (2 ^ 64 - 1)
sum_few [] small = omega arith
sum_few (x ∷ xs) small =
    let first : x < 2 ^ 64 = small 0 in
    let rest = sum_few xs (λ k. small (suc k)) in
    let both = sum-cons x xs in
    omega (arith, first, rest, both)

pub small_push : (xs : List ℕ) (y : ℕ) → ((k : ℕ) → get_or xs k 0 < 2 ^ 64) → y < 2 ^ 64 → (k : ℕ) → get_or (xs ++ y ∷ []) k 0 < 2 ^ 64
small_push [] y small fits zero = fits
small_push [] y small fits (suc k) = omega arith
small_push (x ∷ xs) y small fits zero = small 0
small_push (x ∷ xs) y small fits (suc k) = small_push xs y (λ j. small (suc j)) fits k

pub small_set : (xs : List ℕ) (i y : ℕ) → ((k : ℕ) → get_or xs k 0 < 2 ^ 64) → y < 2 ^ 64 → (k : ℕ) → get_or (set xs i y) k 0 < 2 ^ 64
small_set [] i y small fits k = small k
small_set (x ∷ xs) zero y small fits zero = fits
small_set (x ∷ xs) zero y small fits (suc k) = small (suc k)
small_set (x ∷ xs) (suc i) y small fits zero = small 0
small_set (x ∷ xs) (suc i) y small fits (suc k) = small_set xs i y (λ j. small (suc j)) fits k

zero_at : (xs : List ℕ) (k : ℕ) → get_or {A = ℕ} (map (λ (size : ℕ). 0) xs) k 0 ≡ 0
zero_at [] k = refl
zero_at (x ∷ xs) zero = refl
zero_at (x ∷ xs) (suc k) = zero_at xs k

zero_sum : (xs : List ℕ) → sum (map {B = ℕ} (λ (size : ℕ). 0) xs) ≡ 0
zero_sum [] = refl
zero_sum (x ∷ xs) = let rest = zero_sum xs in let both = sum-cons 0 (map (λ (size : ℕ). 0) xs) in omega (arith, rest, both)

zero_from : (xs ys : List ℕ) → ys ≡ map (λ (size : ℕ). 0) xs → (k : ℕ) → get_or ys k 0 ≡ 0
zero_from xs ys is k = ap (λ (l : List ℕ). get_or l k 0) is ∙ zero_at xs k

pub all_ended : (xs ys : List ℕ) (count : ℕ) → ys ≡ map (λ (size : ℕ). 0) xs → count ≡ length ys → AreTotalled ys 0 count
all_ended xs ys count is all = record {
  total_is = sym (ap sum is ∙ zero_sum xs);
  small = λ k. (let none = zero_from xs ys is k in omega (arith, none));
  within = omega (arith, all);
  zero = λ k less. zero_from xs ys is k;
}
