-- The first line feed.
use Rattle.std.proofs.Common.{◌≡◌, ◌≢◌, ℕ, zero, suc, ◌≤◌, ◌<◌, true, List, [], ◌∷◌, length, take, sym, subst, get_or, true-eqb, arith}
use Rattle.std.proofs.lemmas.Bool.Decides.{nat_tests}
use Rattle.std.proofs.lemmas.List.Sums.{passes_at_first}
use Rattle.std.specs.Prelude.{◌==◌}
use Rattle.std.specs.List.{position_or_len, AllByRecursion}

-- an element before the first that passes does not pass
first_isnt : (x : ℕ) (xs : List ℕ) (n : ℕ) → suc n ≤ position_or_len (λ b. b == 10) (x ∷ xs) → x ≢ 10
first_isnt x xs n near = λ is. absurd (found x xs n near is)
  where
    found : (x : ℕ) (xs : List ℕ) (n : ℕ) → suc n ≤ position_or_len (λ b. b == 10) (x ∷ xs) → x ≡ 10 → ⊥
    found x xs n near is = grind (arith, nat_tests)

later_near : (x : ℕ) (xs : List ℕ) (n : ℕ) → suc n ≤ position_or_len (λ b. b == 10) (x ∷ xs) → n ≤ position_or_len (λ b. b == 10) xs
later_near x xs n near = grind (arith, nat_tests)

-- no line feed comes before the first
pub one_line_before : (xs : List ℕ) (n : ℕ) → n ≤ position_or_len (λ b. b == 10) xs → AllByRecursion (λ b. b ≢ 10) (take n xs)
one_line_before [] zero near = tt
one_line_before [] (suc n) near = tt
one_line_before (x ∷ xs) zero near = tt
one_line_before (x ∷ xs) (suc n) near = (first_isnt x xs n near, one_line_before xs n (later_near x xs n near))

-- the first place has a line feed
pub found_at : (xs : List ℕ) (i : ℕ) → position_or_len (λ b. b == 10) xs ≡ i → i < length xs → get_or xs i 0 ≡ 10
found_at xs i near less =
    true-eqb (get_or xs i 0) 10 (sym (subst (λ (n : ℕ). (get_or xs n 0 == 10) ≡ true) near
    (passes_at_first (λ b. b == 10) xs 0 (subst (λ (n : ℕ). n < length xs) (sym near) less))))
