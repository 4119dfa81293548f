-- The levels of a tree against its number of pairs, and its pairs in the order of a query.
use Rattle.std.proofs.Common.{◌≡◌, ℕ, suc, ◌+◌, ◌≤◌, max, ◌∷◌, length, refl, ap, inl, inr, arith, length-append, ◌*◌}
use Rattle.std.proofs.lemmas.Bool.{cases_lt}
use Rattle.meminterval.specs.Entries.{AllItems}
use Rattle.meminterval.specs.Tree.{Tree, Leaf, Fork, entries, levels, visited, IsBalanced, fibonacci, DifferByAtMost}
use Rattle.meminterval.proofs.Ordered.{all_front, all_back, all_append}

module _ {E : Type 0} where
  pub length_fork : (l : Tree E) (e : E) (r : Tree E) → length (entries (Fork l e r)) ≡ length (entries l) + length (entries r) + 1
  length_fork l e r = omega (arith, length-append (entries l) (e ∷ entries r))

  pub length_visited : (t : Tree E) → length (visited t) ≡ length (entries t)
  length_visited Leaf = refl
  length_visited (Fork l e r) = omega (arith, length_visited l, length_visited r, length-append (visited r) (visited l), length_fork l e r)

  pub visited_all : (P : E → Type 0) (t : Tree E) → AllItems P (entries t) → AllItems P (visited t)
  visited_all P Leaf a = tt
  visited_all P (Fork l e r) a =
      let b = all_back P (entries l) (e ∷ entries r) a in
      (b.0, all_append P (visited r) (visited l) (visited_all P r b.1) (visited_all P l (all_front P (entries l) (e ∷ entries r) a)))

  -- a tree has a pair on each level
  pub levels_within : (t : Tree E) → levels t ≤ length (entries t)
  levels_within Leaf = omega arith
  levels_within (Fork l e r) = omega (arith, levels_within l, levels_within r, length_fork l e r)

pub fibonacci_step : (n : ℕ) → fibonacci (n + 2) ≡ fibonacci (n + 1) + fibonacci n
fibonacci_step n =
    let two : n + 2 ≡ suc (suc n) = omega arith in
    let one : n + 1 ≡ suc n = omega arith in
    rw (two, one) refl

pub fibonacci_grows : (n : ℕ) → fibonacci (n + 1) ≤ fibonacci (n + 2)
fibonacci_grows n = omega (arith, fibonacci_step n)

regroup : (n : ℕ) → fibonacci (n + 1 + 1) ≡ fibonacci (n + 2)
regroup n = ap fibonacci (omega arith)

module _ {E : Type 0} where
  bound_by : (l : Tree E) (e : E) (r : Tree E) (a b : ℕ) → levels l ≡ a → levels r ≡ b → DifferByAtMost 1 a b
      → fibonacci (a + 2) ≤ length (entries l) + 1 → fibonacci (b + 2) ≤ length (entries r) + 1
      → fibonacci (max a b + 1 + 2) ≤ length (entries (Fork l e r)) + 1
  bound_by l e r a b p q d h k = elim (cases_lt a b) [
    | inl lt ↦
        let same : max a b + 1 + 2 ≡ (b + 1) + 2 = omega arith in
        let low : a + 2 ≡ b + 1 = omega arith in
        let h' = rw low at h in
        rw same (omega (arith, fibonacci_step (b + 1), length_fork l e r, h', k, regroup b))
    | inr ge ↦ elim (cases_lt b a) [
      | inl lt ↦
          let same : max a b + 1 + 2 ≡ (a + 1) + 2 = omega arith in
          let low : b + 2 ≡ a + 1 = omega arith in
          let k' = rw low at k in
          rw same (omega (arith, fibonacci_step (a + 1), length_fork l e r, h, k', regroup a))
      | inr le ↦
          let same : max a b + 1 + 2 ≡ (a + 1) + 2 = omega arith in
          let level : b + 2 ≡ a + 2 = omega arith in
          let k' = rw level at k in
          rw same (omega (arith, fibonacci_step (a + 1), fibonacci_grows a, length_fork l e r, h, k', regroup a))
    ]
  ]

  -- the number of pairs grows at least as the Fibonacci numbers do
  pub fibonacci_within : (t : Tree E) → IsBalanced t → fibonacci (levels t + 2) ≤ length (entries t) + 1
  fibonacci_within Leaf b = omega arith
  fibonacci_within (Fork l e r) b = bound_by l e r (levels l) (levels r) refl refl b.2 (fibonacci_within l b.0) (fibonacci_within r b.1)

  -- half as many levels as pairs, and one more
  pub levels_half : (t : Tree E) → IsBalanced t → 2 * levels t ≤ length (entries t) + 2
  levels_half Leaf b = omega arith
  levels_half (Fork l e r) b = omega (arith, levels_half l b.0, levels_half r b.1, levels_within l, levels_within r, length_fork l e r)
