-- Sums over one list.
use Rattle.std.proofs.Common.{◌≡◌, ◌≤◌, ℕ, ◌+◌, List, [], ◌∷◌, arith}
use Rattle.std.specs.List.{sum_by}
use Rattle.std.proofs.lemmas.List.Sums.{sum_by-cons}
use Rattle.heap_cells.specs.declared.spans.Span.{Span}

-- sums of two parts are the sum of the whole
pub sums_joined : (f g h : Span → ℕ) → ((x : Span) → f x + g x ≡ h x) → (xs : List Span) → sum_by f xs + sum_by g xs ≡ sum_by h xs
sums_joined f g h each [] = omega arith
sums_joined f g h each (x ∷ xs) =
    let more = sums_joined f g h each xs in
    let one = each x in
    omega (arith, more, one, sum_by-cons f x xs, sum_by-cons g x xs, sum_by-cons h x xs)

-- a sum of less is less
pub sums_least : (f h : Span → ℕ) → ((x : Span) → f x ≤ h x) → (xs : List Span) → sum_by f xs ≤ sum_by h xs
sums_least f h each [] = omega arith
sums_least f h each (x ∷ xs) =
    let more = sums_least f h each xs in
    let one = each x in
    omega (arith, more, one, sum_by-cons f x xs, sum_by-cons h x xs)

-- and a sum of nothing is nothing
pub sums_none : (f : Span → ℕ) → ((x : Span) → f x ≡ 0) → (xs : List Span) → sum_by f xs ≡ 0
sums_none f each [] = omega arith
sums_none f each (x ∷ xs) =
    let more = sums_none f each xs in
    let one = each x in
    omega (arith, more, one, sum_by-cons f x xs)
