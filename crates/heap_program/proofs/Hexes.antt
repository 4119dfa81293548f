-- Bytes as two digits each.
use Rattle.std.proofs.Common.{◌≡◌, ℕ, zero, suc, ◌/◌, ◌%◌, ◌<◌, List, [], ◌∷◌, ◌++◌, slice_index, refl, ap, lit≤}
use Rattle.std.specs.List.{AllByRecursion}
use Rattle.hex.specs.Hex.{encode_with, lower_digits}

pub encode_with-append : (t xs ys : List ℕ) → encode_with t (xs ++ ys) ≡ encode_with t xs ++ encode_with t ys
unfolding encode_with
encode_with-append t [] ys = refl
encode_with-append t (x ∷ xs) ys = ap (λ (l : List ℕ). slice_index t (x / 16) ∷ slice_index t (x % 16) ∷ l) (encode_with-append t xs ys)

pub small_at : (t : List ℕ) (k : ℕ) → AllByRecursion (λ b. b < 128) t → slice_index t k < 128
small_at [] k all = lit≤ tt
small_at (x ∷ xs) zero all = all.0
small_at (x ∷ xs) (suc k) all = small_at xs k all.1

-- a digit is a character of one byte
pub lower_small : (k : ℕ) → slice_index lower_digits k < 128
lower_small k = small_at lower_digits k (
  lit≤ tt,
  (
    lit≤ tt,
    (
      lit≤ tt,
      (
        lit≤ tt,
        (
          lit≤ tt,
          (
            lit≤ tt,
            (
              lit≤ tt,
              (
                lit≤ tt,
                (
                  lit≤ tt,
                  (
                    lit≤ tt,
                    (lit≤ tt, (lit≤ tt, (lit≤ tt, (lit≤ tt, (lit≤ tt, (lit≤ tt, tt)))))),
                  ),
                ),
              ),
            ),
          ),
        ),
      ),
    ),
  ),
)
