-- How two numbers stand to one another.
use Rattle.std.proofs.Common.{◌≡◌, ◌≢◌, ℕ, ◌<◌, ◌≤◌, ◌⊎◌, inl, inr, ◌&&◌, true, false, nat_le, nat_lt, arith}
use Rattle.std.proofs.lemmas.Bool.Decides.{nat_tests}
use native.Mathlib.Decide.{dec_lt}

pub lt_or_le : (a b : ℕ) → (a < b) ⊎ (b ≤ a)
lt_or_le a b = elim (dec_lt a b) [ yes less ↦ inl less | no more ↦ inr (omega arith) ]

pub same_or_other : (a b : ℕ) → (a ≡ b) ⊎ (a ≢ b)
same_or_other a b = elim (lt_or_le a b) [
  | inl below ↦ inr (λ e. absurd (omega arith))
  | inr from ↦ elim (lt_or_le b a) [ inl above ↦ inr (λ e. absurd (omega arith)) | inr to ↦ inl (omega arith) ]
]

-- ---- tests

pub is_less : (a b : ℕ) → a < b → nat_lt a b ≡ true
is_less a b less = grind (arith, nat_tests)

pub not_less : (a b : ℕ) → b ≤ a → nat_lt a b ≡ false
not_less a b less = grind (arith, nat_tests)

-- a number that a test finds outside of two bounds is outside of them
pub is_outside : (low high k : ℕ) → (nat_le low k && nat_lt k high) ≡ false → (k < low) ⊎ (high ≤ k)
is_outside low high k out = elim (lt_or_le k low) [
  | inl below ↦ inl below
  | inr from ↦ elim (lt_or_le k high) [
    | inr to ↦ inr to
    | inl above ↦ absurd
        (let yes : (nat_le low k && nat_lt k high) ≡ true = grind (arith, nat_tests) in cc)
  ]
]

-- and one that is outside fails it
pub fails_within : (low high k : ℕ) → (k < low) ⊎ (high ≤ k) → (nat_le low k && nat_lt k high) ≡ false
fails_within low high k (inl below) = grind (arith, nat_tests)
fails_within low high k (inr above) = grind (arith, nat_tests)
