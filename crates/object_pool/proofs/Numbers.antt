-- How two numbers stand to one another.
use Rattle.std.proofs.Common.{◌≡◌, ◌≢◌, ℕ, ◌<◌, ◌≤◌, ◌⊎◌, inl, inr, arith}
use native.Mathlib.Decide.{dec_lt}

pub lt_or_le : (a b : ℕ) → (a < b) ⊎ (b ≤ a)
lt_or_le a b = elim (dec_lt a b) [ yes less ↦ inl less | no more ↦ inr (omega arith) ]

pub same_or_other : (a b : ℕ) → (a ≡ b) ⊎ (a ≢ b)
same_or_other a b = elim (lt_or_le a b) [
  | inl below ↦ inr (λ e. absurd (omega arith))
  | inr from ↦ elim (lt_or_le b a) [ inl above ↦ inr (λ e. absurd (omega arith)) | inr to ↦ inl (omega arith) ]
]
