-- Taking some bits of a word from another word.
use Rattle.std.proofs.Common.{◌≡◌, ℕ, zero, suc, ◌-◌, ◌^◌, ◌<◌, ◌==◌, min, max, if◌then◌else◌, ap, ◌∙◌, arith}
use native.Mathlib.Decide.{dec_lt}
use Rattle.std.specs.Int.{bit_at, w64}
use Rattle.std.specs.Int.RustNames.{bit_and, bit_or}
use Rattle.std.proofs.lemmas.Nat.{or_disjoint}
use Rattle.std.proofs.lemmas.Nat.Bits.{bit_at_and, bit_at_or, bit_at-lt, bit_at_not, bit_at_above, bit_at-zero, same_from_bits}
use Rattle.x86_registers.specs.Keeping.{keeping, kept_bit}

-- a bit of the mask chooses between two bits
chosen_bit : (mask value old : ℕ) → mask < 2 → value < 2 → old < 2 →
    max (min old (1 - mask)) (min value mask) ≡ (if mask == 1 then value else old)
chosen_bit zero value old one two three = omega arith
chosen_bit (suc zero) value old one two three = omega arith
chosen_bit (suc (suc mask)) value old one two three = absurd (omega arith)

module _ (mask old value : ℕ) (mask_fits : mask < 2 ^ 64) (old_fits : old < 2 ^ 64) where
  -- the bits that stay, and those that are written
  kept : ℕ
  kept = bit_and old (18446744073709551615 - mask)

  kept-bit_at : (at : ℕ) → bit_at kept at ≡ min (bit_at old at) (1 - bit_at mask at)
  unfolding kept
  kept-bit_at at = elim (dec_lt at 64) [
    | yes below ↦ bit_at_and old (18446744073709551615 - mask) at ∙ ap (λ n. min (bit_at old at) n) (bit_at_not w64 mask at mask_fits below)
    | no above ↦ omega (arith, bit_at_and old (18446744073709551615 - mask) at, bit_at_above old 64 at old_fits (omega arith))
  ]

  both-bit_at : (at : ℕ) → bit_at (bit_or kept (bit_and value mask)) at ≡ kept_bit mask old value at
  both-bit_at at =
      bit_at_or kept (bit_and value mask) at
      ∙ (ap (λ n. max n (bit_at (bit_and value mask) at)) (kept-bit_at at)
      ∙ (ap (λ n. max (min (bit_at old at) (1 - bit_at mask at)) n) (bit_at_and value mask at)
      ∙ chosen_bit (bit_at mask at) (bit_at value at) (bit_at old at) (bit_at-lt mask at) (bit_at-lt value at) (bit_at-lt old at)))

  apart : (other : ℕ) → bit_and kept (bit_and other mask) ≡ zero
  apart other = same_from_bits (bit_and kept (bit_and other mask)) zero
      (λ at. omega (arith, bit_at_and kept (bit_and other mask) at, kept-bit_at at, bit_at_and other mask at, bit_at-lt mask at, bit_at-zero at))

  split : bit_or kept (bit_and old mask) ≡ old
  split = same_from_bits (bit_or kept (bit_and old mask)) old
      (λ at. omega (arith, bit_at_or kept (bit_and old mask) at, kept-bit_at at, bit_at_and old mask at, bit_at-lt mask at, bit_at-lt old at))

  both : bit_or kept (bit_and value mask) ≡ keeping mask old value
  both = omega (arith, or_disjoint kept (bit_and value mask) (apart value), or_disjoint kept (bit_and old mask) (apart old), split)

  -- what the code computes is the number, and each of its bits is one or the other
  pub keeping-is : bit_or (bit_and old (18446744073709551615 - mask)) (bit_and value mask) ≡ keeping mask old value
  unfolding kept
  keeping-is = both

  pub keeping-bit_at : (at : ℕ) → bit_at (bit_or (bit_and old (18446744073709551615 - mask)) (bit_and value mask)) at ≡ kept_bit mask old value at
  unfolding kept
  keeping-bit_at = both-bit_at
