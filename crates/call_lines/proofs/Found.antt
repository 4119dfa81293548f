-- The first place of a byte, as a position.
use Rattle.std.proofs.Common.{◌≡◌, ℕ, ◌<◌, Bool, true, false, List, length, Option, Some, None, refl, sym, arith}
use Rattle.std.proofs.lemmas.Bool.Decides.{nat_tests}
use Rattle.std.proofs.lemmas.List.Sums.{position_or_len_is}
use Rattle.std.specs.Prelude.{position, ◌==◌}
use Rattle.std.specs.List.{position_or_len}
use Rattle.memchr.specs.Find.{IsFirstByte, is_byte}

not_true : (b : Bool) → (b ≡ true → ⊥) → b ≡ false
not_true true never = absurd (never refl)
not_true false never = refl

far_none : (p : ℕ → Bool) (xs : List ℕ) → position_or_len p xs ≡ length xs → position p xs ≡ None
far_none p xs far = grind (arith, nat_tests)

near_some : (p : ℕ → Bool) (xs : List ℕ) (i : ℕ) → position_or_len p xs ≡ i → i < length xs → position p xs ≡ Some i
near_some p xs i near less = grind (arith, nat_tests)

-- what a search answers
pub position_found : (byte : ℕ) (bytes : List ℕ) (r : Option ℕ) → IsFirstByte (is_byte byte) bytes r → r ≡ position (λ b. b == byte) bytes
position_found byte bytes None none =
    sym (far_none (λ b. b == byte) bytes (position_or_len_is (λ b. b == byte) bytes (length bytes) 0 (omega arith)
    (λ k less. not_true _ (none k (omega arith) less)) (λ less. absurd (omega (arith, less)))))
position_found byte bytes (Some k) h =
    sym (near_some (λ b. b == byte) bytes k (position_or_len_is (λ b. b == byte) bytes k 0 (omega (arith, h.0.high))
    (λ j less. not_true _ (h.0.before j (omega arith) less)) (λ less. h.1)) h.0.high)
