-- Bytes that are read one after the other.
use Rattle.std.proofs.Common.{◌≡◌, ◌∙◌, ap, sym, refl, ℕ, ◌+◌, ◌-◌, ◌<◌, ◌≤◌, List, [], ◌∷◌, ◌++◌, length, Option, Some, arith, ◌⊎◌, inl, inr, get_or, length-append, subst}
use Rattle.std.proofs.lemmas.List.{get_or-append_right, get_or_append_left}
use Rattle.std.proofs.lemmas.Bool.{cases_lt}
use Rattle.address_space.specs.Access.{AreBytesAt}

pub no_bytes : (byte : ℕ → Option ℕ) (at : ℕ) (bytes : List ℕ) → bytes ≡ [] → AreBytesAt byte at bytes
no_bytes byte at bytes is = subst (λ (bs : List ℕ). AreBytesAt byte at bs) (sym is) (record { each = λ k less. absurd (omega (arith, less)) })

-- one more byte
pub byte_more : (byte : ℕ → Option ℕ) (at : ℕ) (bytes new : List ℕ) (value : ℕ) → AreBytesAt byte at bytes →
    byte (at + length bytes) ≡ Some value → new ≡ bytes ++ value ∷ [] → AreBytesAt byte at new
byte_more byte at bytes new value read next is = subst (λ (bs : List ℕ). AreBytesAt byte at bs) (sym is) (record { each = each }) where
  by_place : (k : ℕ) → k < length bytes + 1 → (k < length bytes) ⊎ (length bytes ≤ k) → byte (at + k) ≡ Some (get_or (bytes ++ value ∷ []) k 0)
  by_place k less (inl before) = read.each k before ∙ ap (λ (n : ℕ). Some n) (sym (get_or_append_left bytes (value ∷ []) 0 k before))
  by_place k less (inr last) =
      let at_end : k ≡ length bytes = omega (arith, less, last) in
      let none : k - length bytes ≡ 0 = omega (arith, at_end) in
      ap (λ (n : ℕ). byte (at + n)) at_end
      ∙ (next ∙ ap (λ (n : ℕ). Some n) (sym (get_or-append_right bytes (value ∷ []) (length bytes) k 0 refl last
      ∙ ap (λ (n : ℕ). get_or (value ∷ []) n 0) none)))

  each : (k : ℕ) → k < length (bytes ++ value ∷ []) → byte (at + k) ≡ Some (get_or (bytes ++ value ∷ []) k 0)
  each k less = let n = length-append bytes (value ∷ []) in by_place k (omega (arith, n, less)) (cases_lt k (length bytes))
