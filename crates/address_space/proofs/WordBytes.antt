-- Bytes of words.
use Rattle.std.proofs.Common.{◌≡◌, ◌∙◌, ap, sym, refl, ℕ, zero, suc, ◌+◌, ◌-◌, ◌*◌, ◌/◌, ◌%◌, ◌<◌, ◌≤◌, ◌==◌, ◌&&◌, Bool, true, false, cond, List, length, set, slice_index, arith, ◌⊎◌, inl, inr, length-set}
use Rattle.std.proofs.lemmas.Bool.Decides.{nat_tests}
use Rattle.std.proofs.lemmas.List.{get_or-set_same, get_or-set_other}
use Rattle.std.specs.Prelude.{nat_le, nat_lt}
use Rattle.paging_core.specs.Field.{with_bit_field}
use Rattle.paging_core.specs.Memory.{byte_of}
use Rattle.address_space.specs.Access.{byte_at, AreBytesPut}
use Rattle.address_space.proofs.Cutting.{side_of, then_in, else_out}

-- ---- a word with another byte

pub byte_here : (word byte value : ℕ) → byte < 8 → value < 256 → byte_of (with_bit_field word (8 * byte) (8 * byte + 8) value) byte ≡ value
byte_here word zero value less small = omega (arith, small)
byte_here word (suc zero) value less small = omega (arith, small)
byte_here word (suc (suc zero)) value less small = omega (arith, small)
byte_here word (suc (suc (suc zero))) value less small = omega (arith, small)
byte_here word (suc (suc (suc (suc zero)))) value less small = omega (arith, small)
byte_here word (suc (suc (suc (suc (suc zero))))) value less small = omega (arith, small)
byte_here word (suc (suc (suc (suc (suc (suc zero)))))) value less small = omega (arith, small)
byte_here word (suc (suc (suc (suc (suc (suc (suc zero))))))) value less small = omega (arith, small)
byte_here word (suc (suc (suc (suc (suc (suc (suc (suc byte)))))))) value less small = absurd (omega (arith, less))

pub byte_other : (word byte value other : ℕ) → byte < 8 → other < 8 → value < 256 → (other ≡ byte → ⊥) →
    byte_of (with_bit_field word (8 * byte) (8 * byte + 8) value) other ≡ byte_of word other
byte_other word zero value zero less k small h = absurd (h refl)
byte_other word zero value (suc zero) less k small h = omega (arith, small)
byte_other word zero value (suc (suc zero)) less k small h = omega (arith, small)
byte_other word zero value (suc (suc (suc zero))) less k small h = omega (arith, small)
byte_other word zero value (suc (suc (suc (suc zero)))) less k small h = omega (arith, small)
byte_other word zero value (suc (suc (suc (suc (suc zero))))) less k small h = omega (arith, small)
byte_other word zero value (suc (suc (suc (suc (suc (suc zero)))))) less k small h = omega (arith, small)
byte_other word zero value (suc (suc (suc (suc (suc (suc (suc zero))))))) less k small h = omega (arith, small)
byte_other word zero value (suc (suc (suc (suc (suc (suc (suc (suc other)))))))) less k small h = absurd (omega (arith, k))
byte_other word (suc zero) value zero less k small h = omega (arith, small)
byte_other word (suc zero) value (suc zero) less k small h = absurd (h refl)
byte_other word (suc zero) value (suc (suc zero)) less k small h = omega (arith, small)
byte_other word (suc zero) value (suc (suc (suc zero))) less k small h = omega (arith, small)
byte_other word (suc zero) value (suc (suc (suc (suc zero)))) less k small h = omega (arith, small)
byte_other word (suc zero) value (suc (suc (suc (suc (suc zero))))) less k small h = omega (arith, small)
byte_other word (suc zero) value (suc (suc (suc (suc (suc (suc zero)))))) less k small h = omega (arith, small)
byte_other word (suc zero) value (suc (suc (suc (suc (suc (suc (suc zero))))))) less k small h = omega (arith, small)
byte_other word (suc zero) value (suc (suc (suc (suc (suc (suc (suc (suc other)))))))) less k small h = absurd (omega (arith, k))
byte_other word (suc (suc zero)) value zero less k small h = omega (arith, small)
byte_other word (suc (suc zero)) value (suc zero) less k small h = omega (arith, small)
byte_other word (suc (suc zero)) value (suc (suc zero)) less k small h = absurd (h refl)
byte_other word (suc (suc zero)) value (suc (suc (suc zero))) less k small h = omega (arith, small)
byte_other word (suc (suc zero)) value (suc (suc (suc (suc zero)))) less k small h = omega (arith, small)
byte_other word (suc (suc zero)) value (suc (suc (suc (suc (suc zero))))) less k small h = omega (arith, small)
byte_other word (suc (suc zero)) value (suc (suc (suc (suc (suc (suc zero)))))) less k small h = omega (arith, small)
byte_other word (suc (suc zero)) value (suc (suc (suc (suc (suc (suc (suc zero))))))) less k small h = omega (arith, small)
byte_other word (suc (suc zero)) value (suc (suc (suc (suc (suc (suc (suc (suc other)))))))) less k small h = absurd (omega (arith, k))
byte_other word (suc (suc (suc zero))) value zero less k small h = omega (arith, small)
byte_other word (suc (suc (suc zero))) value (suc zero) less k small h = omega (arith, small)
byte_other word (suc (suc (suc zero))) value (suc (suc zero)) less k small h = omega (arith, small)
byte_other word (suc (suc (suc zero))) value (suc (suc (suc zero))) less k small h = absurd (h refl)
byte_other word (suc (suc (suc zero))) value (suc (suc (suc (suc zero)))) less k small h = omega (arith, small)
byte_other word (suc (suc (suc zero))) value (suc (suc (suc (suc (suc zero))))) less k small h = omega (arith, small)
byte_other word (suc (suc (suc zero))) value (suc (suc (suc (suc (suc (suc zero)))))) less k small h = omega (arith, small)
byte_other word (suc (suc (suc zero))) value (suc (suc (suc (suc (suc (suc (suc zero))))))) less k small h = omega (arith, small)
byte_other word (suc (suc (suc zero))) value (suc (suc (suc (suc (suc (suc (suc (suc other)))))))) less k small h = absurd (omega (arith, k))
byte_other word (suc (suc (suc (suc zero)))) value zero less k small h = omega (arith, small)
byte_other word (suc (suc (suc (suc zero)))) value (suc zero) less k small h = omega (arith, small)
byte_other word (suc (suc (suc (suc zero)))) value (suc (suc zero)) less k small h = omega (arith, small)
byte_other word (suc (suc (suc (suc zero)))) value (suc (suc (suc zero))) less k small h = omega (arith, small)
byte_other word (suc (suc (suc (suc zero)))) value (suc (suc (suc (suc zero)))) less k small h = absurd (h refl)
byte_other word (suc (suc (suc (suc zero)))) value (suc (suc (suc (suc (suc zero))))) less k small h = omega (arith, small)
byte_other word (suc (suc (suc (suc zero)))) value (suc (suc (suc (suc (suc (suc zero)))))) less k small h = omega (arith, small)
byte_other word (suc (suc (suc (suc zero)))) value (suc (suc (suc (suc (suc (suc (suc zero))))))) less k small h = omega (arith, small)
byte_other word (suc (suc (suc (suc zero)))) value (suc (suc (suc (suc (suc (suc (suc (suc other)))))))) less k small h = absurd (omega (arith, k))
byte_other word (suc (suc (suc (suc (suc zero))))) value zero less k small h = omega (arith, small)
byte_other word (suc (suc (suc (suc (suc zero))))) value (suc zero) less k small h = omega (arith, small)
byte_other word (suc (suc (suc (suc (suc zero))))) value (suc (suc zero)) less k small h = omega (arith, small)
byte_other word (suc (suc (suc (suc (suc zero))))) value (suc (suc (suc zero))) less k small h = omega (arith, small)
byte_other word (suc (suc (suc (suc (suc zero))))) value (suc (suc (suc (suc zero)))) less k small h = omega (arith, small)
byte_other word (suc (suc (suc (suc (suc zero))))) value (suc (suc (suc (suc (suc zero))))) less k small h = absurd (h refl)
byte_other word (suc (suc (suc (suc (suc zero))))) value (suc (suc (suc (suc (suc (suc zero)))))) less k small h = omega (arith, small)
byte_other word (suc (suc (suc (suc (suc zero))))) value (suc (suc (suc (suc (suc (suc (suc zero))))))) less k small h = omega (arith, small)
byte_other word (suc (suc (suc (suc (suc zero))))) value (suc (suc (suc (suc (suc (suc (suc (suc other)))))))) less k small h = absurd (omega (arith, k))
byte_other word (suc (suc (suc (suc (suc (suc zero)))))) value zero less k small h = omega (arith, small)
byte_other word (suc (suc (suc (suc (suc (suc zero)))))) value (suc zero) less k small h = omega (arith, small)
byte_other word (suc (suc (suc (suc (suc (suc zero)))))) value (suc (suc zero)) less k small h = omega (arith, small)
byte_other word (suc (suc (suc (suc (suc (suc zero)))))) value (suc (suc (suc zero))) less k small h = omega (arith, small)
byte_other word (suc (suc (suc (suc (suc (suc zero)))))) value (suc (suc (suc (suc zero)))) less k small h = omega (arith, small)
byte_other word (suc (suc (suc (suc (suc (suc zero)))))) value (suc (suc (suc (suc (suc zero))))) less k small h = omega (arith, small)
byte_other word (suc (suc (suc (suc (suc (suc zero)))))) value (suc (suc (suc (suc (suc (suc zero)))))) less k small h = absurd (h refl)
byte_other word (suc (suc (suc (suc (suc (suc zero)))))) value (suc (suc (suc (suc (suc (suc (suc zero))))))) less k small h = omega (arith, small)
byte_other word (suc (suc (suc (suc (suc (suc zero)))))) value (suc (suc (suc (suc (suc (suc (suc (suc other)))))))) less k small h = absurd (omega (arith, k))
byte_other word (suc (suc (suc (suc (suc (suc (suc zero))))))) value zero less k small h = omega (arith, small)
byte_other word (suc (suc (suc (suc (suc (suc (suc zero))))))) value (suc zero) less k small h = omega (arith, small)
byte_other word (suc (suc (suc (suc (suc (suc (suc zero))))))) value (suc (suc zero)) less k small h = omega (arith, small)
byte_other word (suc (suc (suc (suc (suc (suc (suc zero))))))) value (suc (suc (suc zero))) less k small h = omega (arith, small)
byte_other word (suc (suc (suc (suc (suc (suc (suc zero))))))) value (suc (suc (suc (suc zero)))) less k small h = omega (arith, small)
byte_other word (suc (suc (suc (suc (suc (suc (suc zero))))))) value (suc (suc (suc (suc (suc zero))))) less k small h = omega (arith, small)
byte_other word (suc (suc (suc (suc (suc (suc (suc zero))))))) value (suc (suc (suc (suc (suc (suc zero)))))) less k small h = omega (arith, small)
byte_other word (suc (suc (suc (suc (suc (suc (suc zero))))))) value (suc (suc (suc (suc (suc (suc (suc zero))))))) less k small h = absurd (h refl)
byte_other word (suc (suc (suc (suc (suc (suc (suc zero))))))) value (suc (suc (suc (suc (suc (suc (suc (suc other))))))))
    less k small h = absurd (omega (arith, k))
byte_other word (suc (suc (suc (suc (suc (suc (suc (suc byte)))))))) value other less k small h = absurd (omega (arith, less))

-- ---- bytes that are put in one after the other

pub none_put : (words bytes : List ℕ) (offset : ℕ) → AreBytesPut words words offset 0 bytes
none_put words bytes offset = record {
  size = refl;
  each = λ place less. sym (else_out offset (offset + 0) place (slice_index bytes (place - offset)) (byte_at words place)
      (out place (side_of offset (offset + 0) place)));
} where
  out : (place : ℕ) → ((offset ≤ place) × (place < offset + 0)) ⊎ ((place < offset) ⊎ (offset + 0 ≤ place)) → (place < offset) ⊎ (offset + 0 ≤ place)
  out place (inl h) = absurd (omega (arith, h.0, h.1))
  out place (inr h) = h

pub one_put : (old new bytes : List ℕ) (offset done word value : ℕ) → AreBytesPut old new offset done bytes →
    offset + done < 8 * length old → value ≡ slice_index bytes done →
    byte_of word ((offset + done) % 8) ≡ value → ((other : ℕ) → other < 8 → (other ≡ (offset + done) % 8 → ⊥) →
    byte_of word other ≡ byte_of (slice_index new ((offset + done) / 8)) other) →
    AreBytesPut old (set new ((offset + done) / 8) word) offset (done + 1) bytes
one_put old new bytes offset done word value p within is here others = record {
  size = length-set new ((offset + done) / 8) word ∙ p.size;
  each = λ place less. by_place place less (side_of offset (offset + done) place) (cases_eq place (offset + done));
} where
  cases_eq : (a b : ℕ) → (a ≡ b) ⊎ (a ≡ b → ⊥)
  cases_eq a b = go (a == b) refl where
    go : (t : Bool) → (a == b) ≡ t → (a ≡ b) ⊎ (a ≡ b → ⊥)
    go true t = inl (grind (arith, nat_tests, t))
    go false t = inr (λ h. grind (arith, nat_tests, t, h))

  at : ℕ
  at = (offset + done) / 8

  in_words : at < length new
  in_words = let s = p.size in omega (arith, within, s)

  -- every other byte is as it was
  kept : (place : ℕ) → (place ≡ offset + done → ⊥) → byte_at (set new at word) place ≡ byte_at new place
  kept place other = go (cases_eq (place / 8) at) where
    go : (place / 8 ≡ at) ⊎ (place / 8 ≡ at → ⊥) → byte_at (set new at word) place ≡ byte_at new place
    go (inr h) = ap (λ (w : ℕ). byte_of w (place % 8)) (get_or-set_other new at (place / 8) word 0 h)
    go (inl h) =
        ap (λ (i : ℕ). byte_of (slice_index (set new at word) i) (place % 8)) h
        ∙ (ap (λ (w : ℕ). byte_of w (place % 8)) (get_or-set_same new at word 0 in_words)
        ∙ (others (place % 8) (omega arith) (λ same. other (omega (arith, h, same)))
        ∙ ap (λ (i : ℕ). byte_of (slice_index new i) (place % 8)) (sym h)))

  by_place : (place : ℕ) → place < 8 * length old →
      ((offset ≤ place) × (place < offset + done)) ⊎ ((place < offset) ⊎ (offset + done ≤ place)) →
      (place ≡ offset + done) ⊎ (place ≡ offset + done → ⊥) →
      byte_at (set new at word) place ≡ cond (nat_le offset place && nat_lt place (offset + (done + 1)))
      (slice_index bytes (place - offset)) (byte_at old place)
  by_place place less k (inl h) =
      let first : place / 8 ≡ at = ap (λ (i : ℕ). i / 8) h in
      let rest : place % 8 ≡ (offset + done) % 8 = ap (λ (i : ℕ). i % 8) h in
      ap (λ (i : ℕ). byte_of (slice_index (set new at word) i) (place % 8)) first
      ∙ (ap (λ (w : ℕ). byte_of w (place % 8)) (get_or-set_same new at word 0 in_words)
      ∙ (ap (byte_of word) rest
      ∙ (here ∙ (is ∙ (ap (slice_index bytes) (omega (arith, h))
      ∙ sym (then_in offset (offset + (done + 1)) place (slice_index bytes (place - offset)) (byte_at old place) (omega (arith, h)) (omega (arith, h))))))))
  by_place place less (inl k) (inr h) =
      kept place h ∙ (p.each place less ∙ (then_in offset (offset + done) place (slice_index bytes (place - offset)) (byte_at old place) k.0 k.1
      ∙ sym (then_in offset (offset + (done + 1)) place (slice_index bytes (place - offset)) (byte_at old place) k.0 (omega (arith, k.1)))))
  by_place place less (inr k) (inr h) =
      kept place h ∙ (p.each place less ∙ (else_out offset (offset + done) place (slice_index bytes (place - offset)) (byte_at old place) k
      ∙ sym (else_out offset (offset + (done + 1)) place (slice_index bytes (place - offset)) (byte_at old place) (out k)))) where
        out : (place < offset) ⊎ (offset + done ≤ place) → (place < offset) ⊎ (offset + (done + 1) ≤ place)
        out (inl l) = inl l
        out (inr l) = inr (omega (arith, l, h))
