-- A bitmap whose flags are all the same.
use Rattle.std.proofs.Common.{◌≡◌, ℕ, ◌+◌, ◌-◌, ◌/◌, ◌%◌, ◌^◌, ◌<◌, ◌≤◌, Bool, true, false, eqb, List, length, get_or, set, map, replicate, refl, sym, ◌∙◌, ◌⊎◌, inl, inr, arith, length-set}
use Rattle.std.specs.Int.{bit_at}
use Rattle.std.proofs.lemmas.Bool.{cases_lt, eq-eqb}
use Rattle.std.proofs.lemmas.List.{same_lists, get_or-set_same, get_or-set_other, get_or_past, get_or-map, length-map, get_or-replicate, length-replicate}
use Rattle.std.proofs.lemmas.Nat.Bits.{bit_at_ones, bit_at_ones_above, bit_at-zero}
use Rattle.number_set.specs.Bitmap.{flags_of, flag_at, summary_of, is_nonzero, IsBitmap, IsFullTo, length-flags_of}
use Rattle.number_set.proofs.Words.{get_or-flags_of, is_nonzero-by_bit}

pub flags_of-all : (words : List ℕ) (bound : ℕ) (value : Bool) →
    ((n : ℕ) → n < bound → flag_at words n ≡ value) → flags_of words bound ≡ replicate bound value
flags_of-all words bound value same =
    same_lists (flags_of words bound) (replicate bound value)
    (length-flags_of words bound ∙ sym (length-replicate bound value))
    (λ k d h. let lt : k < bound = omega (arith, length-flags_of words bound) in
    get_or-flags_of words bound k d lt ∙ (same k lt ∙ sym (get_or-replicate bound k value d lt)))

pub summary_of-all : (words : List ℕ) (count : ℕ) (value : Bool) → length words ≡ count →
    ((i : ℕ) → i < count → is_nonzero (get_or words i 0) ≡ value) →
    summary_of words ≡ replicate count value
unfolding summary_of
summary_of-all words count value len same =
    same_lists (map is_nonzero words) (replicate count value)
    (length-map words is_nonzero ∙ (len ∙ sym (length-replicate count value)))
    (λ k d h. let lt : k < count = omega (arith, length-map words is_nonzero) in
    get_or-map is_nonzero words k 0 d (omega arith) ∙ (same k lt ∙ sym (get_or-replicate count k value d lt)))

pub get_or-replicate_zero : (count i : ℕ) → get_or (replicate {A = ℕ} count 0) i 0 ≡ 0
get_or-replicate_zero count i = go (cases_lt i count)
  where
    go : (i < count) ⊎ (count ≤ i) → get_or (replicate {A = ℕ} count 0) i 0 ≡ 0
    go (inl lt) = get_or-replicate count i 0 0 lt
    go (inr past) = get_or_past (replicate {A = ℕ} count 0) i 0 (omega (arith, length-replicate {A = ℕ} count 0))

pub flag_at-replicate_zero : (count n : ℕ) → flag_at (replicate {A = ℕ} count 0) n ≡ false
flag_at-replicate_zero count n =
    let zero : get_or (replicate {A = ℕ} count 0) (n / 64) 0 ≡ 0 = get_or-replicate_zero count (n / 64) in
    let none : bit_at 0 (n % 64) ≡ 0 = bit_at-zero (n % 64) in
    rw (zero, none) refl

pub IsFullTo-replicate : (bound : ℕ) → bound % 64 ≡ 0 → IsFullTo (replicate ((bound + 63) / 64) (2 ^ 64 - 1)) bound
IsFullTo-replicate bound even = record {
  count = length-replicate ((bound + 63) / 64) (2 ^ 64 - 1);
  whole = λ i lt. get_or-replicate ((bound + 63) / 64) i (2 ^ 64 - 1) 0 (omega arith);
  last = get_or_past (replicate ((bound + 63) / 64) (2 ^ 64 - 1)) (bound / 64) 0 (omega (arith, length-replicate {A = ℕ} ((bound + 63) / 64) (2 ^ 64 - 1))) ∙ rw even refl;
}

pub IsFullTo-set : (bound : ℕ) → (bound % 64 ≡ 0 → ⊥) →
    IsFullTo (set (replicate ((bound + 63) / 64) (2 ^ 64 - 1)) (bound / 64) (2 ^ (bound % 64) - 1)) bound
IsFullTo-set bound odd =
    let len = length-replicate {A = ℕ} ((bound + 63) / 64) (2 ^ 64 - 1) in
    record {
      count = length-set (replicate ((bound + 63) / 64) (2 ^ 64 - 1)) (bound / 64) (2 ^ (bound % 64) - 1) ∙ len;
      whole = λ i lt. get_or-set_other (replicate ((bound + 63) / 64) (2 ^ 64 - 1)) (bound / 64) i (2 ^ (bound % 64) - 1) 0 (omega arith)
          ∙ get_or-replicate ((bound + 63) / 64) i (2 ^ 64 - 1) 0 (omega arith);
      last = get_or-set_same (replicate ((bound + 63) / 64) (2 ^ 64 - 1)) (bound / 64) (2 ^ (bound % 64) - 1) 0 (omega arith);
    }

pub flag_at-full : (words : List ℕ) (bound n : ℕ) → IsFullTo words bound → n < bound → flag_at words n ≡ true
flag_at-full words bound n full lt = go (cases_lt (n / 64) (bound / 64))
  where
    go : (n / 64 < bound / 64) ⊎ (bound / 64 ≤ n / 64) → flag_at words n ≡ true
    go (inl below) = eq-eqb (bit_at (get_or words (n / 64) 0) (n % 64)) 1 (rw (full.whole (n / 64) below) (bit_at_ones 64 (n % 64) (omega arith)))
    go (inr not_below) =
        let at : n / 64 ≡ bound / 64 = omega arith in
        eq-eqb (bit_at (get_or words (n / 64) 0) (n % 64)) 1 (rw (at, full.last) (bit_at_ones (bound % 64) (n % 64) (omega arith)))

pub IsBitmap-full : (words : List ℕ) (bound : ℕ) → IsFullTo words bound → IsBitmap words bound
IsBitmap-full words bound full = record { count = full.count; clear = λ n past. go n past (cases_lt (bound / 64) (n / 64)) }
  where
    go : (n : ℕ) → bound ≤ n → (bound / 64 < n / 64) ⊎ (n / 64 ≤ bound / 64) → flag_at words n ≡ false
    go n past (inl above) =
        let zero : get_or words (n / 64) 0 ≡ 0 = get_or_past words (n / 64) 0 (omega (arith, full.count)) in
        let none : bit_at 0 (n % 64) ≡ 0 = bit_at-zero (n % 64) in
        rw (zero, none) refl
    go n past (inr not_above) =
        let at : n / 64 ≡ bound / 64 = omega arith in
        let none : bit_at (2 ^ (bound % 64) - 1) (n % 64) ≡ 0 = bit_at_ones_above (bound % 64) (n % 64) (omega arith) in
        rw (at, full.last, none) refl

pub is_nonzero-full : (words : List ℕ) (bound i : ℕ) → IsFullTo words bound → i < (bound + 63) / 64 →
    is_nonzero (get_or words i 0) ≡ true
is_nonzero-full words bound i full lt = is_nonzero-by_bit (get_or words i 0) 0 (flag i (cases_lt i (bound / 64)) lt)
  where
    flag : (i : ℕ) → (i < bound / 64) ⊎ (bound / 64 ≤ i) → i < (bound + 63) / 64 →
        eqb (bit_at (get_or words i 0) 0) 1 ≡ true
    flag i (inl below) lt = eq-eqb (bit_at (get_or words i 0) 0) 1 (rw (full.whole i below) (bit_at_ones 64 0 (omega arith)))
    flag i (inr not_below) lt =
        let at : i ≡ bound / 64 = omega arith in
        eq-eqb (bit_at (get_or words i 0) 0) 1 (rw (at, full.last) (bit_at_ones (bound % 64) 0 (omega arith)))
