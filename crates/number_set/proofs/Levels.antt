-- A bitmap and the level above it.
use Rattle.std.proofs.Common.{◌≡◌, ℕ, ◌/◌, ◌<◌, ◌≤◌, Bool, true, false, List, length, get_or, Option, Some, None, MatchOption, ap, ◌⊎◌, inl, inr, arith}
use Rattle.std.specs.Option.{IfNone, IfSome}
use Rattle.std.proofs.lemmas.Bool.{cases_lt}
use Rattle.number_set.specs.Bitmap.{flags_of, summary_of, IsBitmap, length-flags_of, length-summary_of}
use Rattle.number_set.specs.Numbers.{HasNoNumber, IsLowest}
use Rattle.number_set.proofs.Words.{flags_of-no_summary, summary_of-past}

-- a number of the set is below the bitmap's bound
pub number_within : (words : List ℕ) (bound number : ℕ) (flags : List Bool) → flags_of words bound ≡ flags →
    number < length flags → number < bound
number_within words bound number flags is lt = omega (arith, ap length is, length-flags_of words bound)

-- the number of its word is one of the level above
pub word_within : (words : List ℕ) (bound number : ℕ) (above : List Bool) → IsBitmap words bound →
    above ≡ summary_of words → number < bound → number / 64 < length above
word_within words bound number above bitmap is lt = omega (arith, bitmap.count, ap length is, length-summary_of words)

-- the level above has fewer flags
pub above_shorter : (words : List ℕ) (bound : ℕ) (flags above : List Bool) → IsBitmap words bound →
    flags_of words bound ≡ flags → above ≡ summary_of words → 64 < bound → length above < length flags
above_shorter words bound flags above bitmap is above_is large =
    omega (arith, bitmap.count, ap length is, ap length above_is, length-flags_of words bound, length-summary_of words)

-- no word has a bit, so no number is in the set
pub HasNoNumber-summary : (words : List ℕ) (bound : ℕ) → IsBitmap words bound →
    HasNoNumber (summary_of words) → HasNoNumber (flags_of words bound)
HasNoNumber-summary words bound bitmap none n = flags_of-no_summary words bound n bitmap (none (n / 64))

-- the same of a bitmap of one word
pub HasNoNumber-one_word : (words : List ℕ) (bound : ℕ) → IsBitmap words bound → bound ≤ 64 →
    get_or (summary_of words) 0 false ≡ false → HasNoNumber (flags_of words bound)
HasNoNumber-one_word words bound bitmap small none = HasNoNumber-summary words bound bitmap (λ i. go i (cases_lt 0 i))
  where
    go : (i : ℕ) → (0 < i) ⊎ (i ≤ 0) → get_or (summary_of words) i false ≡ false
    go i (inl above) = summary_of-past words i (omega (arith, bitmap.count))
    go i (inr zero) = let is : i ≡ 0 = omega arith in rw is none

-- the lowest flag of the lowest word that has one
pub lowest_from : (words : List ℕ) (bound index : ℕ) (result : Option ℕ) → IsBitmap words bound →
    IfNone result (get_or (summary_of words) index false ≡ false) →
    IfSome result (λ n. get_or (flags_of words bound) n false ≡ true) →
    IfSome result (λ n. n / 64 ≡ index) →
    IfSome result (λ n. (k : ℕ) → k < n → k / 64 ≡ index → get_or (flags_of words bound) k false ≡ false) →
    ((i : ℕ) → i < index → get_or (summary_of words) i false ≡ false) →
    (get_or (summary_of words) index false ≡ false → HasNoNumber (flags_of words bound)) →
    MatchOption result (HasNoNumber (flags_of words bound)) (IsLowest (flags_of words bound))
lowest_from words bound index None bitmap none _ _ _ _ rest = rest none
lowest_from words bound index (Some n) bitmap _ contained word lowest earlier _ = record {
  contained = contained;
  lowest = λ k lt. go k lt (cases_lt (k / 64) index);
}
  where
    go : (k : ℕ) → k < n → (k / 64 < index) ⊎ (index ≤ k / 64) → get_or (flags_of words bound) k false ≡ false
    go k lt (inl before) = flags_of-no_summary words bound k bitmap (earlier (k / 64) before)
    go k lt (inr not_before) = lowest k lt (omega arith)
