-- Words that are filled and copied one after the other.
use Rattle.std.proofs.Common.{◌≡◌, ℕ, ◌+◌, ◌*◌, ◌<◌, ◌≤◌, ◌⊎◌, inl, inr, List, refl, sym, ◌∙◌, ap, arith}
use native.Mathlib.Decide.{dec_lt}
use Rattle.heap_memory.specs.declared.grant.Grant.{Grant}
use Rattle.heap_memory.specs.Regions.{IsWordOf}
use Rattle.heap_memory.specs.Words.{IsStored, AreWordsOf, AreFilled, AreCopied}

pub word_of_run : (regions : List Grant) (at count i : ℕ) → AreWordsOf regions at count → i < count → IsWordOf regions (at + 8 * i)
word_of_run regions at count i words less = record {
  granted = words.granted (at + 8 * i) (omega arith) (omega arith);
  aligned = let aligned = words.aligned in omega arith;
}

pub filled_none : (regions : List Grant) (words : ℕ → ℕ) (at value : ℕ) → AreFilled regions words at 0 value words
filled_none regions words at value = record {
  here = λ k from to whole. absurd (omega arith);
  elsewhere = λ other word beside. refl;
}

pub filled_more : (regions : List Grant) (old mid new : ℕ → ℕ) (at count i value : ℕ) → AreWordsOf regions at count → i < count →
    AreFilled regions old at i value mid → IsStored regions mid (at + 8 * i) value new → AreFilled regions old at (i + 1) value new
filled_more regions old mid new at count i value words less filled stored = record {
  here = λ k from to whole.
      elim (dec_lt k (at + 8 * i)) [
        | yes before ↦
            let is : IsWordOf regions k = record { granted = words.granted k from (omega arith); aligned = whole } in
            stored.elsewhere k is (λ same. let e : k ≡ at + 8 * i = same in absurd (omega arith)) ∙ filled.here k from before whole
        | no after ↦
            let aligned = words.aligned in
            let same : k ≡ at + 8 * i = omega arith in
            ap new same ∙ stored.here
      ];
  elsewhere = λ other word beside.
      stored.elsewhere other word (λ same. let e : other ≡ at + 8 * i = same in elim beside [ inl low ↦ absurd (omega arith) | inr high ↦ absurd (omega arith) ])
      ∙ filled.elsewhere other word (elim beside [ inl low ↦ inl low | inr high ↦ inr (omega arith) ]);
}

pub copied_none : (regions : List Grant) (words : ℕ → ℕ) (from to : ℕ) → AreCopied regions words from to 0 words
copied_none regions words from to = record {
  here = λ k less whole. absurd (omega arith);
  elsewhere = λ other word beside. refl;
}

pub copied_more : (regions : List Grant) (old mid new : ℕ → ℕ) (from to count i : ℕ) → AreWordsOf regions from count → AreWordsOf regions to count →
    (from + 8 * count ≤ to) ⊎ (to + 8 * count ≤ from) → i < count →
    AreCopied regions old from to i mid → IsStored regions mid (to + 8 * i) (mid (from + 8 * i)) new → AreCopied regions old from to (i + 1) new
copied_more regions old mid new from to count i source words apart less copied stored = record {
  here = λ k small whole.
      elim (dec_lt k (8 * i)) [
        | yes before ↦
            let aligned = words.aligned in
            let is : IsWordOf regions (to + k) = record { granted = words.granted (to + k) (omega arith) (omega arith); aligned = omega arith } in
            stored.elsewhere (to + k) is (λ same. let e : to + k ≡ to + 8 * i = same in absurd (omega arith)) ∙ copied.here k before whole
        | no after ↦
            let same : k ≡ 8 * i = omega arith in
            ap (λ (n : ℕ). new (to + n)) same ∙ (stored.here ∙ (still ∙ ap (λ (n : ℕ). old (from + n)) (sym same)))
      ];
  elsewhere = λ other word beside.
      stored.elsewhere other word (λ same. let e : other ≡ to + 8 * i = same in elim beside [ inl low ↦ absurd (omega arith) | inr high ↦ absurd (omega arith) ])
      ∙ copied.elsewhere other word (elim beside [ inl low ↦ inl low | inr high ↦ inr (omega arith) ]);
}
  where
    still : mid (from + 8 * i) ≡ old (from + 8 * i)
    still = copied.elsewhere (from + 8 * i) (word_of_run regions from count i source less)
        (elim apart [ inl before ↦ inl (omega arith) | inr behind ↦ inr (omega arith) ])
