-- Words that are filled and copied in rows.
use Rattle.std.proofs.Common.{◌≡◌, ℕ, ◌+◌, ◌-◌, ◌*◌, ◌/◌, ◌%◌, ◌<◌, ◌≤◌, ◌⊎◌, inl, inr, List, length, slice_index, ◌∙◌, ap, subst, arith}
use native.Mathlib.Decide.{dec_lt}
use Rattle.heap_memory.specs.declared.grant.Grant.{Grant}
use Rattle.heap_memory.specs.Regions.{IsWordOf}
use Rattle.heap_memory.specs.Words.{AreWordsOf, AreFilled, AreCopied}
use Rattle.machine_model.specs.Machine.{Paged, OnlyHeapBytesChange}
use Rattle.paged_systems.specs.Words.{grants_of}
use Rattle.paged_systems.specs.Written.{ArePut, AreLoaded}

word_there : (regions : List Grant) (at count k : ℕ) → AreWordsOf regions at count → at ≤ k → k < at + 8 * count → k % 8 ≡ 0 → IsWordOf regions k
word_there regions at count k words from to whole = record { granted = words.granted k from to; aligned = whole }

-- behind the words that were filled, more were put that are the same
pub filled_on : (regions : List Grant) (old mid new : ℕ → ℕ) (at count done value : ℕ) (run : List ℕ) →
    AreWordsOf regions at count → done + length run ≤ count →
    ArePut regions mid (at + 8 * done) run new → ((k : ℕ) → k < length run → slice_index run k ≡ value) →
    AreFilled regions old at done value mid → AreFilled regions old at (done + length run) value new
filled_on regions old mid new at count done value run words fits put same filled = record {
  here = λ k from to whole.
      elim (dec_lt k (at + 8 * done)) [
        | yes before ↦ put.elsewhere k (word_there regions at count k words from (omega arith) whole) (inl before) ∙ filled.here k from before whole
        | no after ↦
            let aligned = words.aligned in
            let less : (k - (at + 8 * done)) / 8 < length run = omega arith in
            let place : at + 8 * done + 8 * ((k - (at + 8 * done)) / 8) ≡ k = omega arith in
            subst (λ n. new n ≡ value) place (put.here ((k - (at + 8 * done)) / 8) less ∙ same ((k - (at + 8 * done)) / 8) less)
      ];
  elsewhere = λ other word beside.
      put.elsewhere other word (elim beside [ inl low ↦ inl (omega arith) | inr high ↦ inr (omega arith) ])
      ∙ filled.elsewhere other word (elim beside [ inl low ↦ inl low | inr high ↦ inr (omega arith) ]);
}

-- behind the words that were copied, more were read and put
pub copied_on : (regions : List Grant) (old mid new : ℕ → ℕ) (from to count done : ℕ) (run : List ℕ) →
    AreWordsOf regions from count → AreWordsOf regions to count →
    (from + 8 * count ≤ to) ⊎ (to + 8 * count ≤ from) → done + length run ≤ count →
    AreLoaded mid (from + 8 * done) run → ArePut regions mid (to + 8 * done) run new →
    AreCopied regions old from to done mid → AreCopied regions old from to (done + length run) new
copied_on regions old mid new from to count done run source target apart fits loaded put copied = record {
  here = λ k small whole.
      elim (dec_lt k (8 * done)) [
        | yes before ↦
            let aligned = target.aligned in
            put.elsewhere (to + k) (word_there regions to count (to + k) target (omega arith) (omega arith) (omega arith))
            (inl (omega arith)) ∙ copied.here k before whole
        | no after ↦
            let less : (k - 8 * done) / 8 < length run = omega arith in
            let place : 8 * done + 8 * ((k - 8 * done) / 8) ≡ k = omega arith in
            subst (λ n. new (to + n) ≡ old (from + n)) place (behind ((k - 8 * done) / 8) less)
      ];
  elsewhere = λ other word beside.
      put.elsewhere other word (elim beside [ inl low ↦ inl (omega arith) | inr high ↦ inr (omega arith) ])
      ∙ copied.elsewhere other word (elim beside [ inl low ↦ inl low | inr high ↦ inr (omega arith) ]);
}
  where
    behind : (j : ℕ) → j < length run → new (to + (8 * done + 8 * j)) ≡ old (from + (8 * done + 8 * j))
    behind j less =
        let aligned = source.aligned in
        let at : to + (8 * done + 8 * j) ≡ to + 8 * done + 8 * j = omega arith in
        let back : from + 8 * done + 8 * j ≡ from + (8 * done + 8 * j) = omega arith in
        ap new at ∙ (put.here j less ∙ (loaded j less ∙ (ap mid back
        ∙ copied.elsewhere (from + (8 * done + 8 * j)) (word_there regions from count (from + (8 * done + 8 * j)) source
        (omega arith) (omega arith) (omega arith))
        (elim apart [ inl before ↦ inl (omega arith) | inr after ↦ inr (omega arith) ]))))

-- ---- in a paged system

-- what was put since, as of the regions before
pub put_since : (old mid : Paged) (before : ℕ → ℕ) (at : ℕ) (run : List ℕ) (after : ℕ → ℕ) → OnlyHeapBytesChange old mid →
    ArePut (grants_of mid) before at run after → ArePut (grants_of old) before at run after
put_since old mid before at run after still put =
    let same : grants_of mid ≡ grants_of old = ap grants_of still.others in
    subst (λ gs. ArePut gs before at run after) same put
