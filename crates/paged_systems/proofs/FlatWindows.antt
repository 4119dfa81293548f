-- Flat words from an address on.
use Rattle.std.proofs.Common.{◌≡◌, ℕ, ◌+◌, ◌-◌, ◌*◌, ◌%◌, ◌<◌, ◌≤◌, refl, ap, ◌∙◌, ◌⊎◌, inl, inr, arith}
use Rattle.std.proofs.lemmas.Bool.{cases_eq}
use Rattle.heap_memory.specs.Words.{IsBeside}
use Rattle.paged_systems.specs.declared.flat_window.FlatWindow.{FlatWindow}
use Rattle.paged_systems.specs.FlatWindow.{IsCovered, flat_word, IsLonger, ArePutAt}

pub longer_none : (flat : FlatWindow) → IsLonger flat flat
longer_none flat = record { base = refl; covered = λ at c. c }

pub longer_on : (x y z : FlatWindow) → IsLonger x y → IsLonger y z → IsLonger x z
longer_on x y z first second = record { base = second.base ∙ first.base; covered = λ at c. second.covered at (first.covered at c) }

pub put_none : (flat : FlatWindow) (at : ℕ) (told : ℕ → ℕ) → ArePutAt flat flat at 0 told
put_none flat at told = record { longer = longer_none flat; here = λ k m low high. absurd (omega arith); elsewhere = λ k m c out. refl }

-- behind the words that were put one more was
pub put_more : (old now next : FlatWindow) (at i : ℕ) (told : ℕ → ℕ) → at % 8 ≡ 0 → ArePutAt old now at i told →
    IsLonger now next → flat_word next (at + 8 * i) ≡ told (at + 8 * i) →
    ((k : ℕ) → k % 8 ≡ 0 → IsCovered now k → (k ≡ at + 8 * i → ⊥) → flat_word next k ≡ flat_word now k) →
    ((k : ℕ) → k % 8 ≡ 0 → at ≤ k → k < at + 8 * (i + 1) → IsCovered old k) → ArePutAt old next at (i + 1) told
put_more old now next at i told aligned put longer word other covered = record {
  longer = longer_on old now next put.longer longer;
  here = λ k m low high. inside k m low high (cases_eq k (at + 8 * i));
  elsewhere = λ k m cov out. outside k m cov out;
}
  where
    inside : (k : ℕ) → k % 8 ≡ 0 → at ≤ k → k < at + 8 * (i + 1) → (k ≡ at + 8 * i) ⊎ (k ≡ at + 8 * i → ⊥) → flat_word next k ≡ told k
    inside k m low high (inl e) = rw e word
    inside k m low high (inr ne) = other k m (put.longer.covered k (covered k m low high)) ne ∙ put.here k m low (omega arith)

    outside : (k : ℕ) → k % 8 ≡ 0 → IsCovered old k → IsBeside at (i + 1) k → flat_word next k ≡ flat_word old k
    outside k m cov (inl below) = other k m (put.longer.covered k cov) (λ e. omega arith) ∙ put.elsewhere k m cov (inl below)
    outside k m cov (inr above) = other k m (put.longer.covered k cov) (λ e. omega arith) ∙ put.elsewhere k m cov (inr (omega arith))

-- the next word to be copied stands as it did
pub next_word : (old now : FlatWindow) (from to count i : ℕ) → from % 8 ≡ 0 → ArePutAt old now to i (λ k. flat_word old (from + (k - to))) →
    (from + 8 * count ≤ to) ⊎ (to + 8 * count ≤ from) → i < count → IsCovered old (from + 8 * i) →
    flat_word now (from + 8 * i) ≡ flat_word old (from + (to + 8 * i - to))
next_word old now from to count i aligned put apart less covered =
    let place : from + 8 * i ≡ from + (to + 8 * i - to) = omega arith in
    put.elsewhere (from + 8 * i) (omega arith) covered (elim apart [ inl before ↦ inl (omega arith) | inr behind ↦ inr (omega arith) ])
    ∙ ap (λ (k : ℕ). flat_word old k) place
