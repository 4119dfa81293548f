-- The newest chunk of the least small size.
use Rattle.std.proofs.Common.{◌≡◌, ◌≢◌, ℕ, ◌+◌, ◌*◌, ◌/◌, ◌%◌, ◌<◌, ◌≤◌, ◌⊎◌, inl, inr, List, [], ◌∷◌, refl, sym, ap, subst, ◌∙◌, arith}
use Rattle.std.specs.Prelude.{slice_index}
use Rattle.std.specs.Int.{bit_at}
use Rattle.heap_memory.specs.declared.grant.Grant.{Grant}
use Rattle.bins.specs.declared.bins.Bins.{Bins}
use Rattle.bins.specs.Index.{IsIn, last_or, IsNone, IsLeastFit}
use Rattle.bins.specs.Linked.{IsLinked}
use Rattle.bins.proofs.Lists.{last_in}

pub nil_or_some : (chunks : List ℕ) → (chunks ≡ []) ⊎ ((chunk : ℕ) × IsIn chunk chunks)
nil_or_some [] = inl refl
nil_or_some (x ∷ xs) = inr (x, inl refl)

last_binned : (chunks : List ℕ) → chunks ≢ [] → IsIn (last_or 0 chunks) chunks
last_binned [] some = absurd (some refl)
last_binned (x ∷ xs) some = last_in x xs

last_some : (one other : ℕ) (chunks : List ℕ) → chunks ≢ [] → last_or one chunks ≡ last_or other chunks
last_some one other [] some = absurd (some refl)
last_some one other (x ∷ xs) some = refl

module _ {regions : List Grant} {words : ℕ → ℕ} {bins : Bins} {index : ℕ → List ℕ} (linked : IsLinked regions words bins index) where
  -- no size has chunks whose bit is clear
  none_of : (n : ℕ) → n < 256 → (n % 16 ≡ 0 → bit_at bins.small_map (n / 8) ≡ 0) → index n ≡ []
  none_of n less clear = elim (nil_or_some (index n)) [
    | inl none ↦ none
    | inr (chunk, is) ↦
        let c = linked.chunks.each n chunk is in
        let size : 8 * (n / 8) ≡ n = omega (arith, c.whole) in
        let set = (linked.small (n / 8) (omega arith)).marked (λ none. absurd (subst (λ (cs : List ℕ). IsIn chunk cs) (ap index (sym size) ∙ none) is)) in
        let zero = clear c.whole in
        absurd (omega (arith, zero, set))
  ]

  pub none_small : (size from : ℕ) → 8 * from < size + 8 → ((other : ℕ) → from ≤ other → bit_at bins.small_map other ≡ 0) →
      IsNone index size 256
  none_small size from near clear n above below = none_of n below (λ whole. clear (n / 8) (omega arith))

  pub least_small : (size from bin : ℕ) → 8 * from < size + 8 → size ≤ 8 * from → from ≤ bin → bin < 32 → bit_at bins.small_map bin ≡ 1 →
      ((other : ℕ) → from ≤ other → other < bin → bit_at bins.small_map other ≡ 0) → IsLeastFit index size (slice_index bins.lasts bin)
  least_small size from bin near enough above within set clear =
      let some : index (8 * bin) ≢ [] = λ none. (let zero = (linked.small bin within).clear none in omega (arith, set, zero)) in
      let last_is : slice_index bins.lasts bin ≡ last_or 0 (index (8 * bin)) =
      (linked.small bin within).ring.ends ∙ last_some (64 + bin) 0 (index (8 * bin)) some in
      record {
        size = 8 * bin;
        enough = omega arith;
        least = λ n low high. none_of n (omega arith) (λ whole. clear (n / 8) (omega arith) (omega arith));
        binned = subst (λ chunk. IsIn chunk (index (8 * bin))) (sym last_is) (last_binned (index (8 * bin)) some);
        newest = λ small. last_is;
        oldest = λ large. absurd (omega arith);
      }

  pub none_top : (size : ℕ) → 249 ≤ size → IsNone index size 256
  none_top size high n above below = elim (nil_or_some (index n)) [
    | inl none ↦ none
    | inr (chunk, is) ↦ (let c = linked.chunks.each n chunk is in absurd (omega (arith, c.whole)))
  ]
