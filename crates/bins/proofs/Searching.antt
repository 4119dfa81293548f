-- A search in a trie.
use Rattle.std.proofs.Common.{◌≡◌, ◌≢◌, ℕ, ◌+◌, ◌-◌, ◌*◌, ◌<◌, ◌≤◌, ◌⊎◌, inl, inr, Bool, true, false, List, ◌∷◌, refl, sym, ap, subst, ◌∙◌, arith}
use Rattle.std.proofs.lemmas.Bool.{cases_lt}
use Rattle.heap_memory.specs.declared.grant.Grant.{Grant}
use Rattle.dlmalloc_chunks.specs.Chunk.{HasHead}
use Rattle.bins.specs.declared.fit.Fit.{Fit}
use Rattle.bins.specs.Index.{IsIn, without_size, IsNone}
use Rattle.bins.specs.Tries.{slot, low_at, width, IsTrie}
use Rattle.bins.specs.Stores.{IsWordPlace}
use Rattle.bins.specs.Fits.{IsReadable, IsBestFit}
use Rattle.bins.proofs.Frame.{in_without}
use Rattle.bins.proofs.Widths.{wide}
use Rattle.bins.proofs.Opened.{Opened, opened, levels_some}
use Rattle.bins.proofs.Chunks.{chunks_without}
use Rattle.bins.proofs.Lists.{without_same, without_other, first_in}

-- ---- what is found without a node's size, and with it

module _ (index : ℕ → List ℕ) (s at : ℕ) (others : List ℕ) (chunks : index s ≡ at ∷ others) where
  pub none_up : (from high : ℕ) → s < from → IsNone (without_size s index) from high → IsNone index from high
  none_up from high before none m above below = sym (without_other s index m (λ is. omega arith)) ∙ none m above below

  pub fit_apart : {from high : ℕ} {f : Fit} → IsBestFit (without_size s index) from high f → f.size ≢ s
  fit_apart fit is = let none = ap (without_size s index) is ∙ without_same s index in let some = fit.oldest in cc

  pub fit_up : {from high : ℕ} {f : Fit} → IsBestFit (without_size s index) from high f → (s < from) ⊎ (f.size < s) → IsBestFit index from high f
  fit_up {from = from} {high = high} {f = f} fit outside = record {
    above = fit.above;
    below = fit.below;
    least = λ m above below. sym (without_other s index m (λ is. elim outside
        [ inl before ↦ omega arith | inr behind ↦ omega arith ])) ∙ fit.least m above below;
    others = fit.others;
    oldest = sym (without_other s index f.size (fit_apart fit)) ∙ fit.oldest;
  }

  pub own_fit : (from high : ℕ) (own : Fit) → own.size ≡ s → own.chunk ≡ at → from ≤ s → s < high →
      IsNone (without_size s index) from s → IsBestFit index from high own
  own_fit from high own size_is chunk_is above below none = record {
    above = omega arith;
    below = omega arith;
    least = λ m low less. sym (without_other s index m (λ is. omega arith)) ∙ none m low (omega arith);
    others = others;
    oldest = ap index size_is ∙ (chunks ∙ ap (λ c. c ∷ others) (sym chunk_is));
  }

-- ---- halves

pub fit_wider : {index : ℕ → List ℕ} {from high : ℕ} (high' : ℕ) {f : Fit} → high ≤ high' → IsBestFit index from high f →
    IsBestFit index from high' f
fit_wider high' wider fit = record { above = fit.above; below = omega (arith, fit.below); least = fit.least; others = fit.others; oldest = fit.oldest }

pub fit_behind : {index : ℕ → List ℕ} (from : ℕ) {middle high : ℕ} {f : Fit} → from ≤ middle → IsNone index from middle →
    IsBestFit index middle high f → IsBestFit index from high f
fit_behind from {middle = middle} before none fit = record {
  above = omega (arith, fit.above);
  below = fit.below;
  least = λ m above below. elim (cases_lt m middle) [ inl less ↦ none m above less | inr more ↦ fit.least m more below ];
  others = fit.others;
  oldest = fit.oldest;
}

pub none_both : (index : ℕ → List ℕ) (from middle high : ℕ) → IsNone index from middle → IsNone index middle high → IsNone index from high
none_both index from middle high one two m above below = elim (cases_lt m middle) [ inl less ↦ one m above less | inr more ↦ two m more below ]

pub high_fits : (side : Bool) (low half : ℕ) → low_at side low half + half ≤ low + 2 * half
high_fits false low half = omega arith
high_fits true low half = omega arith

pub upper_high : (side : Bool) (low half : ℕ) → side ≡ true → low_at side low half + half ≡ low + 2 * half
upper_high false low half is = absurd (cc)
upper_high true low half is = omega arith

pub lower_high : (side : Bool) (low half : ℕ) → side ≡ false → low_at side low half + half ≡ low + half
lower_high false low half is = refl
lower_high true low half is = absurd (cc)

-- ---- a search at a node
module _ {regions : List Grant} {old : ℕ → ℕ} {index : ℕ → List ℕ} {low levels at : ℕ} (some : 0 < at)
    (r : IsReadable regions old index low levels at) where
  pub s_levels : 0 < levels
  s_levels = levels_some old index r.bin r.parent low levels at some r.trie

  pub q : Opened old index r.bin r.parent low (levels - 1) at
  q = opened old index r.bin r.parent low levels at some r.trie

  at_in : IsIn at (index q.node.size)
  at_in = first_in q.node.chunks

  pub s_head : HasHead regions at
  s_head = let c = r.chunks.each q.node.size at at_in in record {
    aligned = omega (arith, c.aligned);
    small = omega (arith, c.high, c.long);
    granted = c.granted (at + 8) (omega arith) (omega (arith, c.long)) (omega (arith, c.aligned));
  }

  pub s_slot : (side : Bool) → IsWordPlace regions (at + slot side)
  s_slot side =
      let c = r.chunks.each q.node.size at at_in in let l = r.large q.node.size at at_in in
      elim side as (λ b. IsWordPlace regions (at + slot b)) [
        | false ↦ record { small = omega (arith, c.high); word = c.granted (at + 32) (omega arith) (omega arith) (omega (arith, c.aligned)) }
        | true ↦ record { small = omega (arith, c.high); word = c.granted (at + 40) (omega arith) (omega arith) (omega (arith, c.aligned)) }
      ]

  pub s_high : low + 2 * width (levels - 1) ≡ low + width levels
  s_high = ap (λ w. low + w) (sym (wide levels s_levels))

  pub s_trie : (side : Bool) {child half : ℕ} → child ≡ old (at + slot side) → half ≡ width (levels - 1) →
      IsTrie old (without_size q.node.size index) r.bin at (low_at side low half) (levels - 1) child
  s_trie side {child = child} child_is half_is =
      subst (λ h. IsTrie old (without_size q.node.size index) r.bin at (low_at side low h) (levels - 1) child) (sym half_is)
      (subst (λ x. IsTrie old (without_size q.node.size index) r.bin at (low_at side low (width (levels - 1))) (levels - 1)
      x) (sym (child_is ∙ q.node.child_is side)) (q.children side))

  pub s_child : (side : Bool) {child half : ℕ} → child ≡ old (at + slot side) → half ≡ width (levels - 1) →
      IsReadable regions old (without_size q.node.size index) (low_at side low half) (levels - 1) child
  s_child side {child = child} {half = half} child_is half_is = record {
    bin = r.bin;
    parent = at;
    chunks = chunks_without q.node.size r.chunks;
    large = λ m c is. r.large m c (in_without q.node.size index m c is);
    trie = s_trie side child_is half_is;
  }
