-- A trie gets another parent.
use Rattle.std.proofs.Common.{◌≡◌, ◌≢◌, ℕ, zero, suc, ◌+◌, ◌*◌, ◌<◌, ◌≤◌, inl, inr, true, false, List, ◌∷◌, refl, sym, ap, subst, ◌∙◌, arith}
use Rattle.heap_memory.specs.declared.grant.Grant.{Grant}
use Rattle.dlmalloc_chunks.specs.Head.{size_of}
use Rattle.bins.specs.Index.{IsIn, AreDistinct, without_size}
use Rattle.bins.specs.Tries.{slot, low_at, width, IsNode, IsTrie}
use Rattle.bins.specs.Linked.{AreChunks}
use Rattle.bins.proofs.Frame.{linked_kept, trie_kept, in_without, in_half}
use Rattle.bins.proofs.Lists.{first_in}
use Rattle.bins.proofs.Chunks.{size_apart}

module _ {regions : List Grant} {old : ℕ → ℕ} (new : ℕ → ℕ) {index : ℕ → List ℕ} (bin parent parent' : ℕ)
    (chunks : AreChunks regions old index) where
  adopted_node : {low high at : ℕ} →
      ((m c : ℕ) → low ≤ m → m < high → IsIn c (index m) → (k : ℕ) → 0 < k → 8 * k < 64 → (c ≡ at → k ≢ 6) → new (c + 8 * k) ≡ old (c + 8 * k)) →
      new (at + 48) ≡ parent' → IsNode old index bin parent low high at → IsNode new index bin parent' low high at
  adopted_node {at = at} kept named d =
      let in_index : (c : ℕ) → IsIn c (at ∷ d.others) → IsIn c (index d.size) = λ c is. subst (λ (cs : List ℕ). IsIn c cs) (sym d.chunks) is in
      let once : AreDistinct (at ∷ d.others) = subst (λ (cs : List ℕ). AreDistinct cs) d.chunks (chunks.once d.size) in
      let word : (k : ℕ) → 0 < k → 8 * k < 64 → k ≢ 6 → new (at + 8 * k) ≡ old (at + 8 * k) =
      λ k some few not. kept d.size at d.above d.below (in_index at (inl refl)) k some few (λ e. not) in
      record {
        size = d.size;
        others = d.others;
        child = d.child;
        some = d.some;
        above = d.above;
        below = d.below;
        chunks = d.chunks;
        head = ap size_of (word 1 (omega arith) (omega arith) (λ e. omega arith)) ∙ d.head;
        ring = record {
          begins = word 3 (omega arith) (omega arith) (λ e. omega arith) ∙ d.ring.begins;
          ends = word 2 (omega arith) (omega arith) (λ e. omega arith) ∙ d.ring.ends;
          linked = linked_kept old new at d.others at (λ c is k some few. kept d.size c d.above d.below (in_index c (inr is)) k some (omega arith)
              (λ same. absurd (once.0 (subst (λ x. IsIn x d.others) same is)))) d.ring.linked;
        };
        child_is = λ side. elim side as (λ s. new (at + slot s) ≡ d.child s) [
          | false ↦ word 4 (omega arith) (omega arith) (λ e. omega arith) ∙ d.child_is false
          | true ↦ word 5 (omega arith) (omega arith) (λ e. omega arith) ∙ d.child_is true
        ];
        parent_is = named;
        bin_is = word 7 (omega arith) (omega arith) (λ e. omega arith) ∙ d.bin_is;
      }

  pub adopted : (low n at : ℕ) →
      ((m c : ℕ) → low ≤ m → m < low + width n → IsIn c (index m) → (k : ℕ) → 0 < k → 8 * k < 64 → (c ≡ at → k ≢ 6) → new (c + 8 * k) ≡ old (c + 8 * k)) →
      (0 < at → new (at + 48) ≡ parent') → IsTrie old index bin parent low n at → IsTrie new index bin parent' low n at
  unfolding adopted_node
  adopted low zero at kept named h = h
  adopted low (suc n) at kept named (inl none) = inl none
  adopted low (suc n) at kept named (inr (d, children)) = inr (
    adopted_node kept (named d.some) d,
    λ side. trie_kept old new bin (without_size d.size index) at (low_at side low (width n)) n (d.child side)
        (λ m a b c is k some few. let half = in_half side low (width n) m a b in
        kept m c half.0 half.1 (in_without d.size index m c is) k some few
        (λ same. absurd (size_apart chunks d.size m c at is (first_in d.chunks) same))) (children side),
  )
