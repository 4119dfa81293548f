-- The next of a node's ring takes the place of the node.
use Rattle.std.proofs.Common.{◌≡◌, ◌≢◌, ℕ, ◌+◌, inl, inr, List, [], ◌∷◌, refl, sym, ap, subst, ◌∙◌}
use Rattle.bins.specs.Index.{IsIn, AreDistinct}
use Rattle.bins.specs.Rings.{IsRing}
use Rattle.bins.proofs.Lists.{last_in}
use Rattle.bins.proofs.Links.{turned_last}

-- the heir's prev word becomes the last, and the last one's next word the heir; this is right if it is alone, too
pub heir_ring : (old new : ℕ → ℕ) (at heir : ℕ) (rest : List ℕ) (first last : ℕ) → AreDistinct (heir ∷ rest) →
    IsRing old at first last (heir ∷ rest) →
    new (heir + 16) ≡ last → new (last + 24) ≡ heir →
    ((c : ℕ) → IsIn c rest → new (c + 16) ≡ old (c + 16)) → ((c : ℕ) → IsIn c (heir ∷ rest) → c ≢ last → new (c + 24) ≡ old (c + 24)) →
    IsRing new heir (new (heir + 24)) (new (heir + 16)) rest
heir_ring old new at heir [] first last distinct ring prev next prevs nexts = record {
  begins = ap (λ x. new (x + 24)) (sym ring.ends) ∙ next;
  ends = prev ∙ ring.ends;
  linked = tt;
}
heir_ring old new at heir (x ∷ xs) first last distinct ring prev next prevs nexts = record {
  begins = nexts heir (inl refl) (λ is. distinct.0 (subst (λ y. IsIn y (x ∷ xs)) (sym (is ∙ ring.ends)) (last_in x xs))) ∙ ring.linked.1;
  ends = prev ∙ ring.ends;
  linked = turned_last old new heir (x ∷ xs) at heir distinct.1 prevs
      (λ c is other. nexts c (inr is) (λ e. other (e ∙ ring.ends)))
      (λ c is same. ap (λ y. new (y + 24)) (same ∙ sym ring.ends) ∙ next) ring.linked.2;
}
