-- The stores that make a leaf.
use Rattle.std.proofs.Common.{◌≡◌, ℕ, ◌+◌, ◌*◌, ◌<◌, ◌≤◌, ◌⊎◌, inl, inr, List, subst, ◌∙◌, arith}
use Rattle.heap_memory.specs.declared.grant.Grant.{Grant}
use Rattle.heap_memory.specs.Words.{IsStored}
use Rattle.bins.specs.Stores.{IsWordPlace, HasLinks, HasNode, HasLeaf}

pub made_leaf : {r r1 r2 : List Grant} {w0 w1 w2 w3 : ℕ → ℕ} {place parent bin chunk : ℕ} → r1 ≡ r → r2 ≡ r1 →
    ((k : ℕ) → 1 < k → k < 8 → IsWordPlace r (chunk + 8 * k)) → (place < chunk + 16) ⊎ (chunk + 64 ≤ place) →
    HasLinks r w0 chunk chunk chunk w1 → HasNode r1 w1 chunk 0 0 parent bin w2 → IsStored r2 w2 place chunk w3 → HasLeaf r w0 place parent bin chunk w3
made_leaf {r = r} {w1 = w1} {w2 = w2} {w3 = w3} {place = place} {parent = parent} {bin = bin} {chunk = chunk} first second own apart links node' stored' =
    let node : HasNode r w1 chunk 0 0 parent bin w2 = subst (λ (x : List Grant). HasNode x w1 chunk 0 0 parent bin w2) first node' in
    let stored : IsStored r w2 place chunk w3 = subst (λ (x : List Grant). IsStored x w2 place chunk w3) (second ∙ first) stored' in
    let stays : (k : ℕ) → 1 < k → k < 8 → w3 (chunk + 8 * k) ≡ w2 (chunk + 8 * k) =
    λ k some few. stored.elsewhere (chunk + 8 * k) (own k some few).word
    (λ e. elim apart [ inl x ↦ omega arith | inr x ↦ omega arith ]) in
    record {
      named = stored.here;
      prev = stays 2 (omega arith) (omega arith) ∙ (node.elsewhere (chunk + 16) (own 2 (omega arith) (omega arith)).word (inl (omega arith)) ∙ links.prev_is);
      next = stays 3 (omega arith) (omega arith) ∙ (node.elsewhere (chunk + 24) (own 3 (omega arith) (omega arith)).word (inl (omega arith)) ∙ links.next_is);
      child0 = stays 4 (omega arith) (omega arith) ∙ node.child0_is;
      child1 = stays 5 (omega arith) (omega arith) ∙ node.child1_is;
      parent_is = stays 6 (omega arith) (omega arith) ∙ node.parent_is;
      bin_is = stays 7 (omega arith) (omega arith) ∙ node.bin_is;
      elsewhere = λ at word not out. stored.elsewhere at word not ∙ (
          node.elsewhere at word (elim out [ inl x ↦ inl (omega arith) | inr x ↦ inr x ])
          ∙ links.elsewhere at word (elim out [ inl x ↦ inl x | inr x ↦ inr (omega arith) ]));
    }
