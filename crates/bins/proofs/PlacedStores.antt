-- The stores that make a chunk a node with children.
use Rattle.std.proofs.Common.{◌≡◌, ℕ, ◌+◌, ◌*◌, ◌<◌, inl, inr, Bool, true, false, List, ◌∙◌, arith}
use Rattle.heap_memory.specs.declared.grant.Grant.{Grant}
use Rattle.bins.specs.Tries.{slot, both}
use Rattle.bins.specs.Stores.{HasNode, HasAdopted, HasPlaced}
use Rattle.bins.specs.Places.{CanBeNode}

module _ {r : List Grant} {w0 w1 w2 w3 : ℕ → ℕ} {chunk child0 child1 parent bin : ℕ}
    (can : CanBeNode r chunk (both child0 child1))
    (node : HasNode r w0 chunk child0 child1 parent bin w1) (first : HasAdopted r w1 child0 chunk w2) (second : HasAdopted r w2 child1 chunk w3) where
  stays : (k : ℕ) → 3 < k → k < 8 → w3 (chunk + 8 * k) ≡ w1 (chunk + 8 * k)
  stays k low few =
      second.elsewhere (chunk + 8 * k) (can.own k (omega arith) few).word (λ some e. elim (can.apart true some) [ inl x ↦ omega arith | inr x ↦ omega arith ])
      ∙ first.elsewhere (chunk + 8 * k) (can.own k (omega arith) few).word (λ some e. elim (can.apart false some) [ inl x ↦ omega arith | inr x ↦ omega arith ])

  child_words : (side : Bool) → w3 (chunk + slot side) ≡ both child0 child1 side
  child_words false = stays 4 (omega arith) (omega arith) ∙ node.child0_is
  child_words true = stays 5 (omega arith) (omega arith) ∙ node.child1_is

  named : (side : Bool) → 0 < both child0 child1 side → w3 (both child0 child1 side + 48) ≡ chunk
  named false some = second.elsewhere (child0 + 48) (can.places false some).word (λ other e. can.two some other (omega arith)) ∙ first.named some
  named true some = second.named some

  pub node_placed : HasPlaced r w0 chunk (both child0 child1) parent bin w3
  node_placed = record {
    child_is = child_words;
    parent_is = stays 6 (omega arith) (omega arith) ∙ node.parent_is;
    bin_is = stays 7 (omega arith) (omega arith) ∙ node.bin_is;
    adopted = named;
    elsewhere = λ at word out no_child. second.elsewhere at word (no_child true) ∙ (first.elsewhere at word (no_child false) ∙ node.elsewhere at word out);
  }
