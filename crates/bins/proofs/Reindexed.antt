-- A trie of an index is one of each index that is the same in its range.
use Rattle.std.proofs.Common.{◌≡◌, ℕ, zero, suc, ◌+◌, ◌<◌, ◌≤◌, inl, inr, ◌==◌, List, [], ap, ◌∙◌}
use Rattle.std.specs.Prelude.{if◌then◌else◌}
use Rattle.bins.specs.Index.{without_size}
use Rattle.bins.specs.Tries.{low_at, width, IsNode, IsTrie}
use Rattle.bins.proofs.Frame.{in_half}

-- two indexes are the same in a range
abbrev pub AreAlike : (ℕ → List ℕ) → (ℕ → List ℕ) → ℕ → ℕ → Type 0
AreAlike old new low high = (n : ℕ) → low ≤ n → n < high → new n ≡ old n

module _ (words : ℕ → ℕ) (bin : ℕ) where
  pub node_reindexed : {old : ℕ → List ℕ} (new : ℕ → List ℕ) {parent low high at : ℕ} → AreAlike old new low high →
      IsNode words old bin parent low high at → IsNode words new bin parent low high at
  node_reindexed new alike node = record {
    size = node.size;
    others = node.others;
    child = node.child;
    some = node.some;
    above = node.above;
    below = node.below;
    chunks = alike node.size node.above node.below ∙ node.chunks;
    head = node.head;
    ring = node.ring;
    child_is = node.child_is;
    parent_is = node.parent_is;
    bin_is = node.bin_is;
  }

  pub trie_reindexed : (old new : ℕ → List ℕ) (parent low levels at : ℕ) → AreAlike old new low (low + width levels) →
      IsTrie words old bin parent low levels at → IsTrie words new bin parent low levels at
  unfolding node_reindexed
  trie_reindexed old new parent low zero at alike (none, empty) = (none, (λ n above below. alike n above below ∙ empty n above below))
  trie_reindexed old new parent low (suc levels) at alike (inl (none, empty)) = inl (none, (λ n above below. alike n above below ∙ empty n above below))
  trie_reindexed old new parent low (suc levels) at alike (inr (node, children)) = inr (
    node_reindexed new alike node,
    λ side. trie_reindexed (without_size node.size old) (without_size node.size new) at (low_at side low (width levels)) levels (node.child side)
        (λ n above below. let half = in_half side low (width levels) n above below in
        ap (λ (cs : List ℕ). if n == node.size then [] else cs) (alike n half.0 half.1)) (children side),
  )
