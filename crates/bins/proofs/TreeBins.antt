-- The index with one tree bin changed.
use Rattle.std.proofs.Common.{◌≡◌, ◌≢◌, ℕ, ◌+◌, ◌*◌, ◌<◌, inl, inr, List, sym, ap, subst, ◌∙◌, arith}
use Rattle.std.specs.Prelude.{slice_index}
use Rattle.std.specs.Int.{bit_at}
use Rattle.heap_memory.specs.declared.grant.Grant.{Grant}
use Rattle.dlmalloc_chunks.specs.Bins.{least_size, IsTreeIndex}
use Rattle.bins.specs.declared.bins.Bins.{Bins}
use Rattle.bins.specs.Index.{IsIn, first_or, last_or, from}
use Rattle.bins.specs.Rings.{AreLinked}
use Rattle.bins.specs.Tries.{IsTrie}
use Rattle.bins.specs.Linked.{AreChunks, IsSmallBin, IsTreeBin, IsLinked, low_of, levels_of}
use Rattle.bins.specs.Stores.{HasRoot}
use Rattle.bins.proofs.Frame.{linked_kept, trie_kept}
use Rattle.bins.proofs.Reindexed.{trie_reindexed}
use Rattle.bins.proofs.Chunks.{same_or_not}
use Rattle.bins.proofs.SmallBins.{in_from, least_large}
use Rattle.bins.proofs.TreeRanges.{bin_only, in_range, from_alike}

module _ {regions : List Grant} {old new : ℕ → ℕ} {bins bins' : Bins} {index index' : ℕ → List ℕ} {bin size root : ℕ}
    (linked : IsLinked regions old bins index) (in_bin : IsTreeIndex size bin) (chunks : AreChunks regions new index')
    (others : (m : ℕ) → m ≢ size → index' m ≡ index m)
    (kept : (m c k : ℕ) → IsIn c (index m) → 0 < k → 8 * k < m → 8 * k < 64 → (IsTreeIndex m bin → ⊥) → new (c + 8 * k) ≡ old (c + 8 * k))
    (trie : IsTrie new (from (least_size bin) index') bin (128 + bin) (low_of bin) (levels_of bin) root)
    (rooted : HasRoot bins bin root bins') where
  small_kept : (b : ℕ) → b < 32 → IsSmallBin new bins'.firsts bins'.lasts bins'.small_map index' b
  small_kept b within =
      let was = linked.small b within in
      let big = least_large bin in
      let reached = in_bin.reached in
      let index_is : index (8 * b) ≡ index' (8 * b) = sym (others (8 * b) (λ e. omega arith)) in
      record {
        ring = record {
          begins = ap (λ (fs : List ℕ). slice_index fs b) rooted.firsts ∙ (was.ring.begins ∙ ap (λ (cs : List ℕ). first_or (64 + b) cs) index_is);
          ends = ap (λ (ls : List ℕ). slice_index ls b) rooted.lasts ∙ (was.ring.ends ∙ ap (λ (cs : List ℕ). last_or (64 + b) cs) index_is);
          linked = subst (λ (cs : List ℕ). AreLinked new (64 + b) cs (64 + b)) index_is
              (linked_kept old new (64 + b) (index (8 * b)) (64 + b)
              (λ c is k some few. let long = (linked.chunks.each (8 * b) c is).long in
              kept (8 * b) c k is some (omega arith) (omega arith) (λ t. let r = t.reached in omega arith))
              was.ring.linked);
        };
        marked = λ some. ap (λ m. bit_at m b) rooted.small_map ∙ was.marked (λ none. some (sym index_is ∙ none));
        clear = λ none. ap (λ m. bit_at m b) rooted.small_map ∙ was.clear (index_is ∙ none);
      }

  tree_kept : (b : ℕ) → b < 32 → b ≢ bin → IsTreeBin new bins'.roots bins'.tree_map index' b
  tree_kept b within other =
      let was = linked.large b within in
      let big = least_large b in
      let stays = trie_kept old new b (from (least_size b) index) (128 + b) (low_of b) (levels_of b) (slice_index bins.roots b)
      (λ n above below c is k some few. let there = in_from (least_size b) index n c is in
      kept n c k there.0 some (omega (arith, there.1)) few (λ t. other (bin_only (in_range n b within there.1 below) t))) was.trie in
      let again = trie_reindexed new b (from (least_size b) index) (from (least_size b) index') (128 + b) (low_of b) (levels_of b) (slice_index bins.roots b)
      (λ n above below. from_alike (least_size b) index index' n (λ reached.
      others n (λ e. other (bin_only (in_range n b within reached below)
      (subst (λ m. IsTreeIndex m bin) (sym e) in_bin))))) stays in
      record {
        trie = subst (λ r. IsTrie new (from (least_size b) index') b (128 + b) (low_of b) (levels_of b) r) (sym (rooted.roots b other)) again;
        marked = λ some. rooted.map b within other ∙ was.marked (subst (λ r. 0 < r) (rooted.roots b other) some);
        clear = λ none. rooted.map b within other ∙ was.clear (sym (rooted.roots b other) ∙ none);
      }

  tree_here : IsTreeBin new bins'.roots bins'.tree_map index' bin
  tree_here = record {
    trie = subst (λ r. IsTrie new (from (least_size bin) index') bin (128 + bin) (low_of bin) (levels_of bin) r) (sym rooted.root_is) trie;
    marked = λ some. rooted.marked (subst (λ r. 0 < r) rooted.root_is some);
    clear = λ none. rooted.clear (sym rooted.root_is ∙ none);
  }

  pub tree_linked : IsLinked regions new bins' index'
  tree_linked = record {
    chunks = chunks;
    small = small_kept;
    large = λ b within. elim (same_or_not b bin) [
      | inl is ↦ subst (λ x. IsTreeBin new bins'.roots bins'.tree_map index' x) (sym is) tree_here
      | inr other ↦ tree_kept b within other
    ];
  }
