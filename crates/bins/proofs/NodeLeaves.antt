-- A node leaves the trie of its bin, by the words that name its parent and the bin.
use Rattle.std.proofs.Common.{◌≡◌, ◌≢◌, ℕ, ◌+◌, ◌*◌, ◌^◌, ◌<◌, ◌≤◌, ◌⊎◌, inl, inr, Bool, not, List, [], ◌∷◌, refl, sym, ap, subst, ◌∙◌, arith}
use Rattle.std.specs.Prelude.{slice_index}
use Rattle.std.specs.Int.{bit_at}
use Rattle.heap_memory.specs.declared.grant.Grant.{Grant}
use Rattle.heap_memory.specs.Words.{IsStored}
use Rattle.dlmalloc_chunks.specs.Bins.{least_size, IsTreeIndex}
use Rattle.bins.specs.declared.bins.Bins.{Bins}
use Rattle.bins.specs.Index.{IsIn, first_or, without_chunk, from}
use Rattle.bins.specs.Tries.{slot, width, IsTrie}
use Rattle.bins.specs.Linked.{IsLinked, OnlyLinksChange, low_of, levels_of}
use Rattle.bins.specs.Stores.{IsWordPlace, HasRoot}
use Rattle.bins.specs.Below.{IsHeld, OnlyHeldChanges, HasLeft}
use Rattle.bins.proofs.TreeRanges.{levels_few, from_same}
use Rattle.bins.proofs.Taking.{o}
use Rattle.bins.proofs.TreeEntry.{IsTop, t_above, t_below, t_held, t_in, t_real, t_unlinked, t_unlinked_words}
use Rattle.bins.proofs.OneIndex.{bin_of}
use Rattle.bins.proofs.ByParent.{IsBelow, by_parent}

-- some chunks that have this one first
first_is : (chunk : ℕ) (chunks : List ℕ) → IsIn chunk chunks → chunk ≡ first_or 0 chunks → (others : List ℕ) × (chunks ≡ chunk ∷ others)
first_is chunk [] is oldest = absurd is
first_is chunk (first ∷ others) is oldest = (others, ap (λ x. x ∷ others) (sym oldest))

-- the root of a trie names its parent and its bin
root_words : {regions : List Grant} {old : ℕ → ℕ} {index : ℕ → List ℕ} {bin parent low levels at : ℕ} → 0 < at →
    IsHeld regions old index bin parent low levels at →
    (old (at + 48) ≡ parent) × (old (at + 56) ≡ bin)
root_words some held = ((o some held).node.parent_is, (o some held).node.bin_is)

-- A node of a trie was taken out of it, and another stands in its place, or none.
pub record IsReplaced (regions : List Grant) (old mid : ℕ → ℕ) (chunk parent bin left : ℕ) : Type 0 where
  pub left_is : (own : ℕ → List ℕ) (low deep size : ℕ) → deep ≤ 61 → IsHeld regions old own bin parent low deep chunk → IsIn chunk (own size) →
      HasLeft regions old mid own bin parent low deep size chunk left

module _ {regions : List Grant} {old : ℕ → ℕ} {bins : Bins} {index : ℕ → List ℕ} (size : ℕ) {chunk : ℕ} (large : 256 ≤ size)
    (linked : IsLinked regions old bins index)
    (chunk_in : IsIn chunk (index size)) (oldest : chunk ≡ first_or 0 (index size)) where
  pub n_place : (k : ℕ) → 0 < k → 8 * k < 64 → IsWordPlace regions (chunk + 8 * k)
  n_place k some few =
      let h = linked.chunks.each size chunk chunk_in in
      record { small = omega (arith, h.high); word = h.granted (chunk + 8 * k) (omega arith) (omega arith) (omega (arith, h.aligned)) }

  pub n_some : 0 < chunk
  n_some = let l = (linked.chunks.each size chunk chunk_in).low in omega arith

  small : size < 2 ^ 64
  small = let h = (linked.chunks.each size chunk chunk_in).high in omega arith

  its_bin : (b : ℕ) × IsTreeIndex size b
  its_bin = bin_of size 31 (omega arith) (λ less. absurd (omega arith)) large

  module _ {b : ℕ} (in_bin : IsTreeIndex size b) where
    at_top : IsTop bins b size (slice_index bins.roots b) (low_of b) (levels_of b)
    at_top = record { in_bin = in_bin; small = small; root_is = refl; low_is = refl; levels_is = refl }

    top : IsHeld regions old (from (least_size b) index) b (128 + b) (low_of b) (levels_of b) (slice_index bins.roots b)
    top = t_held linked at_top

    stands : (chunk ≡ slice_index bins.roots b) ⊎ ((up : ℕ) × IsBelow regions old (from (least_size b) index) b (128 + b)
        (low_of b) (levels_of b) (slice_index bins.roots b) size chunk up)
    stands =
        let f = first_is chunk (index size) chunk_in oldest in
        by_parent regions old b size chunk f.0 (levels_of b) (omega arith)
        (t_real linked at_top chunk chunk_in) top
        (from_same (least_size b) index size in_bin.reached ∙ f.1)
        (t_above linked at_top)
        (t_below linked at_top)

    top_words : chunk ≡ slice_index bins.roots b → (old (chunk + 48) ≡ 128 + b) × (old (chunk + 56) ≡ b)
    top_words is = root_words n_some
        (subst (λ x. IsHeld regions old (from (least_size b) index) b (128 + b) (low_of b) (levels_of b) x) (sym is) top)

    bin_word : old (chunk + 56) ≡ b
    bin_word = elim stands [
      | inl is ↦ (top_words is).1
      | inr (up, below) ↦ (root_words n_some below.held).1
    ]

  -- ---- in the words of the call
  module _ {parent bin : ℕ} (parent_is : parent ≡ old (chunk + 48)) (bin_is : bin ≡ old (chunk + 56)) where
    pub n_bin : IsTreeIndex size bin
    n_bin = let b = its_bin in subst (λ x. IsTreeIndex size x) (sym (bin_is ∙ bin_word b.1)) b.1

    -- the chunk is the root of its bin's trie, or its parent is a node
    is_root : chunk ≡ slice_index bins.roots bin → parent ≡ 128 + bin
    is_root is = parent_is ∙ (top_words n_bin is).0

    place : (chunk ≡ slice_index bins.roots bin) ⊎ IsBelow regions old (from (least_size bin) index) bin (128 + bin)
        (low_of bin) (levels_of bin) (slice_index bins.roots bin) size chunk parent
    place = elim (stands n_bin) [
      | inl is ↦ inl is
      | inr (up, below) ↦
          inr (subst (λ u. IsBelow regions old (from (least_size bin) index) bin (128 + bin) (low_of bin) (levels_of bin)
          (slice_index bins.roots bin) size chunk u)
          (sym (parent_is ∙ (root_words n_some below.held).0)) below)
    ]

    root_at : parent < 4096 → chunk ≡ slice_index bins.roots bin
    root_at low = elim place [
      | inl is ↦ is
      | inr below ↦ absurd (let h = below.up_low in omega arith)
    ]

    below_at : 4096 ≤ parent →
        IsBelow regions old (from (least_size bin) index) bin (128 + bin) (low_of bin) (levels_of bin) (slice_index bins.roots bin) size chunk parent
    below_at high = elim place [
      | inl is ↦ absurd (let p = is_root is in let w = n_bin.within in omega arith)
      | inr below ↦ below
    ]

    root_held : chunk ≡ slice_index bins.roots bin → IsHeld regions old (from (least_size bin) index) bin parent (low_of bin) (levels_of bin) chunk
    root_held is = subst (λ p. IsHeld regions old (from (least_size bin) index) bin p (low_of bin) (levels_of bin) chunk) (sym (is_root is))
        (subst (λ x. IsHeld regions old (from (least_size bin) index) bin (128 + bin) (low_of bin) (levels_of bin) x) (sym is) (top n_bin))

    root_in : IsIn chunk (from (least_size bin) index size)
    root_in = t_in linked (at_top n_bin) chunk chunk_in

    few : levels_of bin ≤ 61
    few = levels_few bin n_bin.within

    pub n_held : (own : ℕ → List ℕ) × ((low : ℕ) × ((deep : ℕ) × ((size : ℕ) × ((deep ≤ 61) × (IsHeld regions old own bin
        parent low deep chunk × IsIn chunk (own size))))))
    n_held = elim place [
      | inl is ↦ (from (least_size bin) index, (low_of bin, (levels_of bin, (size, (few, (root_held is, root_in))))))
      | inr below ↦ (below.own, (below.from, (below.deep, (size, (let l = below.less in let f = few in omega arith, (below.held, below.is_in))))))
    ]

    pub n_marked : parent < 4096 → bit_at bins.tree_map bin ≡ 1
    n_marked low = (linked.large bin n_bin.within).marked (subst (λ x. 0 < x) (root_at low) n_some)

    module _ {mid : ℕ → ℕ} {left : ℕ} (replaced : IsReplaced regions old mid chunk parent bin left) where
      -- ---- the root leaves
      module _ (low : parent < 4096) {bins' : Bins} (rooted : HasRoot bins bin left bins') where
        root_trie : IsTrie mid (without_chunk size chunk (from (least_size bin) index)) bin (128 + bin) (low_of bin) (levels_of bin) left
        root_trie =
            subst (λ p. IsTrie mid (without_chunk size chunk (from (least_size bin) index)) bin p (low_of bin) (levels_of bin) left) (is_root (root_at low))
            (replaced.left_is (from (least_size bin) index) (low_of bin) (levels_of bin) size few (root_held (root_at low)) root_in).trie

        root_words_kept : OnlyHeldChanges regions (from (least_size bin) index) (low_of bin) (low_of bin + width (levels_of bin)) old mid
        root_words_kept = (replaced.left_is (from (least_size bin) index) (low_of bin) (levels_of bin) size few (root_held (root_at low)) root_in).words

        pub n_root : IsLinked regions mid bins' (without_chunk size chunk index)
        n_root = t_unlinked linked (at_top n_bin) chunk chunk_in mid root_trie root_words_kept rooted

        pub n_root_words : OnlyLinksChange regions index size chunk old mid
        n_root_words = t_unlinked_words linked (at_top n_bin) chunk chunk_in mid root_trie root_words_kept rooted

      -- ---- a node below it leaves
      module _ (high : 4096 ≤ parent) where
        abbrev u : IsBelow regions old (from (least_size bin) index) bin (128 + bin) (low_of bin) (levels_of bin) (slice_index bins.roots bin) size chunk parent
        u = below_at high

        own_trie : IsTrie mid (without_chunk size chunk u.own) bin parent u.from u.deep left
        own_trie = (replaced.left_is u.own u.from u.deep size (let l = u.less in let f = few in omega arith) u.held u.is_in).trie

        own_words : OnlyHeldChanges regions u.own u.from (u.from + width u.deep) old mid
        own_words = (replaced.left_is u.own u.from u.deep size (let l = u.less in let f = few in omega arith) u.held u.is_in).words

        pub n_places : (side : Bool) → IsWordPlace regions (parent + slot side)
        n_places = u.places

        pub n_was : (side : Bool) × ((mid (parent + slot side) ≡ chunk) × (mid (parent + slot (not side)) ≢ chunk))
        n_was = (u.side, (u.kept mid own_words u.side ∙ u.here, λ is. u.there (sym (u.kept mid own_words (not u.side)) ∙ is)))

        module _ (new : ℕ → ℕ)
            (stored : (side : Bool) → mid (parent + slot side) ≡ chunk → mid (parent + slot (not side)) ≢ chunk →
            IsStored regions mid (parent + slot side) left new) where
          there : IsStored regions mid (parent + slot u.side) left new
          there = stored u.side (u.kept mid own_words u.side ∙ u.here) (λ is. u.there (sym (u.kept mid own_words (not u.side)) ∙ is))

          -- the bins name the roots that they named
          same_root : HasRoot bins bin (slice_index bins.roots bin) bins
          same_root = record {
            root_is = refl;
            marked = (linked.large bin n_bin.within).marked;
            clear = (linked.large bin n_bin.within).clear;
            roots = λ other far. refl;
            map = λ other within far. refl;
            firsts = refl;
            lasts = refl;
            small_map = refl;
          }

          pub n_below : IsLinked regions new bins (without_chunk size chunk index)
          n_below = t_unlinked linked (at_top n_bin) chunk chunk_in new
              (u.trie mid new left own_trie own_words there) (u.words mid new left own_trie own_words there) same_root

          pub n_below_words : OnlyLinksChange regions index size chunk old new
          n_below_words = t_unlinked_words linked (at_top n_bin) chunk chunk_in new
              (u.trie mid new left own_trie own_words there) (u.words mid new left own_trie own_words there) same_root
