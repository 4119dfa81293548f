-- The trie of a tree bin, in the words of a call on its root.
use Rattle.std.proofs.Common.{◌≡◌, ℕ, ◌+◌, ◌-◌, ◌*◌, ◌%◌, ◌^◌, ◌<◌, ◌≤◌, ◌⊎◌, inl, inr, List, [], ◌∷◌, ◌++◌, refl, sym, ap, subst, ◌∙◌, arith}
use Rattle.std.specs.Prelude.{slice_index}
use Rattle.std.proofs.lemmas.Bool.{cases_lt}
use Rattle.heap_memory.specs.declared.grant.Grant.{Grant}
use Rattle.heap_memory.specs.Regions.{IsWordOf}
use Rattle.dlmalloc_chunks.specs.Bins.{least_size, IsTreeIndex}
use Rattle.bins.specs.declared.bins.Bins.{Bins}
use Rattle.bins.specs.Index.{IsIn, AreDistinct, removed, with_chunk, without_chunk, from}
use Rattle.bins.specs.Tries.{width, IsInRange, IsTrie}
use Rattle.bins.specs.Linked.{AreChunks, IsFreshChunk, IsLinked, OnlyLinksChange, low_of, levels_of}
use Rattle.bins.specs.Stores.{HasRoot}
use Rattle.bins.specs.Below.{IsHeld, OnlyRangeChanges, OnlyHeldChanges}
use Rattle.bins.proofs.Reindexed.{trie_reindexed}
use Rattle.bins.proofs.Lists.{with_other, minus_same, minus_other, removed_at, distinct_less, parted}
use Rattle.bins.proofs.Chunks.{same_or_not, chunk_kept, chunks_with, one_size}
use Rattle.bins.proofs.Pulled.{in_minus}
use Rattle.bins.proofs.SmallBins.{in_from, least_large}
use Rattle.bins.proofs.Opened.{none_in}
use Rattle.bins.proofs.TreeRanges.{levels_normal, levels_last, levels_few, bin_low, bin_end, end_fits, low_scaled, low_whole, in_range, from_same, from_less}
use Rattle.bins.proofs.TreeBins.{tree_linked}
use Rattle.bins.proofs.Changed.{from_changed}

pub chunks_from : {regions : List Grant} {old : ℕ → ℕ} {index : ℕ → List ℕ} (least : ℕ) → AreChunks regions old index →
    AreChunks regions old (from least index)
chunks_from {index = index} least h = record {
  each = λ n c is. h.each n c (in_from least index n c is).0;
  apart = λ n c m d c_is d_is other. h.apart n c m d (in_from least index n c c_is).0 (in_from least index m d d_is).0 other;
  once = λ n. elim (cases_lt n least) [
    | inl less ↦ subst (λ (cs : List ℕ). AreDistinct cs) (sym (from_less least index n less)) tt
    | inr more ↦ subst (λ (cs : List ℕ). AreDistinct cs) (sym (from_same least index n more)) (h.once n)
  ];
}

-- The tree bin of a size, with its root and the range of its sizes, as the calls give them.
pub record IsTop (bins : Bins) (bin size root low levels : ℕ) : Type 0 where
  pub in_bin : IsTreeIndex size bin
  pub small : size < 2 ^ 64
  pub root_is : root ≡ slice_index bins.roots bin
  pub low_is : low ≡ low_of bin
  pub levels_is : levels ≡ levels_of bin

module _ {regions : List Grant} {old : ℕ → ℕ} {bins : Bins} {index : ℕ → List ℕ} {bin size root low levels : ℕ}
    (linked : IsLinked regions old bins index) (top : IsTop bins bin size root low levels) where
  -- the index of what the trie holds
  abbrev pub top_index : ℕ → List ℕ
  top_index = from (least_size bin) index

  pub t_few : levels ≤ 61
  t_few = subst (λ n. n ≤ 61) (sym top.levels_is) (levels_few bin top.in_bin.within)

  pub t_above : low ≤ size
  t_above = subst (λ n. n ≤ size) (sym top.low_is) (bin_low top.in_bin)

  pub t_below : size < low + width levels
  t_below = let e = bin_end top.small top.in_bin in rw (top.low_is, top.levels_is) e

  pub t_fits : low + width levels ≤ 2 ^ 64
  t_fits = let e = end_fits bin top.in_bin.within in rw (top.low_is, top.levels_is) e

  pub t_range : IsInRange low levels size
  t_range = record { few = t_few; above = t_above; below = t_below; fits = t_fits }

  pub t_whole : low * 2 ^ (61 - levels) % 2 ^ 64 ≡ 0
  t_whole = let e = low_scaled bin top.in_bin.within in rw (top.low_is, top.levels_is) e

  pub t_trie : IsTrie old top_index bin (128 + bin) low levels root
  t_trie = let t = (linked.large bin top.in_bin.within).trie in rw (top.root_is, top.low_is, top.levels_is) t

  pub t_held : IsHeld regions old top_index bin (128 + bin) low levels root
  t_held = record {
    chunks = chunks_from (least_size bin) linked.chunks;
    large = λ n c is. let r = (in_from (least_size bin) index n c is).1 in let b = least_large bin in omega arith;
    trie = t_trie;
    whole = ap (λ n. n % 16) top.low_is ∙ low_whole bin;
  }

  pub t_in : (chunk : ℕ) → IsIn chunk (index size) → IsIn chunk (top_index size)
  t_in chunk is = subst (λ (cs : List ℕ). IsIn chunk cs) (sym (from_same (least_size bin) index size top.in_bin.reached)) is

  pub t_real : (chunk : ℕ) → IsIn chunk (index size) → 0 < root
  t_real chunk is = elim (same_or_not root 0) [
    | inr real ↦ omega arith
    | inl zero ↦
        absurd (subst (λ (cs : List ℕ). IsIn chunk cs) (none_in old top_index bin (128 + bin) low levels zero t_trie size t_above t_below) (t_in chunk is))
  ]

  -- ---- a chunk leaves
  module _ (chunk : ℕ) (chunk_in : IsIn chunk (index size)) (new : ℕ → ℕ) {bins' : Bins} {left : ℕ}
      (trie : IsTrie new (without_chunk size chunk top_index) bin (128 + bin) low levels left)
      (words : OnlyHeldChanges regions top_index low (low + width levels) old new)
      (rooted : HasRoot bins bin left bins') where
    word_in : (m c k : ℕ) → IsIn c (index m) → 0 < k → 8 * k < m → IsWordOf regions (c + 8 * k)
    word_in m c k c_in some few = let h = linked.chunks.each m c c_in in h.granted (c + 8 * k) (omega arith) (omega arith) (omega (arith, h.aligned))

    word_kept : (m c k : ℕ) → IsIn c (index m) → 0 < k → 8 * k < m → (k ≡ 1) ⊎ (IsTreeIndex m bin → ⊥) → new (c + 8 * k) ≡ old (c + 8 * k)
    word_kept m c k c_in some few far = words (c + 8 * k) (word_in m c k c_in some few) (λ n d a b d_is.
        let there = in_from (least_size bin) index n d d_is in
        let big = least_large bin in
        elim (same_or_not c d) [
          | inl same ↦ elim far [
            | inl head ↦ inl (omega arith)
            | inr out ↦ absurd (let one = one_size m n c linked.chunks c_in (subst (λ x. IsIn x (index n)) (sym same) there.0) in
                out (subst (λ x. IsTreeIndex x bin) (sym one) (in_range n bin top.in_bin.within there.1
                (let e = b in rw (sym top.low_is, sym top.levels_is) e))))
          ]
          | inr other ↦
              elim (linked.chunks.apart m c n d c_in there.0 other) [ inl below ↦ inl (omega arith) | inr above ↦ inr (inl (omega (arith, there.1))) ]
        ])

    once_less : (chunks : List ℕ) → IsIn chunk chunks → AreDistinct chunks → AreDistinct (removed chunk chunks)
    once_less chunks is distinct =
        let p = parted chunk chunks is in
        let d = subst (λ (cs : List ℕ). AreDistinct cs) p.is distinct in
        subst (λ (cs : List ℕ). AreDistinct cs) (sym (ap (λ (cs : List ℕ). removed chunk cs) p.is
        ∙ removed_at chunk p.front p.back d)) (distinct_less p.front chunk p.back d)

    chunks_less : AreChunks regions new (without_chunk size chunk index)
    chunks_less = record {
      each = λ m c is. let was = in_minus size chunk index m c is in let h = linked.chunks.each m c was in
          chunk_kept new (word_kept m c 1 was (omega arith) (let l = h.long in omega arith) (inl refl)) h;
      apart = λ m c n d c_is d_is other. linked.chunks.apart m c n d (in_minus size chunk index m c c_is) (in_minus size chunk index n d d_is) other;
      once = λ m. elim (same_or_not m size) [
        | inl e ↦
            subst (λ (cs : List ℕ). AreDistinct cs) (sym (ap (without_chunk size chunk index) e
            ∙ minus_same size chunk index)) (once_less (index size) chunk_in (linked.chunks.once size))
        | inr e ↦ subst (λ (cs : List ℕ). AreDistinct cs) (sym (minus_other size chunk index m e)) (linked.chunks.once m)
      ];
    }

    trie_new : IsTrie new (from (least_size bin) (without_chunk size chunk index)) bin (128 + bin) (low_of bin) (levels_of bin) left
    trie_new =
        let t = trie_reindexed new bin (without_chunk size chunk top_index) (from (least_size bin) (without_chunk size chunk index)) (128 + bin) low levels left
        (λ m a b. from_changed (removed chunk) (least_size bin) size index m top.in_bin.reached) trie in
        rw (sym top.low_is, sym top.levels_is) t

    pub t_unlinked : IsLinked regions new bins' (without_chunk size chunk index)
    t_unlinked = tree_linked linked top.in_bin chunks_less
        (λ m other. minus_other size chunk index m other) (λ m c k is some few less far. word_kept m c k is some few (inr far)) trie_new rooted

    pub t_unlinked_words : OnlyLinksChange regions index size chunk old new
    t_unlinked_words p word no_new no_old = words p word (λ n d a b d_is. no_old n d (in_from (least_size bin) index n d d_is).0)

  -- ---- a chunk comes
  pub t_deep : 0 < levels
  t_deep = elim (same_or_not bin 31) [
    | inl is ↦ (let l = levels_last is in omega arith)
    | inr not ↦ (let l = levels_normal bin not in omega arith)
  ]

  pub t_fresh : {chunk : ℕ} → IsFreshChunk regions old index size chunk → IsFreshChunk regions old top_index size chunk
  t_fresh fresh = record { is = fresh.is; apart = λ m c is. fresh.apart m c (in_from (least_size bin) index m c is).0 }

  module _ {chunk : ℕ} (fresh : IsFreshChunk regions old index size chunk) (new : ℕ → ℕ) {bins' : Bins} {left : ℕ}
      (trie : IsTrie new (with_chunk size chunk top_index) bin (128 + bin) low levels left)
      (words : OnlyRangeChanges regions top_index low (low + width levels) size chunk old new)
      (rooted : HasRoot bins bin left bins') where
    big : 256 ≤ size
    big = let l = least_large bin in let r = top.in_bin.reached in omega arith

    more_kept : (m c k : ℕ) → IsIn c (index m) → 0 < k → 8 * k < m → (k ≡ 1) ⊎ (IsTreeIndex m bin → ⊥) → new (c + 8 * k) ≡ old (c + 8 * k)
    more_kept m c k c_in some few far =
        let h = linked.chunks.each m c c_in in
        words (c + 8 * k) (h.granted (c + 8 * k) (omega arith) (omega arith) (omega (arith, h.aligned)))
        (elim (fresh.apart m c c_in) [ inl after ↦ inr (inl (omega (arith, big))) | inr before ↦ inl (omega arith) ])
        (λ n d a b d_is.
        let there = in_from (least_size bin) index n d d_is in
        let large = least_large bin in
        elim (same_or_not c d) [
          | inl same ↦ elim far [
            | inl head ↦ inl (omega arith)
            | inr out ↦ absurd (let one = one_size m n c linked.chunks c_in (subst (λ x. IsIn x (index n)) (sym same) there.0) in
                out (subst (λ x. IsTreeIndex x bin) (sym one) (in_range n bin top.in_bin.within there.1
                (let e = b in rw (sym top.low_is, sym top.levels_is) e))))
          ]
          | inr other ↦
              elim (linked.chunks.apart m c n d c_in there.0 other) [ inl below ↦ inl (omega arith) | inr above ↦ inr (inl (omega (arith, there.1))) ]
        ])

    chunk_head : new (chunk + 8) ≡ old (chunk + 8)
    chunk_head =
        let f = fresh.is in
        words (chunk + 8) (f.granted (chunk + 8) (omega arith) (omega (arith, f.long)) (omega (arith, f.aligned))) (inl (omega arith))
        (λ n d a b d_is.
        let there = in_from (least_size bin) index n d d_is in
        let large = least_large bin in
        elim (fresh.apart n d there.0) [ inl after ↦ inl (omega (arith, big)) | inr before ↦ inr (inl (omega (arith, there.1))) ])

    chunks_more : AreChunks regions new (with_chunk size chunk index)
    chunks_more = chunks_with new linked.chunks fresh
        (λ m c is. more_kept m c 1 is (omega arith) (let l = (linked.chunks.each m c is).long in omega arith) (inl refl)) chunk_head

    trie_more : IsTrie new (from (least_size bin) (with_chunk size chunk index)) bin (128 + bin) (low_of bin) (levels_of bin) left
    trie_more =
        let t = trie_reindexed new bin (with_chunk size chunk top_index) (from (least_size bin) (with_chunk size chunk index)) (128 + bin) low levels left
        (λ m a b. from_changed (λ (cs : List ℕ). cs ++ chunk ∷ []) (least_size bin) size index m top.in_bin.reached) trie in
        rw (sym top.low_is, sym top.levels_is) t

    pub t_inserted : IsLinked regions new bins' (with_chunk size chunk index)
    t_inserted = tree_linked linked top.in_bin chunks_more
        (λ m other. with_other size chunk index m other) (λ m c k is some few less far. more_kept m c k is some few (inr far)) trie_more rooted

    pub t_inserted_words : OnlyLinksChange regions index size chunk old new
    t_inserted_words p word no_new no_old = words p word no_new (λ n d a b d_is. no_old n d (in_from (least_size bin) index n d d_is).0)
