-- A chunk becomes the root of an empty trie.
use Rattle.std.proofs.Common.{◌≡◌, ℕ, ◌+◌, ◌-◌, ◌*◌, ◌<◌, ◌≤◌, inl, inr, true, false, List, [], ◌∷◌, ◌++◌, ap, ◌∙◌, arith}
use Rattle.heap_memory.specs.declared.grant.Grant.{Grant}
use Rattle.dlmalloc_chunks.specs.Head.{size_of}
use Rattle.bins.specs.Index.{with_chunk, without_size, IsNone}
use Rattle.bins.specs.Tries.{slot, low_at, width, IsTrie}
use Rattle.bins.specs.Linked.{IsFreshChunk}
use Rattle.bins.specs.Stores.{IsWordPlace, HasLinks, HasNode}
use Rattle.bins.specs.Below.{IsHeld, OnlyRangeChanges}
use Rattle.bins.proofs.Frame.{in_half}
use Rattle.bins.proofs.Widths.{wide}
use Rattle.bins.proofs.Lists.{with_same, with_other, without_same, without_other}
use Rattle.bins.proofs.Chunks.{same_or_not}
use Rattle.bins.proofs.Opened.{Opened, closed, none_in, empty}

module _ {regions : List Grant} {old : ℕ → ℕ} {index : ℕ → List ℕ} {bin parent low levels root size chunk : ℕ}
    (held : IsHeld regions old index bin parent low levels root) (fresh : IsFreshChunk regions old index size chunk) (big : 256 ≤ size) where
  pub r_own : (k : ℕ) → 1 < k → k < 8 → IsWordPlace regions (chunk + 8 * k)
  r_own k some few =
      let f = fresh.is in
      record { small = omega (arith, f.high); word = f.granted (chunk + 8 * k) (omega arith) (omega arith) (omega (arith, f.aligned)) }

  module _ (zero_root : root ≡ 0) (deep : 0 < levels) (above : low ≤ size) (below : size < low + width levels)
      {mid new : ℕ → ℕ} (links : HasLinks regions old chunk chunk chunk mid) (node : HasNode regions mid chunk 0 0 parent bin new) where
    none : IsNone index low (low + width levels)
    none = none_in old index bin parent low levels zero_root held.trie

    kept : (k : ℕ) → 0 < k → k < 4 → new (chunk + 8 * k) ≡ mid (chunk + 8 * k)
    kept k some few =
        let f = fresh.is in
        node.elsewhere (chunk + 8 * k) (f.granted (chunk + 8 * k) (omega arith) (omega arith) (omega (arith, f.aligned))) (inl (omega arith))

    head : new (chunk + 8) ≡ old (chunk + 8)
    head =
        let f = fresh.is in
        kept 1 (omega arith) (omega arith) ∙ links.elsewhere (chunk + 8)
        (f.granted (chunk + 8) (omega arith) (omega arith) (omega (arith, f.aligned))) (inl (omega arith))

    root_opened : Opened new (with_chunk size chunk index) bin parent low (levels - 1) chunk
    root_opened =
        let f = fresh.is in
        let w = wide levels deep in
        record {
          node = record {
            size = size;
            others = [];
            child = λ b. 0;
            some = let l = f.low in omega arith;
            above = above;
            below = omega (arith, w);
            chunks = with_same size chunk index ∙ ap (λ (cs : List ℕ). cs ++ chunk ∷ []) (none size above below);
            head = ap size_of head ∙ f.head;
            ring = record {
              begins = kept 3 (omega arith) (omega arith) ∙ links.next_is;
              ends =
                  kept 2 (omega arith) (omega arith) ∙ links.prev_is;
              linked = tt;
            };
            child_is = λ b. elim b as (λ x. new (chunk + slot x) ≡ 0) [ false ↦ node.child0_is | true ↦ node.child1_is ];
            parent_is = node.parent_is;
            bin_is = node.bin_is;
          };
          children = λ b. empty new (without_size size (with_chunk size chunk index)) bin chunk (low_at b low (width (levels - 1))) (levels - 1)
              (λ x a c. let half = in_half b low (width (levels - 1)) x a c in elim (same_or_not x size) [
                | inl e ↦ ap (without_size size (with_chunk size chunk index)) e ∙ without_same size (with_chunk size chunk index)
                | inr e ↦
                    without_other size (with_chunk size chunk index) x e ∙ (with_other size chunk index x e ∙ none x half.0 (omega (arith, half.1, w)))
              ]);
        }

    pub r_trie : IsTrie new (with_chunk size chunk index) bin parent low levels chunk
    r_trie = closed levels deep root_opened

    pub r_words : OnlyRangeChanges regions index low (low + width levels) size chunk old new
    r_words p word no_new no_old =
        node.elsewhere p word (elim no_new [ inl x ↦ inl (omega arith) | inr (inl x) ↦ inr x | inr (inr (less, x)) ↦ absurd (omega arith) ])
        ∙ links.elsewhere p word (elim no_new [ inl x ↦ inl x | inr (inl x) ↦ inr (omega arith) | inr (inr (less, x)) ↦ absurd (omega arith) ])
