-- The index with the words of its chunks kept.
use Rattle.std.proofs.Common.{◌≡◌, ℕ, ◌+◌, ◌*◌, ◌<◌, List, ap, ◌∙◌, arith}
use Rattle.std.specs.Prelude.{slice_index}
use Rattle.heap_memory.specs.declared.grant.Grant.{Grant}
use Rattle.dlmalloc_chunks.specs.Head.{size_of}
use Rattle.dlmalloc_chunks.specs.Bins.{least_size}
use Rattle.bins.specs.declared.bins.Bins.{Bins}
use Rattle.bins.specs.Index.{IsIn, from}
use Rattle.bins.specs.Linked.{IsChunk, IsSmallBin, IsTreeBin, IsLinked, AreKept, low_of, levels_of}
use Rattle.bins.proofs.Frame.{linked_kept, trie_kept}
use Rattle.bins.proofs.SmallBins.{in_from, least_large}

module _ {regions regions' : List Grant} {old new : ℕ → ℕ} {bins : Bins} {index : ℕ → List ℕ}
    (linked : IsLinked regions old bins index) (kept : AreKept regions regions' old new index) where
  -- a word of a chunk
  word_kept : (n chunk k : ℕ) → IsIn chunk (index n) → 0 < k → 8 * k < n → 8 * k < 64 → new (chunk + 8 * k) ≡ old (chunk + 8 * k)
  word_kept n chunk k is some within few =
      let c = linked.chunks.each n chunk is in
      kept.words n chunk (chunk + 8 * k) is (omega arith) (omega arith) (omega arith)
      (c.granted (chunk + 8 * k) (omega arith) (omega arith) (omega (arith, c.aligned)))

  chunk_stays : (n chunk : ℕ) → IsIn chunk (index n) → IsChunk regions' new n chunk
  chunk_stays n chunk is =
      let c = linked.chunks.each n chunk is in
      record {
        whole = c.whole;
        long = c.long;
        aligned = c.aligned;
        low = c.low;
        high = c.high;
        head = ap size_of (word_kept n chunk 1 is (omega arith) (omega (arith, c.long)) (omega arith)) ∙ c.head;
        granted = λ at above below whole. kept.granted n chunk at is above below (c.granted at above below whole);
      }

  small_stays : (bin : ℕ) → bin < 32 → IsSmallBin new bins.firsts bins.lasts bins.small_map index bin
  small_stays bin within =
      let was = linked.small bin within in
      record {
        ring = record {
          begins = was.ring.begins;
          ends = was.ring.ends;
          linked = linked_kept old new (64 + bin) (index (8 * bin)) (64 + bin)
              (λ chunk is k some few. let long = (linked.chunks.each (8 * bin) chunk is).long in
              word_kept (8 * bin) chunk k is some (omega arith) (omega arith)) was.ring.linked;
        };
        marked = was.marked;
        clear = was.clear;
      }

  tree_stays : (bin : ℕ) → bin < 32 → IsTreeBin new bins.roots bins.tree_map index bin
  tree_stays bin within =
      let was = linked.large bin within in
      record {
        trie = trie_kept old new bin (from (least_size bin) index) (128 + bin) (low_of bin) (levels_of bin) (slice_index bins.roots bin)
            (λ n above below chunk is k some few. let there = in_from (least_size bin) index n chunk is in let large = least_large bin in
            word_kept n chunk k there.0 some (omega (arith, there.1)) few) was.trie;
        marked = was.marked;
        clear = was.clear;
      }

  pub index_stays : IsLinked regions' new bins index
  index_stays = record {
    chunks = record { each = chunk_stays; apart = linked.chunks.apart; once = linked.chunks.once };
    small = small_stays;
    large = tree_stays;
  }
