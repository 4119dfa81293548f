use Rattle.std.proofs.Common.{◌≡◌, ℕ, ◌+◌, ◌<◌, ◌≤◌, length, slice_index}
use Rattle.tlb_cache.specs.Cache.{cached_pages}
use Rattle.tlb_cache.specs.Chains.{hash_of}
use Rattle.tlb_cache.specs.PageIndex.{hash_at}
use Rattle.tlb_cache.proofs.tlb.find.Given as goal

abbrev pub invariant-loop-count : goal.invariant-loop-count
invariant-loop-count l = record {
  within : l.count ≤ length (cached_pages l.ring.items);
  past : (age : ℕ) → age < length (cached_pages l.ring.items) → slice_index (cached_pages l.ring.items) age ≡ l.page → age < l.count;
  own : (last age : ℕ) → l.count ≡ last + 1 → age < length (cached_pages l.ring.items) →
      slice_index (cached_pages l.ring.items) age ≡ l.page → hash_at l.index (cached_pages l.ring.items) last ≡ hash_of
      (length l.index.newest.items) l.page;
}

abbrev pub decreases-loop-count : goal.decreases-loop-count
decreases-loop-count l = l.count
