use Rattle.std.proofs.Common.{ℕ, List, ◌≡◌, Some, slice_get, drop, ap, ◌∙◌, subst, sym}
use Rattle.circular_buffer.specs.Buffer.{Buffer}
use Rattle.tlb_cache.specs.Cache.{cached_pages, AreOfDistinctPages}
use Rattle.tlb_cache.specs.Chains.{AreChains}
use Rattle.tlb_cache.specs.declared.entry.TlbEntry.{TlbEntry}
use Rattle.tlb_cache.proofs.Entries.{first_page, distinct_drop}
use Rattle.tlb_cache.proofs.tlb.Tlb.pop.Goals as goal

pub invariant_of-self-2 : goal.invariant_of-self-2
invariant_of-self-2 c =
    let s = c.self.inside in
    let items = ap (λ (b : Buffer TlbEntry). b.items) c.pop_front.ensures.items in
    let capacity = ap (λ (b : Buffer TlbEntry). b.capacity) c.pop_front.ensures.items in
    let first : slice_get s.ring.items 0 ≡ Some c.in_ok-entry.entry = cc (c.pop_front.ensures.value, c.in_ok-entry.was) in
    let chains = subst (λ (pages : List ℕ). AreChains s.index.newest.items s.index.older.items s.index.oldest pages)
    (first_page s.ring.items c.in_ok-entry.entry first) c.self.invariant.2 in (
      c.pop.ensures.places ∙ (c.self.invariant.0 ∙ sym capacity),
      subst AreOfDistinctPages (sym items) (distinct_drop s.ring.items c.self.invariant.1),
      subst (λ (entries : List TlbEntry). AreChains c.pop.new.self.newest.items c.pop.new.self.older.items
          c.pop.new.self.oldest (cached_pages entries)) (sym items)
          (c.pop.ensures.indexes c.in_ok-entry.entry.page (cached_pages (drop 1 s.ring.items)) chains),
    )
