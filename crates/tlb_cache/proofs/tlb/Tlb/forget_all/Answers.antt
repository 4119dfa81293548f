use Rattle.std.proofs.Common.{List, ap, ◌∙◌, subst, sym}
use Rattle.circular_buffer.specs.Buffer.{Buffer}
use Rattle.tlb_cache.specs.Cache.{cached_pages, AreOfDistinctPages}
use Rattle.tlb_cache.specs.Chains.{AreChains}
use Rattle.tlb_cache.specs.declared.entry.TlbEntry.{TlbEntry}
use Rattle.tlb_cache.proofs.Index.{none_chained}
use Rattle.tlb_cache.proofs.tlb.Tlb.forget_all.Goals as goal

pub invariant_of-self : goal.invariant_of-self
invariant_of-self c =
    let s = c.self.inside in
    let items = ap (λ (b : Buffer TlbEntry). b.items) c.clear.ensures in (
      c.self.invariant.0 ∙ sym (ap (λ (b : Buffer TlbEntry). b.capacity) c.clear.ensures),
      subst AreOfDistinctPages (sym items) tt,
      subst (λ (entries : List TlbEntry). AreChains s.index.newest.items s.index.older.items s.index.oldest
          (cached_pages entries)) (sym items) (none_chained _ _ _),
    )
