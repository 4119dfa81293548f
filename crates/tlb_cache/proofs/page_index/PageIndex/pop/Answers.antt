use Rattle.std.proofs.Common.{ℕ, subst, sym}
use Rattle.tlb_cache.specs.Chains.{AreChains}
use Rattle.tlb_cache.proofs.Index.{popped}
use Rattle.tlb_cache.proofs.page_index.PageIndex.pop.Goals as goal

pub returns-clause-indexes : goal.returns-clause-indexes
returns-clause-indexes c = λ page pages chains.
    let s = c.args.self.now in
    subst (λ (oldest : ℕ). AreChains s.newest.items s.older.items oldest pages) (sym c.next-self.ensures.place)
    (popped s.newest.items s.older.items s.oldest page pages s.starts_within s.newest_are_places s.older_are_places chains)
