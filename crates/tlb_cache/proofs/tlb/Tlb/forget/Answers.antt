use Rattle.std.proofs.Common.{ℕ, List, ap, sym}
use Rattle.tlb_cache.specs.Covered.{is_among}
use Rattle.tlb_cache.specs.declared.entry.TlbEntry.{TlbEntry}
use Rattle.tlb_cache.proofs.Entries.{filter_kept}
use Rattle.tlb_cache.proofs.tlb.Tlb.forget.Goals as goal

pub returns-else-may_have : goal.returns-else-may_have
returns-else-may_have c =
    let s = c.args.self.now in
    sym (ap (λ (entries : List TlbEntry). record s { entries = entries })
    (filter_kept (λ (page : ℕ). is_among c.args.run.first c.args.run.pages page) s.entries (c.may_have.ensures c.if-may_have.false)))
