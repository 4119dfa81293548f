use Rattle.std.proofs.Common.{◌≡◌, not}
use Rattle.tlb_cache.specs.Covered.{is_among}
use Rattle.tlb_cache.specs.declared.entry.TlbEntry.{TlbEntry}
use Rattle.tlb_cache.proofs.Entries.{turned}
use Rattle.tlb_cache.proofs.tlb.Tlb.forget_each.Given as goal

abbrev pub invariant-loop-turn : goal.invariant-loop-turn
invariant-loop-turn l = l.self ≡ record l.initial.self {
  entries = turned
      (λ (entry : TlbEntry). not (is_among l.run.first l.run.pages entry.page)) l.initial.self.entries l._turn;
}
