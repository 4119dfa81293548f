use Rattle.std.proofs.Common.{◌≡◌, [], List, not, ap, sym, ◌∙◌}
use Rattle.tlb_cache.specs.Cache.{left_by}
use Rattle.tlb_cache.specs.Covered.{covers}
use Rattle.tlb_cache.specs.declared.entry.TlbEntry.{TlbEntry}
use Rattle.tlb_cache.proofs.Entries.{filter_none}
use Rattle.tlb_cache.proofs.tlb.Tlb.apply.Goals as goal

pub returns-in-All : goal.returns-in-All
returns-in-All c =
    let s = c.args.self.now in
    let none : left_by c.args.command.now s.entries ≡ [] =
    filter_none (λ (entry : TlbEntry). not (covers c.args.command.now entry.page)) s.entries (λ entry. ap not (sym (c.in-All.ensures entry.page))) in
    c.forget_all.ensures ∙ sym (ap (λ (entries : List TlbEntry). record s { entries = entries }) none)
