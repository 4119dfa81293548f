use Rattle.std.proofs.Common.{◌<◌, Bool, not, List, ◌++◌, length, take, drop, filter, ap, ◌∙◌, arith}
use Rattle.tlb_cache.specs.Cache.{Cache}
use Rattle.tlb_cache.specs.Covered.{is_among}
use Rattle.tlb_cache.specs.declared.entry.TlbEntry.{TlbEntry}
use Rattle.tlb_cache.proofs.Entries.{turn_next}
use Rattle.tlb_cache.proofs.tlb.Tlb.forget_each.Goals as goal

pub loop-turn-preserved : goal.loop-turn-preserved
loop-turn-preserved c =
    let s = c.args.self.now in
    let test : TlbEntry → Bool = λ entry. not (is_among c.args.run.first c.args.run.pages entry.page) in
    let below : c.loop-turn._turn < length s.entries =
    omega (arith, c.loop-turn-test.true, c.len-turn-end.ensures.len, ap (λ (cache : Cache). length cache.entries) c.self.view_is) in
    c.turn.ensures
    ∙ (ap (λ (cache : Cache). record cache { entries = drop 1 cache.entries ++ filter test (take 1 cache.entries) }) c.loop-turn.invariant
    ∙ ap (λ (entries : List TlbEntry). record s { entries = entries }) (turn_next test s.entries c.loop-turn._turn below))
