use Rattle.std.proofs.Common.{◌+◌, ◌-◌, length, ap, ◌∙◌}
use Rattle.tlb_cache.specs.Cache.{Cache, has_page}
use Rattle.tlb_cache.proofs.Entries.{has_drop}
use Rattle.tlb_cache.proofs.tlb.Tlb.keep.Goals as goal

pub push-requires-clause-other : goal.push-requires-clause-other
push-requires-clause-other c =
    let s = c.args.self.now in
    ap (λ (cache : Cache). has_page cache.entries c.args.entry.page) c.make_room.ensures.left
    ∙ has_drop (length s.entries + 1 - s.capacity) s.entries c.args.entry.page c.requires
