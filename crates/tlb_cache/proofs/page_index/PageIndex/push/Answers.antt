use Rattle.std.proofs.Common.{◌<◌, ap, ◌∙◌, refl, length, set, sym, arith}
use Rattle.std.proofs.lemmas.List.{get_or_read}
use Rattle.tlb_cache.specs.Chains.{place_at}
use Rattle.tlb_cache.proofs.Index.{joined}
use Rattle.tlb_cache.proofs.page_index.PageIndex.push.Goals as goal

pub returns-clause-indexes : goal.returns-clause-indexes
returns-clause-indexes c = λ pages chains len_is.
    let s = c.args.self.now in
    let read = get_or_read s.newest.items c.hash-hash.result c.index.result.now c.hash-hash.ensures.below c.index.ensures 0 in
    let room : length pages < length s.older.items = omega (arith, len_is, c.requires) in
    joined s.newest.items s.older.items _ _ s.oldest c.args.page c.hash-hash.result c.place-place.result pages s.starts_within room
    c.hash-hash.ensures.hash c.hash-hash.ensures.below (c.place-place.ensures.place ∙ ap (place_at (length s.older.items) s.oldest) (sym len_is))
    refl (ap (set s.older.items c.place-place.result) read) c.place-place.ensures.within chains
