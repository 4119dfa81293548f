use Rattle.std.proofs.Common.{ℕ, List, [], ◌≡◌, ◌<◌, false, length, ap, ◌∙◌, subst, sym, ◌∷◌, ◌++◌, arith}
use Rattle.circular_buffer.specs.Buffer.{Buffer}
use Rattle.tlb_cache.specs.Cache.{Cache, cached_pages, has_page, AreOfDistinctPages}
use Rattle.tlb_cache.specs.Chains.{AreChains}
use Rattle.tlb_cache.specs.declared.entry.TlbEntry.{TlbEntry}
use Rattle.tlb_cache.proofs.Entries.{keep_room, length_pages, pages_push, distinct_push}
use Rattle.tlb_cache.proofs.tlb.Tlb.push.Goals as goal

pub invariant_of-self : goal.invariant_of-self
invariant_of-self c =
    let s = c.self.inside in
    let room : length s.ring.items < s.ring.capacity =
    omega (arith, c.requires.room, ap (λ (cache : Cache). length cache.entries) c.self.view_is, ap (λ (cache : Cache). cache.capacity) c.self.view_is) in
    let items : c.push_back.new.self.items ≡ s.ring.items ++ c.args.entry ∷ [] =
    ap (λ (b : Buffer TlbEntry). b.items) c.push_back.ensures.items ∙ keep_room s.ring.capacity s.ring.items c.args.entry room in
    let other : has_page s.ring.items c.args.entry.page ≡ false =
    ap (λ (cache : Cache). has_page cache.entries c.args.entry.page) c.self.view_is ∙ c.requires.other in
    let chains = c.push.ensures.indexes (cached_pages s.ring.items) c.self.invariant.2 (length_pages s.ring.items ∙ sym c.len.ensures.len) in
    let pages : cached_pages s.ring.items ++ c.number.result ∷ [] ≡ cached_pages c.push_back.new.self.items =
    ap (λ (page : ℕ). cached_pages s.ring.items ++ page ∷ []) c.number.ensures.value
    ∙ (sym (pages_push s.ring.items c.args.entry) ∙ ap cached_pages (sym items)) in (
      c.push.ensures.places ∙ (c.self.invariant.0 ∙ sym (ap (λ (b : Buffer TlbEntry). b.capacity) c.push_back.ensures.items)),
      subst AreOfDistinctPages (sym items) (distinct_push s.ring.items c.args.entry c.self.invariant.1 other),
      subst (λ (list : List ℕ). AreChains c.push.new.self.newest.items c.push.new.self.older.items c.push.new.self.oldest list) pages chains,
    )
