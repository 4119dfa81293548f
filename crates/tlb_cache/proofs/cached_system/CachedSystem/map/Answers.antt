use Rattle.mapped_regions.specs.UserRegions.{user_region}
use Rattle.paged_systems.specs.System.{paged}
use Rattle.tlb_cache.proofs.System.{map_agrees, both}
use Rattle.tlb_cache.proofs.cached_system.CachedSystem.map.Goals as goal

pub invariant_of-self-clause-agrees : goal.invariant_of-self-clause-agrees
invariant_of-self-clause-agrees c =
    let s = c.args.self.now in
    map_agrees (paged s.system) (paged c.map.new.self) (user_region c.args.start c.args.pages c.args.rights) s.tlb.entries
    c.map.result c.map.ensures.ok c.map.ensures.err s.agrees

pub returns-clause-mapped : goal.returns-clause-mapped
returns-clause-mapped c = both c.map.result (λ joined can. record { can = can; joined = joined }) c.map.ensures.ok c.map.ensures.can
