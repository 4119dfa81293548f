use Rattle.std.proofs.Common.{◌≤◌, ap, ◌∙◌, arith}
use Rattle.paging_core.specs.Memory.{frame_count}
use Rattle.paged_systems.specs.System.{paged}
use Rattle.tlb_cache.proofs.Ranges.{within_frames}
use Rattle.tlb_cache.proofs.cached_system.CachedSystem.may_be_region.Goals as goal
use Rattle.tlb_cache.proofs.cached_system.CachedSystem.may_be_region.Goals.{then-pages-eq0-via-then-pages-eq0, then-pages-eq0-via-else-pages-eq0+then-pages-from}

pub returns-then-pages-eq0-clause-there : goal.returns-then-pages-eq0-clause-there
returns-then-pages-eq0-clause-there c = λ can.
    let p = paged c.args.self.now.system in
    let some = can.range.1.some in
    let few : c.args.pages ≤ frame_count p.words = within_frames p c.args.start c.args.pages c.args.self.now.system.kept.mapped can in
    elim c.then-pages-eq0.branch [
      | then-pages-eq0-via-then-pages-eq0 w ↦ absurd (omega (arith, some, w.if-pages-eq0.true))
      | then-pages-eq0-via-else-pages-eq0+then-pages-from w ↦ absurd (omega
          (arith, few, w.if-pages-from.true, w.from.ensures, w.count.ensures.count ∙ ap frame_count w.frames.ensures))
    ]
