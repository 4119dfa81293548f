use Rattle.std.proofs.Common.{List, ◌∙◌, ap, sym, subst}
use Rattle.x86_instructions.specs.declared.tlb.FlushCommand.{FlushCommand}
use Rattle.paged_systems.specs.System.{paged}
use Rattle.tlb_cache.specs.Cache.{Cache, AgreesWithTables, left_by_all}
use Rattle.tlb_cache.specs.Cached.{Flushes}
use Rattle.tlb_cache.proofs.System.{left_agrees}
use Rattle.tlb_cache.proofs.cached_system.CachedSystem.unmap.Goals as goal

pub invariant_of-self-clause-agrees : goal.invariant_of-self-clause-agrees
invariant_of-self-clause-agrees c =
    let s = c.args.self.now in
    let old = paged s.system in
    let new = paged c.unmap.new.self in
    let can = c.in-Ok-unmap.ensures.can in
    let flushes : Flushes c.in-Ok.list c.args.start c.args.pages =
    subst (λ (list : List FlushCommand). Flushes list c.args.start c.args.pages) (sym (c.in-Ok.ensures.list can)) (c.in-Ok.ensures.covered can) in
    subst (λ (cache : Cache). AgreesWithTables new.words new.root cache.entries) (sym c.apply_each.ensures)
    (left_agrees old new c.args.start c.args.pages c.in-Ok.list s.tlb.entries c.in-Ok-unmap.ensures.ok flushes s.agrees)

pub returns-in-Ok-unmap-clause-unmapped : goal.returns-in-Ok-unmap-clause-unmapped
returns-in-Ok-unmap-clause-unmapped c =
    let can = c.in-Ok-unmap.ensures.can in
    let list = c.in-Ok.ensures.list can in
    record {
      can = can;
      left = c.in-Ok-unmap.ensures.ok;
      commands = list;
      covered = subst (λ (list : List FlushCommand). Flushes list c.args.start c.args.pages) (sym list) (c.in-Ok.ensures.covered can);
      flushed = c.apply_each.ensures ∙ ap (λ (list : List FlushCommand).
          record c.args.self.now.tlb { entries = left_by_all list c.args.self.now.tlb.entries }) list;
    }
