use Rattle.mapped_regions.specs.Shown.{paged_view}
use Rattle.paged_systems.specs.System.{paged}
use Rattle.paged_systems.proofs.Granted.{kept_left}
use Rattle.paged_systems.proofs.WordsStay.{beside_left}
use Rattle.paged_systems.proofs.paged_system.PagedSystem.unmap.Goals as goal

pub invariant_of-self : goal.invariant_of-self
invariant_of-self c = record {
  kept = kept_left c.unmap.result (paged c.args.self.now) (paged_view c.unmap.new.self) c.args.start c.args.pages
      c.unmap.ensures.ok c.unmap.ensures.err c.args.self.now.kept c.unmap.new.self.mapped;
}

pub returns-clause-beside : goal.returns-clause-beside
returns-clause-beside c = beside_left c.unmap.result (paged c.args.self.now) (paged_view c.unmap.new.self) c.args.start
    c.args.pages c.unmap.ensures.ok c.unmap.ensures.can c.unmap.ensures.err c.args.self.now.kept
    (kept_left c.unmap.result (paged c.args.self.now) (paged_view c.unmap.new.self) c.args.start c.args.pages
    c.unmap.ensures.ok
    c.unmap.ensures.err c.args.self.now.kept c.unmap.new.self.mapped)
