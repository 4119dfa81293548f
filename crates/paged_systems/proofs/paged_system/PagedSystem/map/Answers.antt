use Rattle.mapped_regions.specs.UserRegions.{user_region}
use Rattle.mapped_regions.specs.Shown.{paged_view}
use Rattle.paged_systems.specs.System.{paged}
use Rattle.paged_systems.proofs.Granted.{kept_joined}
use Rattle.paged_systems.proofs.WordsStay.{beside_joined}
use Rattle.paged_systems.proofs.paged_system.PagedSystem.map.Goals as goal

pub invariant_of-self : goal.invariant_of-self
invariant_of-self c = record {
  kept = kept_joined c.map.result (paged c.args.self.now) (paged_view c.map.new.self)
      (user_region c.args.start c.args.pages c.args.rights) c.map.ensures.ok c.map.ensures.can c.map.ensures.err
      c.args.self.now.kept c.map.new.self.mapped;
}

pub returns-clause-beside : goal.returns-clause-beside
returns-clause-beside c = beside_joined c.map.result (paged c.args.self.now) (paged_view c.map.new.self) c.args.start
    c.args.pages c.args.rights c.map.ensures.ok c.map.ensures.err c.args.self.now.kept
