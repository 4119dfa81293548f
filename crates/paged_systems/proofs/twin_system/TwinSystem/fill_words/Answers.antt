use Rattle.paged_systems.specs.System.{paged}
use Rattle.paged_systems.proofs.Twins.{still_grants, covered_run, twin_filled, flat_filled}
use Rattle.paged_systems.proofs.twin_system.TwinSystem.fill_words.Goals as goal

pub fill-requires : goal.fill-requires
fill-requires c = covered_run (paged c.args.self.now.mapped) c.args.self.now.flat c.args.at c.args.count c.args.self.now.twin c.requires

pub invariant_of-self : goal.invariant_of-self
invariant_of-self c = record {
  twin = twin_filled (paged c.args.self.now.mapped) (paged c.fill_words.new.self) c.args.self.now.flat c.fill.new.self
      c.args.at c.args.count c.args.value c.args.self.now.twin
      c.fill_words.ensures.still c.fill_words.ensures.filled c.fill.ensures;
}

pub returns : goal.returns
returns c = record {
  regions = still_grants (paged c.args.self.now.mapped) (paged c.fill_words.new.self) c.fill_words.ensures.still;
  follows = c.fill_words.ensures.still;
  filled = c.fill_words.ensures.filled;
  flat = flat_filled (paged c.args.self.now.mapped) c.args.self.now.flat c.fill.new.self c.args.at
      c.args.count c.args.value c.args.self.now.twin c.fill.ensures;
}
