use Rattle.paged_systems.specs.System.{paged}
use Rattle.paged_systems.proofs.Twins.{still_grants, covered_run, twin_copied, flat_copied}
use Rattle.paged_systems.proofs.twin_system.TwinSystem.copy_words.Goals as goal

pub copy-requires-clause-from : goal.copy-requires-clause-from
copy-requires-clause-from c = covered_run (paged c.args.self.now.mapped) c.args.self.now.flat c.args.from c.args.count c.args.self.now.twin c.requires.source

pub copy-requires-clause-to : goal.copy-requires-clause-to
copy-requires-clause-to c = covered_run (paged c.args.self.now.mapped) c.args.self.now.flat c.args.to c.args.count c.args.self.now.twin c.requires.target

pub invariant_of-self : goal.invariant_of-self
invariant_of-self c = record {
  twin = twin_copied (paged c.args.self.now.mapped) (paged c.copy_words.new.self) c.args.self.now.flat c.copy.new.self
      c.args.from c.args.to c.args.count c.args.self.now.twin
      c.copy_words.ensures.still c.requires.source c.requires.target c.copy_words.ensures.copied c.copy.ensures;
}

pub returns : goal.returns
returns c = record {
  regions = still_grants (paged c.args.self.now.mapped) (paged c.copy_words.new.self) c.copy_words.ensures.still;
  follows = c.copy_words.ensures.still;
  copied = c.copy_words.ensures.copied;
  flat = flat_copied (paged c.args.self.now.mapped) c.args.self.now.flat c.copy.new.self c.args.from
      c.args.to c.args.count c.args.self.now.twin c.requires.target.aligned c.copy.ensures;
}
