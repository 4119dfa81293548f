use Rattle.paged_systems.specs.System.{paged}
use Rattle.paged_systems.proofs.Twins.{still_grants, twin_stored, flat_stored}
use Rattle.paged_systems.proofs.twin_system.TwinSystem.set_word.Goals as goal

pub set_word-requires-2-clause-covered : goal.set_word-requires-2-clause-covered
set_word-requires-2-clause-covered c = c.args.self.now.twin.covered c.args.at c.requires

pub invariant_of-self : goal.invariant_of-self
invariant_of-self c = record {
  twin = twin_stored (paged c.args.self.now.mapped) (paged c.set_word.new.self) c.args.self.now.flat c.set_word-2.new.self
      c.args.at c.args.value c.args.self.now.twin
      c.set_word.ensures.still c.set_word.ensures.stored c.set_word-2.ensures.longer c.set_word-2.ensures.here c.set_word-2.ensures.elsewhere;
}

pub returns : goal.returns
returns c = record {
  regions = still_grants (paged c.args.self.now.mapped) (paged c.set_word.new.self) c.set_word.ensures.still;
  follows = c.set_word.ensures.still;
  stored = c.set_word.ensures.stored;
  flat = flat_stored (paged c.args.self.now.mapped) c.args.self.now.flat c.set_word-2.new.self c.args.at c.args.value
      c.args.self.now.twin c.set_word-2.ensures.here c.set_word-2.ensures.elsewhere;
}
