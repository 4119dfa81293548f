use Rattle.std.proofs.Common.{◌+◌}
use Rattle.paged_systems.specs.System.{paged}
use Rattle.paged_systems.proofs.Twins.{twin_released}
use Rattle.paged_systems.proofs.twin_system.TwinSystemAllocator.free.Goals as goal

pub invariant_of-self : goal.invariant_of-self
invariant_of-self c = record {
  twin = twin_released (paged c.args.self.now.mapped) (paged c.free.new.self) c.args.self.now.flat c.args.at c.args.size 0
      c.args.at (c.args.at + c.args.size) c.args.self.now.twin
      (c.free.ensures.follows c.free.ensures.answer) (c.free.ensures.regions c.free.ensures.answer) c.free.ensures.words;
}
