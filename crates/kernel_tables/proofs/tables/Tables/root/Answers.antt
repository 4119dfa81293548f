use Rattle.std.proofs.Common.{subst}
use Rattle.kernel_tables.specs.TableState.{TableState, IsWalkedAlike}
use Rattle.kernel_tables.proofs.Sound.{walked_alike}
use Rattle.kernel_tables.proofs.tables.Tables.root.Goals as goal

pub returns-clause-processor : goal.returns-clause-processor
returns-clause-processor c =
    subst (λ (s : TableState). IsWalkedAlike s) c.self.view_is
    (walked_alike (record {
      words = c.self.inside.memory.words;
      area = c.self.inside.memory.area;
      root = c.self.inside.root;
      free = c.self.inside.free;
      shared = c.self.inside.shared;
    }) c.self.invariant)
