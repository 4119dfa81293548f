use Rattle.dlmalloc.proofs.Bins.Changes.{same_settings}
use Rattle.dlmalloc.proofs.heap.Dlmalloc.set_granularity.Goals as goal

pub returns-then-accepted-clause-index : goal.returns-then-accepted-clause-index
returns-then-accepted-clause-index g c = same_settings g.A.Links.regions g.A.Links.word c.args.self.now c.args.granularity
    c.args.self.now.rate c.args.self.now.countdown

pub returns-else-accepted-clause-index : goal.returns-else-accepted-clause-index
returns-else-accepted-clause-index g c = same_settings g.A.Links.regions g.A.Links.word c.args.self.now c.args.self.now.granularity
    c.args.self.now.rate c.args.self.now.countdown

pub returns-then-accepted-clause-linked : goal.returns-then-accepted-clause-linked
returns-then-accepted-clause-linked g c = λ b. (returns-then-accepted-clause-index g c b).0

pub returns-else-accepted-clause-linked : goal.returns-else-accepted-clause-linked
returns-else-accepted-clause-linked g c = λ b. (returns-else-accepted-clause-index g c b).0
