use Rattle.dlmalloc.proofs.Bins.Changes.{same_settings}
use Rattle.dlmalloc.proofs.heap.Dlmalloc.set_max_release_check_rate.Goals as goal

pub returns-clause-index : goal.returns-clause-index
returns-clause-index g c = same_settings g.A.Links.regions g.A.Links.word c.args.self.now c.args.self.now.granularity
    c.args.rate c.countdown_from-self.result

pub returns-clause-linked : goal.returns-clause-linked
returns-clause-linked g c = λ b. (returns-clause-index g c b).0
