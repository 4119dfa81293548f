use Rattle.heap_picture.proofs.Larges.{larges_whole}
use Rattle.heap_picture.proofs.large.larges_in.Goals as goal

pub returns-clause-value : goal.returns-clause-value
returns-clause-value c = λ s at.
    larges_whole s.large c.args.region c.from-start.result c.from.result c.saturating_sub.result c.larges_from.result
    c.from-start.ensures c.from.ensures c.saturating_sub.ensures (c.larges_from.ensures.value s at)
