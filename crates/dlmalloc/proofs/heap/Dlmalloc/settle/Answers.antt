use Rattle.dlmalloc.proofs.Frees.Settled.{above_none, settled_counted, settled_top}
use Rattle.dlmalloc.proofs.heap.Dlmalloc.settle.Goals as goal

pub returns-then-chunk-self-clause-settled : goal.returns-then-chunk-self-clause-settled
returns-then-chunk-self-clause-settled g c = λ at around. settled_top g.A.Links.follows g.A.Links.follows_none
    (g.A.Allocator.frees c.args.self.now.system) (g.A.Allocator.parts c.args.self.now.system)
    (g.A.Allocator.unit c.args.self.now.system) c.requires.intact.sound at around c.if-chunk-self.true c.trim_above_check.new.self
    c.trim_above_check.ensures.above c.trim_above_check.ensures.same

pub returns-clause-settled : goal.returns-clause-settled
returns-clause-settled g c = λ at around. settled_counted g.A.Links.regions g.A.Links.word g.A.Links.follows (g.A.Allocator.frees c.args.self.now.system)
    (g.A.Allocator.parts c.args.self.now.system) (g.A.Allocator.unit c.args.self.now.system) c.args.self.now at c.count_free.new.self
    (above_none c.requires.intact.sound around c.if-chunk-self.false) (c.count_free.ensures.counted at around)
