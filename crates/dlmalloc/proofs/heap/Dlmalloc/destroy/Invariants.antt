use Rattle.dlmalloc.proofs.Names.{◌^◌, length, records_from}
use Rattle.dlmalloc.proofs.Returns.Everything.{Destroying}
use Rattle.dlmalloc.proofs.heap.Dlmalloc.destroy.Given as goal

abbrev pub invariant-loop-payload : goal.invariant-loop-payload
invariant-loop-payload g l = Destroying g.A.Links.regions g.A.Links.word g.A.Links.follows
    (g.A.Allocator.frees l.fn.self.system) l.fn.self l.payload l.released l.system

abbrev pub decreases-loop-payload : goal.decreases-loop-payload
decreases-loop-payload g l = length (records_from (g.A.Links.word l.system) (2 ^ 64) l.payload)
