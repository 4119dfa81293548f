use Rattle.dlmalloc.proofs.Names.{◌^◌, length, records_from}
use Rattle.dlmalloc.proofs.Grants.SegmentBehind.{PassedBehind}
use Rattle.dlmalloc.proofs.heap.Dlmalloc.find_behind.Given as goal

abbrev pub invariant-loop-payload : goal.invariant-loop-payload
invariant-loop-payload g l = PassedBehind g.A.Links.word l.self l.grant l.payload

abbrev pub decreases-loop-payload : goal.decreases-loop-payload
decreases-loop-payload g l = length (records_from (g.A.Links.word l.self.system) (2 ^ 64) l.payload)
