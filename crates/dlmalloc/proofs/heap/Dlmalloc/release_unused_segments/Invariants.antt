use Rattle.dlmalloc.proofs.Names.{◌+◌, ◌*◌, ◌-◌, ◌≤◌, length, segments_of, IsBinned}
use Rattle.dlmalloc.proofs.Returns.ReleasePass.{Passing}
use Rattle.dlmalloc.proofs.heap.Dlmalloc.release_unused_segments.Given as goal

abbrev pub invariant-loop-payload : goal.invariant-loop-payload
invariant-loop-payload g l = Passing g.A.Links.regions g.A.Links.word g.A.Links.follows (g.A.Allocator.frees l.fn.self.system)
    (g.A.Allocator.parts l.fn.self.system) l.fn.self l.before l.payload l.visited l.released l.self × IsBinned g.A.Links.regions g.A.Links.word l.self
    × (l.steps ≤ l.fn.steps + 512 * l.visited)

abbrev pub decreases-loop-payload : goal.decreases-loop-payload
decreases-loop-payload g l = length (segments_of g.A.Links.word l.fn.self) - l.visited
