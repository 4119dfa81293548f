use Rattle.dlmalloc.proofs.Returns.Idle.{idle_handed_out}
use Rattle.dlmalloc.proofs.heap.Dlmalloc.law_idle_segments_returned.Goals as goal

pub returns : goal.returns
returns g c = idle_handed_out c.requires (g.A.Allocator.parts c.args.self.now.system)
