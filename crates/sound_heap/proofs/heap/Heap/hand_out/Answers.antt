use Rattle.std.proofs.Common.{IfOk, subst}
use Rattle.sound_heap.specs.Heap.{IsBlockHandedOut}
use Rattle.sound_heap.proofs.heap.Heap.hand_out.Goals as goal

pub returns-clause-ok : goal.returns-clause-ok
returns-clause-ok g c = subst (λ heap. IfOk c.hand_out.result
    (λ address. IsBlockHandedOut g.A.Links.regions g.A.Links.word g.A.Allocator.zeros g.A.Links.follows heap c.args.size
    c.args.align c.args.cleared address c.hand_out.new.heap)) c.self.view_is c.hand_out.ensures.ok
