use Rattle.std.proofs.Common.{IfOk, IfErr, Some, subst}
use Rattle.std.proofs.lemmas.Result.{IfOk-weaker}
use Rattle.dlmalloc.specs.Heap.{state_of}
use Rattle.dlmalloc.specs.Outcome.{IsReallocated, IsReallocRefused}
use Rattle.sound_heap.proofs.BlockWords.{enough}
use Rattle.sound_heap.proofs.heap.Heap.realloc_aligned.Goals as goal

pub returns-clause-ok : goal.returns-clause-ok
returns-clause-ok g c =
    subst (λ heap. IfOk c.resize_aligned.result (λ to. IsReallocated g.A.Links.regions g.A.Links.word
    g.A.Allocator.zeros g.A.Links.follows (g.A.Allocator.frees heap.system) (g.A.Allocator.parts heap.system)
    (g.A.Allocator.unit heap.system) heap c.args.address c.args.held c.args.align c.args.size to
    c.resize_aligned.new.heap)) c.self.view_is c.resize_aligned.ensures.ok

pub returns-clause-enough : goal.returns-clause-enough
returns-clause-enough g c = IfOk-weaker c.resize_aligned.result _ _ (λ to out.
    enough (state_of g.A.Links.word c.resize_aligned.new.heap) to c.args.size out.given.block)
    c.resize_aligned.ensures.ok

pub returns-clause-err : goal.returns-clause-err
returns-clause-err g c =
    subst (λ heap. IfErr c.resize_aligned.result (λ error. IsReallocRefused g.A.Links.regions g.A.Links.word
    g.A.Links.follows g.A.Allocator.refuses g.A.Allocator.denies heap (Some c.args.address) c.args.align c.args.size
    error c.resize_aligned.new.heap)) c.self.view_is c.resize_aligned.ensures.err
