use Rattle.std.proofs.lemmas.Result.{IfOk-weaker}
use Rattle.sound_heap.proofs.HandedOut.{handed_plain, handed_cleared}
use Rattle.sound_heap.proofs.calls.hand_out.Goals as goal
use Rattle.sound_heap.proofs.calls.hand_out.Goals.{then-cleared, else-cleared}

pub returns-clause-ok : goal.returns-clause-ok
returns-clause-ok g c = elim c.if-cleared.branch [
  | then-cleared w ↦ rw (w.heap-is, w.answer-is) (IfOk-weaker w.calloc-answer.result _ _
      (λ address. handed_cleared g.A.Links.regions g.A.Links.word g.A.Allocator.zeros g.A.Links.follows c.args.heap.now
      w.calloc-answer.new.self c.args.size c.args.align c.requires.align c.args.cleared address w.if-cleared.true)
      w.calloc-answer.ensures.allocated)
  | else-cleared w ↦ rw (w.heap-is, w.answer-is) (IfOk-weaker w.malloc-answer.result _ _
      (λ address. handed_plain g.A.Links.regions g.A.Links.word g.A.Allocator.zeros g.A.Links.follows c.args.heap.now
      w.malloc-answer.new.self c.args.size c.args.align c.requires.align c.args.cleared address w.if-cleared.false)
      w.malloc-answer.ensures.allocated)
]

pub returns-clause-intact : goal.returns-clause-intact
returns-clause-intact g c = elim c.if-cleared.branch [
  | then-cleared w ↦ rw w.heap-is w.calloc-answer.ensures.intact
  | else-cleared w ↦ rw w.heap-is w.malloc-answer.ensures.intact
]
