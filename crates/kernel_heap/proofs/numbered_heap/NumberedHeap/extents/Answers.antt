use Rattle.std.proofs.Common.{refl}
use Rattle.kernel_heap.proofs.Listed.{step_listed}
use Rattle.kernel_heap.proofs.Served.{served}
use Rattle.kernel_heap.proofs.numbered_heap.NumberedHeap.extents.Goals as goal

pub returns : goal.returns
returns c = record {
  ok = served tt tt (λ top s good stands. step_listed c.args.self.now.heap c.law_intact.ensures.sound c.args.self.now.blocks.items
      c.requires.sound s good stands c.in_ok-extents.field-0 c.in_ok-extents.ensures)
      (refl, c.in_ok-extents.ensures) (λ told top. refl);
}
