use Rattle.std.proofs.Common.{refl}
use Rattle.sound_heap.proofs.heap.Heap.request.Goals as goal

pub returns-then-not-is_alignment-clause-err : goal.returns-then-not-is_alignment-clause-err
returns-then-not-is_alignment-clause-err g c = (λ power. (let is = c.is_alignment.ensures.1 power in let not_so = c.if-not-is_alignment.true in cc), refl)
