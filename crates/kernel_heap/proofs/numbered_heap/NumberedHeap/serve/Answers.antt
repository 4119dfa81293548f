use Rattle.std.proofs.Common.{refl}
use Rattle.kernel_heap.proofs.Laid.{still_none}
use Rattle.kernel_heap.proofs.Served.{served, not_served}
use Rattle.kernel_heap.proofs.numbered_heap.NumberedHeap.serve.Goals as goal

pub returns-in-Write-clause-ok : goal.returns-in-Write-clause-ok
returns-in-Write-clause-ok c = rw (c.in-Write.is, ← c.as_slice.ensures) c.write.ensures.ok

pub returns-in-Probe-clause-ok : goal.returns-in-Probe-clause-ok
returns-in-Probe-clause-ok c = rw c.in-Probe.is (served {answer = c.probe.result} tt c.probe.ensures.reached c.probe.ensures.ok (still_none c.args.self.now.heap) (λ told top. refl))

-- a call that only looks
pub returns-in-Read-clause-err : goal.returns-in-Read-clause-err
returns-in-Read-clause-err c = not_served c.args.self.now c.args.self.now c.read.result refl refl

pub returns-in-Extents-clause-err : goal.returns-in-Extents-clause-err
returns-in-Extents-clause-err c = not_served c.args.self.now c.args.self.now c.extents.result refl refl
