use Rattle.std.proofs.Common.{◌≡◌, rules, IfOk, refl, subst}
use Rattle.std.specs.Prelude.{OnErr}
use Rattle.kernel_heap.specs.Parts.{Parts}
use Rattle.kernel_heap.specs.Registers.{cpu_after}
use Rattle.kernel_heap.specs.Steps.{HasStepped, HasNotStepped}
use Rattle.kernel_heap.proofs.Steps.{stepped, not_stepped}
use Rattle.kernel_heap.proofs.machine.Machine.step.Goals as goal

-- the root stays the frame in CR3
pub returns-in-Ok-clause-ok : goal.returns-in-Ok-clause-ok
returns-in-Ok-clause-ok c =
    let old : Parts = record { heap = c.self.inside.heap; cpu = c.self.inside.cpu } in
    let new : Parts = record { heap = c.serve-served.new.self; cpu = c.note_fault.new.cpu } in
    let call = c.args.call.now in
    let registers : IfOk c.serve-served.result (λ answer. new.cpu ≡ cpu_after old.cpu call answer.reply) = search rules in
    subst (λ (parts : Parts). IfOk c.serve-served.result (λ answer. HasStepped parts call answer new)) c.self.view_is
    (stepped old new call c.serve-served.result c.note_fault.ensures.root c.law_intact.ensures c.serve-served.ensures.ok registers)

pub returns-in_default-clause-err : goal.returns-in_default-clause-err
returns-in_default-clause-err c =
    let old : Parts = record { heap = c.self.inside.heap; cpu = c.self.inside.cpu } in
    let new : Parts = record { heap = c.serve-served.new.self; cpu = c.self.inside.cpu } in
    subst (λ (parts : Parts). OnErr c.serve-served.result (HasNotStepped parts new)) c.self.view_is
    (not_stepped old new c.args.call.now c.serve-served.result refl c.serve-served.ensures.err)
