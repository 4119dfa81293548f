use Rattle.std.proofs.Common.{rules, None, ap, subst, sym}
use Rattle.dlmalloc.specs.State.{HeapState}
use Rattle.machine_model.specs.declared.call.Call.TheVariants.{SetRate}
use Rattle.machine_model.specs.declared.answer.Reply.TheVariants.{Done}
use Rattle.machine_model.specs.Machine.{Seen, IsStep}
use Rattle.machine_model.proofs.Settings.{step_rate}
use Rattle.kernel_heap.specs.Machine.{seen_with}
use Rattle.kernel_heap.proofs.Served.{served}
use Rattle.kernel_heap.proofs.SettingChanges.{seen_set, laid_set}
use Rattle.kernel_heap.proofs.numbered_heap.NumberedHeap.set_rate.Goals as goal

pub returns-clause-sound : goal.returns-clause-sound
returns-clause-sound c =
    let is = c.set_release_rate.ensures in
    laid_set c.args.self.now.heap c.set_release_rate.new.self c.args.self.now.blocks.items is.system c.requires.sound
    (ap (λ (h : HeapState). h.segments) is.state)

pub returns-clause-ok : goal.returns-clause-ok
returns-clause-ok c =
    let is = c.set_release_rate.ensures in
    served tt tt (λ top s good stands.
    subst (λ (m : Seen). IsStep s (SetRate c.args.rate) (record { reply = Done; regions = None; large = None }) m)
    (sym (seen_set c.args.self.now.heap c.set_release_rate.new.self c.args.self.now.blocks.items is.system top
    c.args.self.now.heap.granularity (ap (λ (h : HeapState). h.granularity) is.state)))
    (step_rate (seen_with top c.args.self.now) s c.args.rate good stands))
    (search rules) (λ same. absurd (cc))
