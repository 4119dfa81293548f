use Rattle.std.proofs.Common.{rules, ◌≡◌, ◌∙◌, Bool, true, false, not, None, refl, ap, subst, sym}
use Rattle.std.specs.Prelude.{if◌then◌else◌}
use Rattle.dlmalloc.specs.State.{HeapState}
use Rattle.machine_model.specs.declared.call.Call.TheVariants.{SetGranularity}
use Rattle.machine_model.specs.declared.answer.Reply.TheVariants.{Accepted}
use Rattle.machine_model.specs.Machine.{Seen, IsStep}
use Rattle.machine_model.proofs.Settings.{step_granularity}
use Rattle.kernel_heap.specs.Machine.{seen_with}
use Rattle.kernel_heap.proofs.Served.{served}
use Rattle.kernel_heap.proofs.SettingChanges.{seen_set, laid_set}
use Rattle.kernel_heap.proofs.numbered_heap.NumberedHeap.set_granularity.Goals as goal

pub returns-clause-sound : goal.returns-clause-sound
returns-clause-sound c =
    let is = c.set_granularity.ensures in
    laid_set c.args.self.now.heap c.set_granularity.new.self c.args.self.now.blocks.items is.system c.requires.sound
    (ap (λ (h : HeapState). h.segments) is.state)

-- a setting that is not accepted
not_accepted : (accepted : Bool) → not accepted ≡ true → accepted ≡ false
not_accepted false is = refl
not_accepted true is = absurd (cc)

pub returns-clause-ok : goal.returns-clause-ok
returns-clause-ok c =
    let is = c.set_granularity.ensures in
    let accepted = c.set_granularity.result in
    let seen = seen_set c.args.self.now.heap c.set_granularity.new.self c.args.self.now.blocks.items is.system in
    let now = ap (λ (h : HeapState). h.granularity) is.state in
    served tt tt (λ top s good stands.
    subst (λ (m : Seen). IsStep s (SetGranularity c.args.granularity) (record { reply = Accepted accepted; regions = None; large = None }) m)
    (sym (seen top (if accepted then c.args.granularity else c.args.self.now.heap.granularity) now))
    (step_granularity (seen_with top c.args.self.now) s c.args.granularity accepted good stands is.answer))
    (search rules) (λ told top. seen top c.args.self.now.heap.granularity
    (now ∙ ap (λ (b : Bool). if b then c.args.granularity else c.args.self.now.heap.granularity) (not_accepted accepted told)))
