use Rattle.std.proofs.Common.{ℕ, ◌∙◌, None, ap, subst, sym}
use Rattle.machine_model.specs.declared.call.Call.TheVariants.{Unmap}
use Rattle.machine_model.specs.declared.answer.Reply.TheVariants.{Done}
use Rattle.machine_model.specs.Machine.{IsStep}
use Rattle.paged_systems.specs.System.{paged}
use Rattle.kernel_heap.specs.Machine.{seen_with}
use Rattle.kernel_heap.specs.Refusing.{unmap_refusal}
use Rattle.kernel_heap.proofs.Refused.{refused_with}
use Rattle.kernel_heap.proofs.Served.{served, served_refused}
use Rattle.kernel_heap.proofs.Laid.{laid_still, seen_beside, seen_refused}
use Rattle.kernel_heap.proofs.UserRegions.{step_unmap, unmap_denied}
use Rattle.kernel_heap.proofs.numbered_heap.NumberedHeap.unmap.Goals as goal

pub returns-in-Ok-clause-sound : goal.returns-in-Ok-clause-sound
returns-in-Ok-clause-sound c =
    let kept = c.unmap.ensures.kept in
    laid_still c.args.self.now.heap c.unmap.new.heap c.args.self.now.blocks.items c.requires.sound kept.regions_same kept.still.0

pub returns-in-Ok-clause-ok : goal.returns-in-Ok-clause-ok
returns-in-Ok-clause-ok c = served tt tt (λ top s good stands.
    subst (IsStep s (Unmap c.args.start c.args.pages) (record { reply = Done; regions = None; large = None }))
    (sym (seen_beside top c.args.self.now.heap c.unmap.new.heap c.args.self.now.blocks.items c.unmap.ensures.kept))
    (step_unmap (seen_with top c.args.self.now) s c.args.start c.args.pages good stands (paged c.unmap.new.heap.system) c.in-Ok.ensures.ok.can c.in-Ok.ensures.ok.left))
    c.unmap.ensures.kept.still (λ same. absurd (cc))

pub returns-in-Err-clause-sound : goal.returns-in-Err-clause-sound
returns-in-Err-clause-sound c =
    let kept = c.unmap.ensures.kept in
    laid_still c.args.self.now.heap c.unmap.new.heap c.args.self.now.blocks.items c.requires.sound kept.regions_same kept.still.0

pub returns-in-Err-clause-ok : goal.returns-in-Err-clause-ok
returns-in-Err-clause-ok c =
    let same = λ (top : ℕ). seen_refused top c.args.self.now.heap c.unmap.new.heap c.args.self.now.blocks.items c.unmap.ensures.kept c.in-Err.ensures.err.same in
    served_refused (unmap_refusal c.in-Err.fault) (c.refused.ensures ∙ ap refused_with c.unmap_refusal.ensures) (λ top s good stands.
    subst (IsStep s (Unmap c.args.start c.args.pages) (refused_with (unmap_refusal c.in-Err.fault))) (sym (same top))
    (unmap_denied (seen_with top c.args.self.now) s c.args.start c.args.pages good stands c.in-Err.fault c.in-Err.ensures.err.why))
    c.unmap.ensures.kept.still same
