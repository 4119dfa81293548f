use Rattle.std.proofs.Common.{◌≡◌, ◌-◌, ◌∙◌, ap, refl, arith, Some}
use Rattle.paging_core.specs.Pool.{free_count}
use Rattle.paged_systems.specs.System.{paged}
use Rattle.kernel_heap.proofs.Reset.{laid_reset, more_free, step_reset, spare_window}
use Rattle.kernel_heap.proofs.Served.{served, unserved, answered}
use Rattle.kernel_heap.proofs.numbered_heap.NumberedHeap.reset.Goals as goal
use Rattle.kernel_heap.proofs.numbered_heap.NumberedHeap.reset.Goals.{then-frames-eq0, else-frames-eq0}

pub new-requires-clause-window : goal.new-requires-clause-window
new-requires-clause-window c = spare_window

pub returns-clause-sound : goal.returns-clause-sound
returns-clause-sound c =
    rw c.end_all.ensures
    (laid_reset c.args.self.now.heap c.reset.new.self c.law_intact.ensures.sound c.args.self.now.blocks.items c.reset.result.0
    c.requires.sound c.reset.ensures.ended c.reset.ensures.state)

-- frames are given back, and none is taken
pub overflow_sub-frames : goal.overflow_sub-frames
overflow_sub-frames c =
    let more = more_free c.args.self.now.heap c.reset.new.self c.law_intact.ensures.sound c.args.self.now.blocks.items
    c.reset.result.0 c.requires.sound c.reset.ensures.ended c.reset.ensures.state in
    let before : c.free_frames-free.result ≡ free_count (paged c.args.self.now.heap.system).free =
    c.free_frames-free.ensures ∙ ap (λ system. free_count (paged system).free) c.system.ensures in
    let now : c.free_frames.result ≡ free_count (paged c.reset.new.self.system).free = c.free_frames.ensures
    ∙ ap (λ system. free_count (paged system).free) c.system-2.ensures in
    omega (arith, more, before, now)

pub returns-clause-served : goal.returns-clause-served
returns-clause-served c = answered (
    let before : c.free_frames-free.result ≡ free_count (paged c.args.self.now.heap.system).free =
    c.free_frames-free.ensures ∙ ap (λ system. free_count (paged system).free) c.system.ensures in
    let now : c.free_frames.result ≡ free_count (paged c.reset.new.self.system).free = c.free_frames.ensures
    ∙ ap (λ system. free_count (paged system).free) c.system-2.ensures in
    served tt tt (λ top s good stands. rw c.end_all.ensures
    (step_reset c.args.self.now.heap c.reset.new.self c.law_intact.ensures.sound c.args.self.now.blocks.items c.reset.result.0
    c.requires.sound c.reset.ensures.ended c.reset.ensures.state
    s good stands (c.free_frames.result - c.free_frames-free.result) c.if-frames-eq0.result (λ i. now i - before i)
    (λ zero. elim c.if-frames-eq0.branch [
      | then-frames-eq0 w ↦ w.result-is
      | else-frames-eq0 w ↦ absurd (w.if-frames-eq0.false zero)
    ])
    (λ some. elim c.if-frames-eq0.branch [
      | then-frames-eq0 w ↦ absurd (some w.if-frames-eq0.true)
      | else-frames-eq0 w ↦ w.result-is ∙ ap Some w.new-else-frames-eq0.ensures
    ])))
    c.reset.ensures.state (λ same. absurd (cc)))

pub returns-in_err-other-clause-served : goal.returns-in_err-other-clause-served
returns-in_err-other-clause-served c = unserved c.from_residual.result _ c.from_residual.ensures.1 refl refl
