use Rattle.std.proofs.Common.{◌≡◌, ◌∙◌, ◌<◌, ap, set, false, refl, sym, arith}
use Rattle.paging_core.specs.Pool.{is_frame_free, free_count}
use Rattle.paging_core.specs.Ahead.{ahead}
use Rattle.paging_core.proofs.Ahead.{ahead_below, ahead_here, ahead_none, ahead_taken, ahead_count, ahead_empty}
use Rattle.paging_core.proofs.frames_ahead.FramesAheadTableFrames.take_frame.Goals as goal

pub returns-then-self-clause-taken : goal.returns-then-self-clause-taken
returns-then-self-clause-taken c = (
  refl,
  λ f. ap (λ flags. is_frame_free flags f) (sym c.self.view_is) ∙ ahead_none c.self.inside.next c.self.inside.end f c.if-self.true,
)

pub returns-then-self-clause-count : goal.returns-then-self-clause-count
returns-then-self-clause-count c = ap free_count (sym c.self.view_is) ∙ ahead_empty c.self.inside.next c.self.inside.end c.if-self.true

same : (c : goal.After-self-1) → c.containing_address-frame.result ≡ c.self.inside.next
same c = omega (arith, c.containing_address-frame.ensures, c.new.ensures, c.self.invariant.0, c.self.invariant.1)

left : (c : goal.After-self-1) → c.self.inside.next < c.self.inside.end
left c = omega (arith, c.if-self.false, c.self.invariant.0)

pub returns-clause-taken : goal.returns-clause-taken
returns-clause-taken c = (
  ap (λ flags. is_frame_free flags c.containing_address-frame.result) (sym c.self.view_is)
      ∙ (ap (is_frame_free (ahead c.self.inside.next c.self.inside.end)) (same c) ∙ ahead_here c.self.inside.next c.self.inside.end (left c)),
  ahead_taken c.self.inside.next c.self.inside.end (left c)
      ∙ (ap (λ i. set (ahead c.self.inside.next c.self.inside.end) i false) (sym (same c))
      ∙ ap (λ flags. set flags c.containing_address-frame.result false) c.self.view_is),
)

pub returns-clause-count : goal.returns-clause-count
returns-clause-count c = ahead_count c.self.inside.next c.self.inside.end (left c) ∙ ap free_count c.self.view_is

pub returns-clause-lowest : goal.returns-clause-lowest
returns-clause-lowest c = λ lower lt.
    let e = same c in
    ap (λ flags. is_frame_free flags lower) (sym c.self.view_is) ∙ ahead_below c.self.inside.next c.self.inside.end lower (omega arith)
