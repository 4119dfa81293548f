use Rattle.std.proofs.Common.{◌≡◌, ℕ, ◌+◌, true, length, ap, refl, ◌∙◌, inl, inr, set, arith, length-set}
use Rattle.std.proofs.lemmas.Bool.{cases_eq}
use Rattle.paging_core.specs.Pool.{is_frame_free, free_count, IsOut}
use Rattle.paging_core.proofs.Given.{given_here, given_other, given_count, out_other}
use Rattle.paging_core.proofs.large.free_frames.Goals as goal

pub deallocate_frame-requires : goal.deallocate_frame-requires
deallocate_frame-requires c = rw c.after.ensures (c.loop-step.invariant.out c.loop-step.step (omega arith) c.loop-step-test.true)

pub loop-step-init : goal.loop-step-init
loop-step-init c = record {
  flags = refl;
  given = λ k lt. absurd (omega arith);
  kept = λ f ne. refl;
  out = λ k lo hi. c.requires.out k hi;
  count = omega arith;
}

pub loop-step-preserved : goal.loop-step-preserved
loop-step-preserved c =
    let at : IsOut c.loop-step.pool (c.args.first + c.loop-step.step) = c.loop-step.invariant.out c.loop-step.step (omega arith) c.loop-step-test.true in
    let now : c.deallocate_frame.new.self ≡ set c.loop-step.pool (c.args.first + c.loop-step.step) true =
    c.deallocate_frame.ensures ∙ ap (λ f. set c.loop-step.pool f true) c.after.ensures in
    let here : is_frame_free c.deallocate_frame.new.self (c.args.first + c.loop-step.step) ≡ true =
    ap (λ flags. is_frame_free flags (c.args.first + c.loop-step.step)) now ∙ given_here c.loop-step.pool (c.args.first + c.loop-step.step) at in
    let other : (f : ℕ) → (f ≡ c.args.first + c.loop-step.step → ⊥) → is_frame_free c.deallocate_frame.new.self f ≡ is_frame_free c.loop-step.pool f =
    λ f ne. ap (λ flags. is_frame_free flags f) now ∙ given_other c.loop-step.pool (c.args.first + c.loop-step.step) f ne in
    record {
      flags = ap length now ∙ (length-set c.loop-step.pool (c.args.first + c.loop-step.step) true ∙ c.loop-step.invariant.flags);
      given = λ k lt.
          elim (cases_eq k c.loop-step.step) [
            | inl e ↦ ap (λ j. is_frame_free c.deallocate_frame.new.self (c.args.first + j)) e ∙ here
            | inr ne ↦ other (c.args.first + k) (λ e. ne (omega arith)) ∙ c.loop-step.invariant.given k (omega arith)
          ];
      kept = λ f ne.
          other f (λ e. ne c.loop-step.step (omega arith) e)
          ∙ c.loop-step.invariant.kept f (λ k lt e. ne k (omega arith) e);
      out = λ k lo hi.
          rw now (out_other c.loop-step.pool (c.args.first + c.loop-step.step) (c.args.first + k)
          (λ e. absurd (omega arith)) (c.loop-step.invariant.out k (omega arith) hi));
      count =
          let a = ap free_count now ∙ given_count c.loop-step.pool (c.args.first + c.loop-step.step) at in
          let b = c.loop-step.invariant.count in
          omega arith;
    }

pub returns-clause-kept : goal.returns-clause-kept
returns-clause-kept c = λ f ne. c.loop-step.invariant.kept f (λ k lt e. ne k (omega arith) e)
