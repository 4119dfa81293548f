use Rattle.std.proofs.Common.{◌≡◌, ℕ, ◌+◌, ◌<◌, refl, ap, ◌∙◌, inl, inr, length, arith}
use Rattle.std.proofs.lemmas.Bool.{cases_eq}
use Rattle.paging_core.specs.Memory.{word_at, frame_count, cleared}
use Rattle.paging_core.proofs.Words.{length_cleared, word_at_cleared_same, word_at_cleared_other}
use Rattle.paging_core.proofs.large.clear_frames.Goals as goal

pub loop-step-init : goal.loop-step-init
loop-step-init c = record { size = refl; zeros = λ k i lk li. absurd (omega arith); others = λ f i li ne. refl }

pub clear_frame-requires : goal.clear_frame-requires
clear_frame-requires c =
    let s = c.loop-step.invariant.size in
    let e = c.after.ensures in
    omega (arith, c.requires.inside, c.loop-step-test.true)

pub loop-step-preserved : goal.loop-step-preserved
loop-step-preserved c =
    let now : c.clear_frame.new.self ≡ cleared c.loop-step.frames (c.args.first + c.loop-step.step) =
    c.clear_frame.ensures ∙ ap (cleared c.loop-step.frames) c.after.ensures in
    let inside : c.args.first + c.loop-step.step < frame_count c.loop-step.frames = let s = c.loop-step.invariant.size in
    omega (arith, c.requires.inside, c.loop-step-test.true) in
    let other : (f i : ℕ) → i < 512 → (f ≡ c.args.first + c.loop-step.step → ⊥) → word_at c.clear_frame.new.self f i ≡ word_at c.loop-step.frames f i =
    λ f i li ne. ap (λ w. word_at w f i) now ∙ word_at_cleared_other c.loop-step.frames (c.args.first + c.loop-step.step) f i inside li ne in
    record {
      size = ap length now ∙ (length_cleared c.loop-step.frames (c.args.first + c.loop-step.step) inside ∙ c.loop-step.invariant.size);
      zeros = λ k i lk li.
          elim (cases_eq k c.loop-step.step) [
            | inl e ↦ ap (λ j. word_at c.clear_frame.new.self (c.args.first + j) i) e
                ∙ (ap (λ w. word_at w (c.args.first + c.loop-step.step) i) now
                ∙ word_at_cleared_same c.loop-step.frames (c.args.first + c.loop-step.step) i inside li)
            | inr ne ↦ other (c.args.first + k) i li (λ e. ne (omega arith)) ∙ c.loop-step.invariant.zeros k i (omega arith) li
          ];
      others = λ f i li ne.
          other f i li (λ e. ne c.loop-step.step (omega arith) e)
          ∙ c.loop-step.invariant.others f i li (λ k lt e. ne k (omega arith) e);
    }
