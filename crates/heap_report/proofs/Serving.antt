-- A call that a replay serves.
use Rattle.std.proofs.Common.{◌≡◌, ◌≤◌, ℕ, max, List, [], ◌∷◌, ◌++◌, map, Option, Some, refl, sym, ◌∙◌, ap, subst, arith}
use Rattle.std.specs.Prelude.{sum}
use Rattle.machine_model.specs.declared.answer.Answer.{Answer}
use Rattle.machine_model.specs.declared.call.Call.{Call}
use Rattle.machine_model.specs.State.{State, Block}
use Rattle.machine_model.specs.Answer.{after}
use Rattle.machine_model.specs.Machine.{IsStep}
use Rattle.machine_model.specs.Run.{RunsTo}
use Rattle.kernel_heap.specs.declared.machine.Machine.{Machine}
use Rattle.kernel_heap.specs.Machine.{seen}
use Rattle.kernel_heap.specs.Steps.{StepsTo}
use Rattle.kernel_heap.proofs.Steps.{step_one}
use Rattle.heap_program.specs.Progress.{IsAt}
use Rattle.heap_report.specs.declared.replay.Replay.{Replay}
use Rattle.heap_report.specs.Live.{block_size, live, peak, sizes_of}
use Rattle.heap_recorder.specs.Sizes.{sizes_after}
use Rattle.heap_report.specs.declared.noted.Noted.{Noted}
use Rattle.heap_report.specs.Noting.{IsNoted}
use Rattle.heap_report.specs.Replaying.{IsReplayAt, IsCallAnswered, IsReplayBegun}
use Rattle.heap_report.proofs.KeptSizes.{kept_sizes}

-- the greatest of two sums, the first of which was not above the greatest before
highest : (before first last sum_now now : ℕ) → first ≤ before → now ≡ max before sum_now → sum_now ≡ last → now ≡ max before (max first last)
highest before first last sum_now now least top same = omega (arith, least, top, same)

-- what is so after a call that was answered: the run of it, and that the sizes and the peak are kept
pub record IsOne (s : State) (old : Replay) (call : Call) (answer : Answer) (new : Replay) : Type 0 where
  pub run : RunsTo s (Some call ∷ []) (Some answer ∷ []) (after s call answer)
  pub steps : StepsTo old.machine (Some call ∷ []) (Some answer ∷ []) new.machine
  pub follows : IsReplayAt (after s call answer) new
  pub peak_is : new.peak ≡ max old.peak (peak s (call ∷ []) (answer ∷ []))

pub answered_one : (s : State) (old middle new : Replay) (call : Call) (answer : Answer) → IsReplayAt s old →
    live s ≤ old.peak → IsCallAnswered old call answer middle → new.machine ≡ middle.machine → new.sizes ≡ middle.sizes →
    new.peak ≡ middle.peak → IsOne s old call answer new
answered_one s old middle new call answer follows least is machine same top =
    let step : IsStep s call answer (seen new.machine) = subst (λ (m : Machine). IsStep s call answer (seen m))
    (sym machine) (is.stepped.allowed s follows.at.good follows.at.stands) in
    let sizes_is : new.sizes ≡ sizes_of (after s call answer) =
    same ∙ is.sizes ∙ ap (λ (l : List ℕ). sizes_after l call answer.reply) follows.sizes ∙ sym (kept_sizes s call answer step.allowed) in
    let sum_is : sum new.sizes ≡ live (after s call answer) = ap sum sizes_is in
    let most : new.peak ≡ max old.peak (sum new.sizes) = top ∙ is.peak_is ∙ ap (λ (l : List ℕ). max old.peak (sum l)) (sym same) in
    record {
      run = record { run = ((step.allowed, step.good), tt); last = refl };
      steps = subst (λ (m : Machine). StepsTo old.machine (Some call ∷ []) (Some answer ∷ []) m) (sym machine)
          (step_one old.machine middle.machine call answer is.stepped);
      follows = record { at = record { good = step.good; stands = step.stands }; sizes = sizes_is };
      peak_is = highest old.peak (live s) (live (after s call answer)) (sum new.sizes) new.peak least most sum_is;
    }

-- with what is kept for the text
pub noted_one : {T : Type 0} (keeps : T → List Call → List Answer → Type 0) (old new : Noted T) (middle : Replay)
    (call : Call) (answer : Answer) → IsCallAnswered old.replay call answer middle → new.replay.machine ≡ middle.machine →
    new.replay.sizes ≡ middle.sizes → new.replay.peak ≡ middle.peak →
    ((calls : List Call) (answers : List Answer) → keeps old.kept calls answers →
    keeps new.kept (calls ++ call ∷ []) (answers ++ answer ∷ [])) → IsNoted keeps old (call ∷ []) new
noted_one keeps old new middle call answer is machine same top noted s follows least =
    let one = answered_one s old.replay middle new.replay call answer follows least is machine same top in
    record {
      served = record {
        answers = answer ∷ [];
        state = after s call answer;
        run = one.run;
        steps = one.steps;
        follows = one.follows;
        peak_is = one.peak_is;
      };
      noted = noted;
    }

-- no block is live
none_sizes : (s : State) → s.blocks ≡ [] → sizes_of s ≡ []
none_sizes s none = ap (λ (blocks : List (Option Block)). map block_size blocks) none

pub none_live : (s : State) → s.blocks ≡ [] → live s ≡ 0
none_live s none = ap sum (none_sizes s none)

-- no call came yet
pub begun_follows : (s : State) (machine : Machine) (replay : Replay) → IsReplayBegun machine replay → IsAt machine s → s.blocks ≡ [] → IsReplayAt s replay
begun_follows s machine replay begun at none = record {
  at = subst (λ (m : Machine). IsAt m s) (sym begun.machine_is) at;
  sizes = begun.sizes ∙ sym (none_sizes s none);
}
