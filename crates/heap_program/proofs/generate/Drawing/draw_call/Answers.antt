use Rattle.std.proofs.Common.{ℕ, ◌+◌, [], ◌∷◌, Some, refl, ◌∙◌, ap, subst}
use Rattle.machine_model.specs.declared.call.Call.{Call}
use Rattle.machine_model.specs.Answer.{after}
use Rattle.machine_model.specs.Run.{RunsTo}
use Rattle.kernel_heap.specs.Steps.{StepsTo}
use Rattle.kernel_heap.proofs.Steps.{step_one}
use Rattle.heap_program.specs.Generator.{numbers_given}
use Rattle.heap_program.proofs.generate.Drawing.draw_call.Goals as goal

pub returns-clause-drawn : goal.returns-clause-drawn
returns-clause-drawn c =
    let call = c.in_ok-call.call in
    let answer = c.in_ok-answer.answer in
    let same = c.in_ok-call.ensures.0 in
    λ s at.
    let st = c.in_ok-answer.ensures.ok.allowed s at.good at.stands in
    record {
      answer = answer;
      next = c.in_ok-call.ensures.1;
      given = ap (λ (n : ℕ). c.args.self.now.given + n) (c.numbers_given.ensures ∙ ap (λ (k : Call). numbers_given k answer.reply) same);
      refused = ap (λ (n : ℕ). c.args.self.now.refused + n) c.refusals.ensures;
      state = after s call answer;
      run = subst (λ (k : Call). RunsTo s (Some k ∷ []) (Some answer ∷ []) (after s call answer)) same
          (record { run = ((st.allowed, st.good), tt); last = refl });
      steps = subst (λ (k : Call). StepsTo c.args.self.now.machine (Some k ∷ []) (Some answer ∷ []) c.step.new.self) same
          (step_one c.args.self.now.machine c.step.new.self call answer c.in_ok-answer.ensures.ok);
      at = record { good = st.good; stands = st.stands };
    }
