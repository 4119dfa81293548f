use Rattle.std.proofs.Common.{rules, ◌∷◌, [], Option, Some, None, refl, sym, subst}
use Rattle.std.proofs.lemmas.List.{append-nil}
use Rattle.std.proofs.lemmas.Result.{on_ok_weaker}
use Rattle.machine_model.specs.declared.call.Call.{Call}
use Rattle.machine_model.specs.Answer.{after}
use Rattle.machine_model.specs.Run.{RunsTo}
use Rattle.kernel_heap.specs.Steps.{StepsTo}
use Rattle.kernel_heap.proofs.Steps.{step_one}
use Rattle.heap_program.specs.Text.{line_text}
use Rattle.heap_program.proofs.answering.MachineRespond.respond.Goals as goal

pub returns-in_ok-answer-in-Some : goal.returns-in_ok-answer-in-Some
unfolding line_text
returns-in_ok-answer-in-Some c =
    let call = c.in-Some.call in
    let answer = c.in_ok-answer-in-Some.answer in
    on_ok_weaker c.push_answer.result (λ written. record {
      told = line_text (Some answer);
      output = written;
      responses = λ s at.
          let st = c.in_ok-answer-in-Some.ensures.ok.allowed s at.good at.stands in
          record {
            answers = Some answer ∷ [];
            state = after s call answer;
            run = subst (λ (item : Option Call). RunsTo s (item ∷ []) (Some answer ∷ []) (after s call answer))
                (sym c.in-Some.is) (record { run = ((st.allowed, st.good), tt); last = refl });
            steps = subst (λ (item : Option Call). StepsTo c.args.self.now (item ∷ []) (Some answer ∷ []) c.step.new.self)
                (sym c.in-Some.is) (step_one c.args.self.now c.step.new.self call answer c.in_ok-answer-in-Some.ensures.ok);
            at = record { good = st.good; stands = st.stands };
            text = sym (append-nil (line_text (Some answer)));
          };
    }) c.push_answer.ensures

pub returns-in-None : goal.returns-in-None
unfolding line_text
returns-in-None c =
    on_ok_weaker c.push_str.result (λ written. record {
      told = line_text None;
      output = written;
      responses = λ s at. record {
        answers = None ∷ [];
        state = s;
        run = subst (λ (item : Option Call). RunsTo s (item ∷ []) (None ∷ []) s) (sym c.in-None.is) (record { run = (tt, tt); last = refl });
        steps = subst (λ (item : Option Call). StepsTo c.args.self.now (item ∷ []) (None ∷ []) c.args.self.now)
            (sym c.in-None.is) (c.args.self.now, refl, refl);
        at = at;
        text = refl;
      };
    }) (search rules)
