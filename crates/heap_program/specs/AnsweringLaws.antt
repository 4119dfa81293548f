-- Laws of answers, one run after another.
use Rattle.std.proofs.Common.{ℕ, List, [], ◌++◌, Option, refl, sym, ◌∙◌}
use Rattle.std.proofs.lemmas.Grind.{flat_map-append}
use Rattle.machine_model.specs.declared.call.Call.{Call}
use Rattle.machine_model.proofs.Runs.{runs_none, run_on}
use Rattle.kernel_heap.specs.declared.machine.Machine.{Machine}
use Rattle.kernel_heap.proofs.Steps.{steps_on}
use Rattle.heap_program.specs.Answering.{IsAnswering}
use Rattle.heap_program.specs.Text.{line_text}

pub answering_none : (x : Machine) → IsAnswering x [] [] x
answering_none x = λ s at. record { answers = []; state = s; run = runs_none s; steps = refl; at = at; text = refl }

pub answering_on : (x y z : Machine) (a b : List (Option Call)) (t u : List ℕ) → IsAnswering x a t y → IsAnswering y b u z → IsAnswering x (a ++ b) (t ++ u) z
answering_on x y z a b t u h k = λ s at.
    let first = h s at in
    let last = k first.state first.at in
    record {
      answers = first.answers ++ last.answers;
      state = last.state;
      run = run_on s first.state last.state a b first.answers last.answers first.run last.run;
      steps = steps_on x y z a b first.answers last.answers first.steps last.steps;
      at = last.at;
      text = (λ i. first.text i ++ last.text i) ∙ sym (flat_map-append line_text first.answers last.answers);
    }
