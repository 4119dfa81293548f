use Rattle.std.proofs.Common.{ℕ, List, ◌++◌, string_bytes, ◌∙◌, ap, append_assoc}
use Rattle.std.proofs.lemmas.Result.{on_ok_weaker}
use Rattle.heap_program.specs.Text.{end_text_of}
use Rattle.heap_program.proofs.session.Session+Machine.finish.Goals as goal

pub returns : goal.returns
returns c = on_ok_weaker c.push_end.result (λ written s at.
    let h = c.in_ok-end.ensures in
    let a = h.responses s at in
    let last = end_text_of a.state in
    record {
      told = h.told ++ last;
      output = written a.state a.at.stands ∙ ap (λ (l : List ℕ). l ++ last) h.output ∙ append_assoc (string_bytes c.args.self.now.output) h.told last;
      end = record { answers = a.answers; state = a.state; run = a.run; steps = a.steps; at = a.at; text = ap (λ (l : List ℕ). l ++ last) a.text };
    }) c.push_end.ensures
