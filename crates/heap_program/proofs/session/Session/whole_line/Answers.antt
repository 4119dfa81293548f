use Rattle.std.proofs.Common.{Option, ◌∷◌, [], refl, subst}
use Rattle.std.proofs.lemmas.Result.{on_ok_weaker}
use Rattle.machine_model.specs.declared.call.Call.{Call}
use Rattle.heap_program.proofs.Runs.{responded_whole}
use Rattle.heap_program.proofs.session.Session.whole_line.Goals as goal

pub returns : goal.returns
returns g c =
    let line = c.args.line.now in
    on_ok_weaker c.respond.result (λ h. record {
      told = h.told;
      output = h.output;
      responded = responded_whole g.R.Respond.responds c.args.self.now.responder c.respond.new.self c.args.self.now.line
          line h.told c.args.self.now.line c.requires.none_begun refl c.requires.one_line
          (subst (λ (item : Option Call). g.R.Respond.responds c.args.self.now.responder (item ∷ []) h.told
          c.respond.new.self) c.in_ok-item.ensures.call h.responses);
    }) c.respond.ensures
