use Rattle.std.proofs.Common.{Option, ◌∷◌, [], string_bytes, ◌∙◌, ap, subst}
use Rattle.std.proofs.lemmas.Result.{on_ok_weaker}
use Rattle.machine_model.specs.declared.call.Call.{Call}
use Rattle.call_lines.specs.Grammar.{item_of}
use Rattle.heap_program.specs.Responses.{HasResponded}
use Rattle.heap_program.proofs.session.Session.respond_to_line.Goals as goal

pub returns-clause-responded : goal.returns-clause-responded
returns-clause-responded g c =
    on_ok_weaker c.respond.result (subst (λ (item : Option Call). HasResponded g.R.Respond.responds
    c.args.self.now.responder (item ∷ []) (string_bytes c.args.self.now.output) (string_bytes c.respond.new.output)
    c.respond.new.self)
    (c.in_ok-item.ensures.call ∙ ap item_of c.bytes.ensures.value)) c.respond.ensures
