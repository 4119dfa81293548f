use Rattle.std.proofs.Common.{◌∷◌, [], Option, refl, sym, subst, string_bytes}
use Rattle.std.proofs.lemmas.List.{append-nil}
use Rattle.std.proofs.lemmas.Result.{on_ok_weaker}
use Rattle.machine_model.specs.declared.call.Call.{Call}
use Rattle.heap_report.specs.Calls.{calls_in}
use Rattle.heap_report.specs.Noting.{IsNoted}
use Rattle.heap_report.specs.NotingLaws.{noted_none}
use Rattle.heap_report.proofs.noted.NotedRespond.respond.Goals as goal

pub returns-in-Some : goal.returns-in-Some
returns-in-Some g c = on_ok_weaker c.serve.result (λ served. record {
  told = [];
  output = sym (append-nil (string_bytes c.args._output.now));
  responses = record {
    silent = refl;
    replayed = subst (λ (item : Option Call).
        IsNoted g.T.Tell.keeps c.args.self.now (calls_in (item ∷ [])) c.serve.new.self) (sym c.in-Some.is) served;
  };
}) c.serve.ensures

-- a bad line changes nothing
pub returns-in-None : goal.returns-in-None
returns-in-None g c = record {
  told = [];
  output = sym (append-nil (string_bytes c.args._output.now));
  responses = record {
    silent = refl;
    replayed = subst (λ (item : Option Call).
        IsNoted g.T.Tell.keeps c.args.self.now (calls_in (item ∷ [])) c.args.self.now) (sym c.in-None.is)
        (noted_none g.T.Tell.keeps c.args.self.now);
  };
}
