use Rattle.std.proofs.Common.{[], string_bytes, sym}
use Rattle.std.proofs.lemmas.List.{append-nil}
use Rattle.std.proofs.lemmas.Result.{on_ok_weaker}
use Rattle.heap_program.proofs.Runs.{responded_part}
use Rattle.heap_program.proofs.session.Session.go_on.Goals as goal

pub returns : goal.returns
returns g c = on_ok_weaker c.extend.result (λ same. record {
  told = [];
  output = sym (append-nil (string_bytes c.args.self.now.output));
  responded = responded_part g.R.Respond.responds c.args.self.now.responder c.args.self.now.line c.extend.new.self
      c.args.bytes.now same (g.met.R.Respond.responds_none c.args.self.now.responder);
}) c.extend.ensures
