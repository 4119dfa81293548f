use Rattle.heap_program.proofs.Runs.{responded_line}
use Rattle.heap_program.proofs.session.Session.end_line.Goals as goal

pub returns : goal.returns
returns g c =
    let h = c.in_ok-respond_to_line.ensures.responded in
    record {
      told = h.told;
      output = h.output;
      responded = responded_line g.R.Respond.responds c.args.self.now.responder c.respond_to_line.new.self.responder
          c.args.self.now.line h.told c.clear.new.self c.respond_to_line.ensures.one_line c.clear.ensures h.responses;
    }
