use Rattle.std.proofs.Common.{ℕ, List, [], ◌++◌, string_bytes, ◌∙◌, ap}
use Rattle.std.proofs.lemmas.Result.{on_ok_weaker, on_err_weaker}
use Rattle.heap_program.proofs.Errors.{on_err}
use Rattle.heap_program.proofs.Known.{appends_nothing}
use Rattle.heap_program.proofs.Wholes.{front_none, part_written, closed}
use Rattle.heap_program.proofs.run.close.Goals as goal

pub returns-clause-ok : goal.returns-clause-ok
returns-clause-ok g c = on_ok_weaker c.write_out.result (λ written s at.
    let f = c.in_ok-finish.ensures s at in
    closed s c.args.session.now.line f.told (string_bytes c.finish.new.self.output) c.args.session.now.responder
    c.finish.new.self.responder (g.K.Sink.taken c.args.sink.now) (g.K.Sink.taken c.write_out.new.sink)
    (f.output ∙ ap (λ (o : List ℕ). o ++ f.told) c.requires) f.end written) c.write_out.ensures.ok

pub returns-clause-err : goal.returns-clause-err
returns-clause-err g c = on_err_weaker c.write_out.result (λ part s at.
    let f = c.in_ok-finish.ensures s at in
    part_written s c.args.session.now.line f.told (string_bytes c.finish.new.self.output) c.args.session.now.responder
    c.finish.new.self.responder (g.K.Sink.taken c.args.sink.now) (g.K.Sink.taken c.write_out.new.sink) part.0
    (f.output ∙ ap (λ (o : List ℕ). o ++ f.told) c.requires) f.end part.1) c.write_out.ensures.err

pub returns-in_err-finish-clause-err : goal.returns-in_err-finish-clause-err
returns-in_err-finish-clause-err g c = on_err c.from_residual.result (λ s at.
    record { told = []; appended = appends_nothing (g.K.Sink.taken c.args.sink.now); front = front_none c.args.session.now.responder s c.args.session.now.line })
