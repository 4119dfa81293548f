use Rattle.std.proofs.Common.{refl}
use Rattle.std.proofs.lemmas.Result.{on_ok_weaker}
use Rattle.heap_report.proofs.Serving.{noted_one}
use Rattle.heap_report.proofs.noted.Noted.serve.Goals as goal

pub returns : goal.returns
returns g c = on_ok_weaker c.note.result (λ noted. noted_one g.T.Tell.keeps c.args.self.now _ c.answer.new.self
    c.args.call.now c.in_ok-answer.answer c.in_ok-answer.ensures refl refl refl noted) c.note.ensures
