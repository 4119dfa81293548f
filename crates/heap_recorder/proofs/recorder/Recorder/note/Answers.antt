use Rattle.std.proofs.lemmas.Result.{on_ok_weaker}
use Rattle.heap_recorder.proofs.KeptRun.{record_more}
use Rattle.heap_recorder.proofs.recorder.Recorder.note.Goals as goal

pub returns-clause-records : goal.returns-clause-records
returns-clause-records c = on_ok_weaker c.add.result (λ added. record_more c.args.self.now c.add.new.self c.args.call.now c.args.answer.now added) c.add.ensures
