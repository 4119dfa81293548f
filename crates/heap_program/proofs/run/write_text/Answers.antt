use Rattle.std.proofs.Common.{length, sym, subst, arith}
use Rattle.std.proofs.lemmas.List.{take_all}
use Rattle.std.specs.Io.KnownBytes.{Appends}
use Rattle.heap_program.proofs.Errors.{on_err}
use Rattle.heap_program.proofs.Known.{appends_keeps}
use Rattle.heap_program.proofs.run.write_text.Goals as goal

pub returns-clause-err : goal.returns-clause-err
returns-clause-err g c =
    let taken = g.K.Sink.taken in
    let text = c.args.text.now in
    let written = subst (Appends (taken c.args.sink.now) (taken c.write_all.new.sink)) c.as_bytes.ensures.value c.in_ok-write_all.ensures.ok in
    let kept = appends_keeps (taken c.args.sink.now) (taken c.write_all.new.sink) (taken c.flush.new.self) text written c.flush.ensures.told in
    on_err c.flush.result (length text, subst (Appends (taken c.args.sink.now) (taken c.flush.new.self)) (sym (take_all (length text) text (omega arith))) kept)
