use Rattle.std.proofs.Common.{List, Option, length, ap, subst, arith}
use Rattle.machine_model.specs.State.{Block}
use Rattle.kernel_heap.specs.declared.machine.Machine.{Machine}
use Rattle.heap_program.specs.Headline.{IsInterrupted, IsKeptUp, IsStopped}
use Rattle.heap_program.specs.Stepped.{IsAnsweredBy}
use Rattle.heap_program.specs.declared.run.Stop.TheVariants.{ReadFault, WriteFault, TooLong}
use Rattle.heap_program.proofs.Counts.{risen_later}
use Rattle.heap_program.proofs.Errors.{on_err}
use Rattle.heap_program.proofs.Sessions.{begun}
use Rattle.heap_program.proofs.Wholes.{answered, interrupted, kept_last, seen_kept_up, seen_stopped, seen_last, of_sink, sink_isnt, stop_is, passed_on}
use Rattle.heap_program.proofs.Wholes.{err_long, late_long, ok_long, stop_long}
use Rattle.heap_program.proofs.run.run.Goals as goal

-- the machine of the session stands for what the machine stands for
pub returns-in_err-read_all-clause-part : goal.returns-in_err-read_all-clause-part
returns-in_err-read_all-clause-part g c =
    let left = g.S.Source.left in
    let taken = g.K.Sink.taken in
    let first = c.new-session.result.responder in
    let failed = c.in_err-read_all.ensures.err in
    let stop = c.in_err-read_all.field-0.0 in
    record {
      stopped = on_err c.from_residual.result (λ s at. subst (λ (m : Machine). IsStopped m s (left c.args.source.now)
          (left c.read_all.new.source) (taken c.args.sink.now) (taken c.read_all.new.sink)) c.new-session.ensures.responder
          (seen_stopped s first stop (left c.args.source.now)
          (left c.read_all.new.source) (taken c.args.sink.now) (taken c.read_all.new.sink)
          (begun s c.new-session.result c.args.machine c.new-session.ensures.responder at) failed));
      at_fault = λ is s at. subst (λ (m : Machine). IsInterrupted m s 0 (left c.args.source.now)
          (left c.read_all.new.source) (taken c.args.sink.now) (taken c.read_all.new.sink)) c.new-session.ensures.responder
          (interrupted s first 0 (left c.args.source.now) (left c.read_all.new.source)
          (taken c.args.sink.now) (taken c.read_all.new.sink)
          (begun s c.new-session.result c.args.machine c.new-session.ensures.responder at)
          (failed.at_fault (stop_is c.from_residual.result stop ReadFault c.from_residual.ensures.1 is)));
      at_length = λ is s at. subst (λ (m : Machine). IsInterrupted m s 4096 (left c.args.source.now)
          (left c.read_all.new.source) (taken c.args.sink.now) (taken c.read_all.new.sink)) c.new-session.ensures.responder
          (interrupted s first 4096 (left c.args.source.now) (left c.read_all.new.source)
          (taken c.args.sink.now) (taken c.read_all.new.sink)
          (begun s c.new-session.result c.args.machine c.new-session.ensures.responder at)
          (failed.at_length (stop_is c.from_residual.result stop TooLong c.from_residual.ensures.1 is)));
      kept_up = on_err c.from_residual.result (λ s at. subst (λ (m : Machine). IsKeptUp m s (left c.args.source.now)
          (left c.read_all.new.source) (taken c.args.sink.now) (taken c.read_all.new.sink)) c.new-session.ensures.responder
          (seen_kept_up s first (left c.args.source.now)
          (left c.read_all.new.source) (taken c.args.sink.now) (taken c.read_all.new.sink)
          (begun s c.new-session.result c.args.machine c.new-session.ensures.responder at) failed.kept_up));
    }

pub returns-in_err-read_all-clause-too_long : goal.returns-in_err-read_all-clause-too_long
returns-in_err-read_all-clause-too_long g c =
    let left = g.S.Source.left in
    let stop = c.in_err-read_all.field-0.0 in
    let h = c.in_err-read_all.ensures.err in
    stop_long (left c.args.source.now) (left c.read_all.new.source) c.from_residual.result stop c.from_residual.ensures.1
    (err_long (left c.args.source.now) (left c.read_all.new.source) h.bytes stop h.consumed h.too_long)

pub returns-in_err-read_all-clause-faults : goal.returns-in_err-read_all-clause-faults
returns-in_err-read_all-clause-faults g c =
    let told = c.in_err-read_all.ensures.faults in
    let stop = c.in_err-read_all.field-0.0 in
    let r = c.from_residual in
    record {
      read_later = told.read_later;
      write_later = told.write_later;
      read_cause = λ is. told.read_cause (passed_on r.result stop ReadFault r.ensures.1 is);
      write_cause = λ is. told.write_cause (passed_on r.result stop WriteFault r.ensures.1 is);
    }

pub returns-in_err-read_all-clause-flushed : goal.returns-in_err-read_all-clause-flushed
returns-in_err-read_all-clause-flushed g c =
    let told = c.in_err-read_all.ensures.flushed in
    let stop = c.in_err-read_all.field-0.0 in
    let r = c.from_residual in
    record {
      flushed_fault = λ is. told.flushed_fault (passed_on r.result stop ReadFault r.ensures.1 is);
      flushed_long = λ is. told.flushed_long (passed_on r.result stop TooLong r.ensures.1 is);
    }

-- the sink is all that stops the end of a run
pub returns-in_err-close-clause-part : goal.returns-in_err-close-clause-part
returns-in_err-close-clause-part g c =
    let left = g.S.Source.left in
    let taken = g.K.Sink.taken in
    let h = c.in_ok-read_all.ensures.ok in
    let r = c.from_residual-in_err-close in
    let stop = c.in_err-close.field-0.0 in
    let which = c.in_err-close.ensures.faults.which in
    record {
      stopped = on_err r.result (λ s at.
          let first = begun s c.new-session.result c.args.machine c.new-session.ensures.responder at in
          let b = h.responded.responses s first in
          subst (λ (m : Machine). IsStopped m s (left c.args.source.now) (left c.read_all.new.source) (taken c.args.sink.now)
          (taken c.close.new.sink)) c.new-session.ensures.responder
          (seen_last s c.new-session.result.responder c.read_all.new.session.responder c.read_all.new.session.line
          (left c.args.source.now) (left c.read_all.new.source) (taken c.args.sink.now) (taken c.read_all.new.sink)
          (taken c.close.new.sink) c.in_ok-read_all.field-0
          first h c.in_ok-read_all.ensures.whole.short (c.in_err-close.ensures.err b.state b.at)));
      at_fault = λ is. absurd (sink_isnt stop which (stop_is r.result stop ReadFault r.ensures.1 is));
      at_length = λ is. absurd (of_sink stop which (stop_is r.result stop TooLong r.ensures.1 is));
      kept_up = on_err r.result (λ s at.
          let first = begun s c.new-session.result c.args.machine c.new-session.ensures.responder at in
          let b = h.responded.responses s first in
          let part = c.in_err-close.ensures.err b.state b.at in
          subst (λ (m : Machine). IsKeptUp m s (left c.args.source.now) (left c.read_all.new.source) (taken c.args.sink.now)
          (taken c.close.new.sink)) c.new-session.ensures.responder
          (kept_last s c.new-session.result.responder c.read_all.new.session.responder c.read_all.new.session.line part.told
          (left c.args.source.now) (left c.read_all.new.source) (taken c.args.sink.now) (taken c.read_all.new.sink)
          (taken c.close.new.sink) c.in_ok-read_all.field-0
          first h c.in_ok-read_all.ensures.line part.appended));
    }

pub returns-in_err-close-clause-too_long : goal.returns-in_err-close-clause-too_long
returns-in_err-close-clause-too_long g c =
    let left = g.S.Source.left in
    let stop = c.in_err-close.field-0.0 in
    let h = c.in_ok-read_all.ensures.ok in
    let r = c.from_residual-in_err-close in
    stop_long (left c.args.source.now) (left c.read_all.new.source) r.result stop r.ensures.1
    (late_long (left c.args.source.now) (left c.read_all.new.source) h.bytes c.in_ok-read_all.field-0 h.consumed h.counted
    c.in_ok-read_all.ensures.whole.short stop c.in_err-close.ensures.faults.which)

pub returns-in_err-close-clause-faults : goal.returns-in_err-close-clause-faults
returns-in_err-close-clause-faults g c =
    let faults = g.K.Sink.faults in
    let first = c.in_ok-read_all.ensures.faults in
    let last = c.in_err-close.ensures.faults in
    let r = c.from_residual-in_err-close in
    let stop = c.in_err-close.field-0.0 in
    record {
      read_later = first.read_later;
      write_later = omega (arith, first.write_later, last.later);
      read_cause = λ is. absurd (sink_isnt stop last.which (stop_is r.result stop ReadFault r.ensures.1 is));
      write_cause = λ is. risen_later (faults c.args.sink.now) (faults c.read_all.new.sink) (faults c.close.new.sink)
          first.write_later last.later (last.cause (passed_on r.result stop WriteFault r.ensures.1 is));
    }

pub returns-in_err-close-clause-flushed : goal.returns-in_err-close-clause-flushed
returns-in_err-close-clause-flushed g c =
    let r = c.from_residual-in_err-close in
    let stop = c.in_err-close.field-0.0 in
    let which = c.in_err-close.ensures.faults.which in
    record {
      flushed_fault = λ is. absurd (sink_isnt stop which (stop_is r.result stop ReadFault r.ensures.1 is));
      flushed_long = λ is. absurd (of_sink stop which (stop_is r.result stop TooLong r.ensures.1 is));
    }

pub returns-clause-answered : goal.returns-clause-answered
returns-clause-answered g c s at none =
    let left = g.S.Source.left in
    let taken = g.K.Sink.taken in
    let h = c.in_ok-read_all.ensures.ok in
    let first = begun s c.new-session.result c.args.machine c.new-session.ensures.responder at in
    let b = h.responded.responses s first in
    subst (λ (m : Machine). IsAnsweredBy m s (left c.args.source.now) (left c.read_all.new.source) (taken c.args.sink.now)
    (taken c.close.new.sink) (g.K.Sink.flushed c.close.new.sink) c.close.new.session.responder)
    c.new-session.ensures.responder
    (answered s c.new-session.result.responder c.read_all.new.session.responder c.close.new.session.responder
    c.read_all.new.session.line (left c.args.source.now) (left c.read_all.new.source) (taken c.args.sink.now)
    (taken c.read_all.new.sink) (taken c.close.new.sink) (g.K.Sink.flushed c.close.new.sink) c.in_ok-read_all.field-0
    first h (ap (λ (blocks : List (Option Block)). length blocks) none) c.in_ok-read_all.ensures.whole.short
    c.in_ok-read_all.ensures.whole.end (c.in_ok-close.ensures.ok b.state b.at) c.in_ok-close.ensures.flushed)

pub returns-clause-too_long : goal.returns-clause-too_long
returns-clause-too_long g c =
    let left = g.S.Source.left in
    let h = c.in_ok-read_all.ensures.ok in
    ok_long c.close.new.session.responder (left c.args.source.now) (left c.read_all.new.source) h.bytes
    c.in_ok-read_all.field-0 h.consumed h.counted c.in_ok-read_all.ensures.whole.short
