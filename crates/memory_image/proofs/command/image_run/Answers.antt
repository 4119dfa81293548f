use Rattle.std.proofs.Common.{inl, refl, subst, ap, Err}
use Rattle.heap_program.specs.declared.run.Stop.{Stop}
use Rattle.heap_program.specs.declared.run.Stop.TheVariants.{Memory, ReadFault, WriteFault}
use Rattle.heap_program.proofs.Wholes.{err_long, late_long, ok_long, sink_isnt, stop_is, stop_long}
use Rattle.memory_image.specs.declared.tracing.Traced.{Traced}
use Rattle.memory_image.specs.Imaged.{IsImaged}
use Rattle.memory_image.proofs.Imaging.{imaged}
use Rattle.memory_image.proofs.command.image_run.Goals as goal

-- the input could not be read
pub returns-in_err-read_all-clause-too_long : goal.returns-in_err-read_all-clause-too_long
returns-in_err-read_all-clause-too_long g c =
    let left = g.S.Source.left in
    let stop = c.in_err-read_all.field-0.0 in
    let h = c.in_err-read_all.ensures.err in
    stop_long (left c.args.source.now) (left c.read_all.new.source) c.from_residual.result stop c.from_residual.ensures.1
    (err_long (left c.args.source.now) (left c.read_all.new.source) h.bytes stop h.consumed h.too_long)

pub returns-in_err-read_all-clause-read_cause : goal.returns-in_err-read_all-clause-read_cause
returns-in_err-read_all-clause-read_cause g c is =
    let stop = c.in_err-read_all.field-0.0 in
    c.in_err-read_all.ensures.faults.read_cause
    (ap (λ (e : Stop). Err e) (stop_is c.from_residual.result stop ReadFault c.from_residual.ensures.1 is))

pub returns-in_err-read_all-clause-write_cause : goal.returns-in_err-read_all-clause-write_cause
returns-in_err-read_all-clause-write_cause g c is =
    let stop = c.in_err-read_all.field-0.0 in
    c.in_err-read_all.ensures.faults.write_cause
    (ap (λ (e : Stop). Err e) (stop_is c.from_residual.result stop WriteFault c.from_residual.ensures.1 is))

-- the last line could not be served
pub returns-in_err-end-clause-too_long : goal.returns-in_err-end-clause-too_long
returns-in_err-end-clause-too_long g c =
    let left = g.S.Source.left in
    let h = c.in_ok-read_all.ensures.ok in
    let r = c.from_residual-in_err-end in
    stop_long (left c.args.source.now) (left c.read_all.new.source) r.result Memory r.ensures.1
    (late_long (left c.args.source.now) (left c.read_all.new.source) h.bytes c.in_ok-read_all.field-0 h.consumed h.counted
    c.in_ok-read_all.ensures.whole.short Memory (inl refl))

pub returns-in_err-end-clause-read_cause : goal.returns-in_err-end-clause-read_cause
returns-in_err-end-clause-read_cause g c is less = absurd (sink_isnt Memory (inl refl)
    (stop_is c.from_residual-in_err-end.result Memory ReadFault c.from_residual-in_err-end.ensures.1 is))

-- the image could not be made
pub returns-in_err-push_image-clause-too_long : goal.returns-in_err-push_image-clause-too_long
returns-in_err-push_image-clause-too_long g c =
    let left = g.S.Source.left in
    let h = c.in_ok-read_all.ensures.ok in
    let r = c.from_residual-in_err-push_image in
    stop_long (left c.args.source.now) (left c.read_all.new.source) r.result Memory r.ensures.1
    (late_long (left c.args.source.now) (left c.read_all.new.source) h.bytes c.in_ok-read_all.field-0 h.consumed h.counted
    c.in_ok-read_all.ensures.whole.short Memory (inl refl))

pub returns-in_err-push_image-clause-read_cause : goal.returns-in_err-push_image-clause-read_cause
returns-in_err-push_image-clause-read_cause g c is less = absurd (sink_isnt Memory (inl refl)
    (stop_is c.from_residual-in_err-push_image.result Memory ReadFault c.from_residual-in_err-push_image.ensures.1 is))

-- the text could not be written whole
pub returns-in_err-write_out-clause-too_long : goal.returns-in_err-write_out-clause-too_long
returns-in_err-write_out-clause-too_long g c =
    let left = g.S.Source.left in
    let stop = c.in_err-write_out.field-0.0 in
    let h = c.in_ok-read_all.ensures.ok in
    let r = c.from_residual-in_err-write_out in
    stop_long (left c.args.source.now) (left c.read_all.new.source) r.result stop r.ensures.1
    (late_long (left c.args.source.now) (left c.read_all.new.source) h.bytes c.in_ok-read_all.field-0 h.consumed h.counted
    c.in_ok-read_all.ensures.whole.short stop c.in_err-write_out.ensures.faults.which)

pub returns-in_err-write_out-clause-read_cause : goal.returns-in_err-write_out-clause-read_cause
returns-in_err-write_out-clause-read_cause g c is less =
    absurd (sink_isnt c.in_err-write_out.field-0.0 c.in_err-write_out.ensures.faults.which
    (stop_is c.from_residual-in_err-write_out.result c.in_err-write_out.field-0.0 ReadFault
    c.from_residual-in_err-write_out.ensures.1 is))

-- it was written
pub returns-clause-imaged : goal.returns-clause-imaged
returns-clause-imaged g c =
    let left = g.S.Source.left in
    let taken = g.K.Sink.taken in
    let end = c.end.new.self.responder.machine in
    subst (λ (first : Traced). IsImaged first.machine (left c.args.source.now) (left c.read_all.new.source)
    (taken c.args.sink.now) (taken c.write_out.new.sink) (g.K.Sink.flushed c.write_out.new.sink) end)
    c.new-session.ensures.responder
    (imaged c.new-session.result.responder c.read_all.new.session.responder c.end.new.self.responder
    c.read_all.new.session.line (left c.args.source.now) (left c.read_all.new.source) (taken c.args.sink.now)
    (taken c.read_all.new.sink) (taken c.write_out.new.sink) (g.K.Sink.flushed c.write_out.new.sink)
    c.in_ok-read_all.field-0 _ _ _
    c.in_ok-read_all.ensures.ok c.in_ok-read_all.ensures.whole.end c.in_ok-read_all.ensures.whole.empty
    c.in_ok-end.ensures c.in_ok-push_image.ensures c.in_ok-write_out.ensures.ok c.in_ok-write_out.ensures.flushed)

pub returns-clause-too_long : goal.returns-clause-too_long
returns-clause-too_long g c =
    let left = g.S.Source.left in
    let h = c.in_ok-read_all.ensures.ok in
    ok_long c.end.new.self.responder.machine (left c.args.source.now) (left c.read_all.new.source) h.bytes
    c.in_ok-read_all.field-0 h.consumed h.counted c.in_ok-read_all.ensures.whole.short
