use Rattle.std.proofs.Common.{rules, inl, inr, Ok, Err, refl, sym, ap, subst}
use Rattle.std.specs.Prelude.{List, string_bytes}
use Rattle.dlmalloc_chunks.specs.declared.extent.Extent.{Extent}
use Rattle.dlmalloc_chunks.specs.Tiling.{AreInSegments}
use Rattle.heap_program.specs.declared.run.Stop.{Stop}
use Rattle.heap_program.specs.declared.run.Stop.TheVariants.{Memory, ReadFault, WriteFault}
use Rattle.heap_program.proofs.Errors.{on_err}
use Rattle.heap_report.specs.Noting.{IsBegunWith}
use Rattle.heap_report.proofs.Lengths.{stopped_long, read_long, stop_is, not_long, not_read}
use Rattle.heap_report.proofs.Whole.{served_input, silent_read, silent_stop, part_stopped, part_read, part_written, told, whole, text_is}
use Rattle.heap_report.proofs.tell.tell_run.Goals as goal

-- the input could not be read
pub returns-in_err-read_all-clause-part : goal.returns-in_err-read_all-clause-part
returns-in_err-read_all-clause-part g c = on_err c.from_residual.result (λ s at none.
    let left = g.S.Source.left in
    let taken = g.K.Sink.taken in
    part_stopped g.T.Tell.keeps g.T.Tell.text s c.args.machine c.new-session.result.responder c.in_err-read_all.field-0.0
    (left c.args.source.now) (left c.read_all.new.source) (taken c.args.sink.now) (taken c.read_all.new.sink)
    c.in_err-read_all.ensures.err)

pub returns-in_err-read_all-clause-silent : goal.returns-in_err-read_all-clause-silent
returns-in_err-read_all-clause-silent g c which =
    let left = g.S.Source.left in
    let taken = g.K.Sink.taken in
    silent_stop g.T.Tell.keeps c.new-session.result.responder c.in_err-read_all.field-0.0 (left c.args.source.now)
    (left c.read_all.new.source) (taken c.args.sink.now) (taken c.read_all.new.sink) c.in_err-read_all.ensures.err

pub returns-in_err-read_all-clause-too_long : goal.returns-in_err-read_all-clause-too_long
returns-in_err-read_all-clause-too_long g c =
    let left = g.S.Source.left in
    let h = c.in_err-read_all.ensures.err in
    stopped_long c.from_residual.result c.in_err-read_all.field-0.0 (left c.args.source.now) (left c.read_all.new.source)
    h.bytes c.from_residual.ensures.1 h.consumed h.too_long

pub returns-in_err-read_all-clause-read_cause : goal.returns-in_err-read_all-clause-read_cause
returns-in_err-read_all-clause-read_cause g c is =
    let r = c.from_residual in
    let stop = c.in_err-read_all.field-0.0 in
    c.in_err-read_all.ensures.faults.read_cause (ap (λ (e : Stop). Err e) (stop_is r.result stop ReadFault r.ensures.1 is))

pub returns-in_err-read_all-clause-write_cause : goal.returns-in_err-read_all-clause-write_cause
returns-in_err-read_all-clause-write_cause g c is =
    let r = c.from_residual in
    let stop = c.in_err-read_all.field-0.0 in
    c.in_err-read_all.ensures.faults.write_cause (ap (λ (e : Stop). Err e) (stop_is r.result stop WriteFault r.ensures.1 is))

-- the last line could not be served
pub returns-in_err-end-clause-part : goal.returns-in_err-end-clause-part
returns-in_err-end-clause-part g c = on_err c.from_residual-in_err-end.result (λ s at none.
    let left = g.S.Source.left in
    let taken = g.K.Sink.taken in
    part_read g.T.Tell.keeps g.T.Tell.text s c.args.machine c.new-session.result.responder c.read_all.new.session.responder
    c.read_all.new.session.line (left c.args.source.now) (left c.read_all.new.source) (taken c.args.sink.now)
    (taken c.read_all.new.sink) c.in_ok-read_all.field-0 c.in_ok-read_all.ensures.ok
    c.in_ok-read_all.ensures.whole.short)

pub returns-in_err-end-clause-silent : goal.returns-in_err-end-clause-silent
returns-in_err-end-clause-silent g c which =
    let left = g.S.Source.left in
    let taken = g.K.Sink.taken in
    silent_read g.T.Tell.keeps c.new-session.result.responder c.read_all.new.session.responder c.read_all.new.session.line
    (left c.args.source.now) (left c.read_all.new.source) (taken c.args.sink.now) (taken c.read_all.new.sink)
    c.in_ok-read_all.field-0 c.in_ok-read_all.ensures.ok

pub returns-in_err-end-clause-too_long : goal.returns-in_err-end-clause-too_long
returns-in_err-end-clause-too_long g c =
    let left = g.S.Source.left in
    let h = c.in_ok-read_all.ensures.ok in
    let r = c.from_residual-in_err-end in
    read_long r.result (left c.args.source.now) (left c.read_all.new.source) h.bytes c.in_ok-read_all.field-0
    (not_long r.result Memory r.ensures.1 (inl refl)) h.consumed h.counted c.in_ok-read_all.ensures.whole.short

pub returns-in_err-end-clause-read_cause : goal.returns-in_err-end-clause-read_cause
returns-in_err-end-clause-read_cause g c is less = absurd (not_read c.from_residual-in_err-end.result Memory c.from_residual-in_err-end.ensures.1 (inl refl) is)

-- the extents could not be kept
pub returns-in_err-listed-clause-part : goal.returns-in_err-listed-clause-part
returns-in_err-listed-clause-part g c = on_err c.from_residual-in_err-listed.result (λ s at none.
    let left = g.S.Source.left in
    let taken = g.K.Sink.taken in
    part_read g.T.Tell.keeps g.T.Tell.text s c.args.machine c.new-session.result.responder c.read_all.new.session.responder
    c.read_all.new.session.line (left c.args.source.now) (left c.read_all.new.source) (taken c.args.sink.now)
    (taken c.read_all.new.sink) c.in_ok-read_all.field-0 c.in_ok-read_all.ensures.ok
    c.in_ok-read_all.ensures.whole.short)

pub returns-in_err-listed-clause-silent : goal.returns-in_err-listed-clause-silent
returns-in_err-listed-clause-silent g c which =
    let left = g.S.Source.left in
    let taken = g.K.Sink.taken in
    silent_read g.T.Tell.keeps c.new-session.result.responder c.read_all.new.session.responder c.read_all.new.session.line
    (left c.args.source.now) (left c.read_all.new.source) (taken c.args.sink.now) (taken c.read_all.new.sink)
    c.in_ok-read_all.field-0 c.in_ok-read_all.ensures.ok

pub returns-in_err-listed-clause-too_long : goal.returns-in_err-listed-clause-too_long
returns-in_err-listed-clause-too_long g c =
    let left = g.S.Source.left in
    let h = c.in_ok-read_all.ensures.ok in
    let r = c.from_residual-in_err-listed in
    read_long r.result (left c.args.source.now) (left c.read_all.new.source) h.bytes c.in_ok-read_all.field-0
    (not_long r.result Memory r.ensures.1 (inl refl)) h.consumed h.counted c.in_ok-read_all.ensures.whole.short

pub returns-in_err-listed-clause-read_cause : goal.returns-in_err-listed-clause-read_cause
returns-in_err-listed-clause-read_cause g c is less = absurd (not_read c.from_residual-in_err-listed.result Memory
    c.from_residual-in_err-listed.ensures.1 (inl refl) is)

-- the text could not be made
pub returns-in_err-push-clause-part : goal.returns-in_err-push-clause-part
returns-in_err-push-clause-part g c = on_err c.from_residual-in_err-push.result (λ s at none.
    let left = g.S.Source.left in
    let taken = g.K.Sink.taken in
    part_read g.T.Tell.keeps g.T.Tell.text s c.args.machine c.new-session.result.responder c.read_all.new.session.responder
    c.read_all.new.session.line (left c.args.source.now) (left c.read_all.new.source) (taken c.args.sink.now)
    (taken c.read_all.new.sink) c.in_ok-read_all.field-0 c.in_ok-read_all.ensures.ok
    c.in_ok-read_all.ensures.whole.short)

pub returns-in_err-push-clause-silent : goal.returns-in_err-push-clause-silent
returns-in_err-push-clause-silent g c which =
    let left = g.S.Source.left in
    let taken = g.K.Sink.taken in
    silent_read g.T.Tell.keeps c.new-session.result.responder c.read_all.new.session.responder c.read_all.new.session.line
    (left c.args.source.now) (left c.read_all.new.source) (taken c.args.sink.now) (taken c.read_all.new.sink)
    c.in_ok-read_all.field-0 c.in_ok-read_all.ensures.ok

pub returns-in_err-push-clause-too_long : goal.returns-in_err-push-clause-too_long
returns-in_err-push-clause-too_long g c =
    let left = g.S.Source.left in
    let h = c.in_ok-read_all.ensures.ok in
    let r = c.from_residual-in_err-push in
    read_long r.result (left c.args.source.now) (left c.read_all.new.source) h.bytes c.in_ok-read_all.field-0
    (not_long r.result Memory r.ensures.1 (inl refl)) h.consumed h.counted c.in_ok-read_all.ensures.whole.short

pub returns-in_err-push-clause-read_cause : goal.returns-in_err-push-clause-read_cause
returns-in_err-push-clause-read_cause g c is less = absurd (not_read c.from_residual-in_err-push.result Memory
    c.from_residual-in_err-push.ensures.1 (inl refl) is)

-- the text could not be written whole
pub returns-in_err-write_out-clause-part : goal.returns-in_err-write_out-clause-part
returns-in_err-write_out-clause-part g c = on_err c.from_residual-in_err-write_out.result (λ s at none.
    let left = g.S.Source.left in
    let taken = g.K.Sink.taken in
    let first = c.new-session.result.responder in
    let last = c.read_all.new.session in
    let end = c.end.new.self.responder in
    let listed = c.in_ok-listed.listed in
    let h = c.in_ok-read_all.ensures.ok in
    let begun = subst (λ noted. IsBegunWith g.T.Tell.keeps c.args.machine noted) (sym c.new-session.ensures.responder) c.new.ensures in
    let served = served_input g.T.Tell.keeps first last.responder end last.line (left c.args.source.now)
    (left c.read_all.new.source) (taken c.args.sink.now) (taken c.read_all.new.sink) c.in_ok-read_all.field-0
    (string_bytes last.output) (string_bytes c.end.new.self.output) h c.in_ok-end.ensures in
    let w = whole g.T.Tell.keeps s c.args.machine first end listed h.bytes at none begun served c.in_ok-listed.ensures in
    let part = c.in_err-write_out.ensures.err in
    part_written g.T.Tell.keeps g.T.Tell.text s c.args.machine first last.responder end.kept listed last.line
    (string_bytes c.push.new.output) (left c.args.source.now) (left c.read_all.new.source) (taken c.args.sink.now)
    (taken c.read_all.new.sink) (taken c.write_out.new.sink) c.in_ok-read_all.field-0 part.0
    h c.in_ok-read_all.ensures.whole.short c.in_ok-read_all.ensures.whole.end w (text_is g.T.Tell.keeps g.T.Tell.text s
    c.args.machine h.bytes end.kept listed c.as_slice.result.now (string_bytes c.push.new.output)
    (string_bytes c.new-output.result) w c.as_slice.ensures c.in_ok-push.ensures (search rules)) part.1)

pub returns-in_err-write_out-clause-silent : goal.returns-in_err-write_out-clause-silent
returns-in_err-write_out-clause-silent g c which =
    let r = c.from_residual-in_err-write_out in
    let failed = c.in_err-write_out in
    absurd (elim which [
      | inl read ↦ not_read r.result failed.field-0.0 r.ensures.1 failed.ensures.faults.which read
      | inr long ↦ not_long r.result failed.field-0.0 r.ensures.1 failed.ensures.faults.which long
    ])

pub returns-in_err-write_out-clause-too_long : goal.returns-in_err-write_out-clause-too_long
returns-in_err-write_out-clause-too_long g c =
    let left = g.S.Source.left in
    let h = c.in_ok-read_all.ensures.ok in
    let r = c.from_residual-in_err-write_out in
    read_long r.result (left c.args.source.now) (left c.read_all.new.source) h.bytes c.in_ok-read_all.field-0
    (not_long r.result c.in_err-write_out.field-0.0 r.ensures.1 c.in_err-write_out.ensures.faults.which) h.consumed
    h.counted c.in_ok-read_all.ensures.whole.short

pub returns-in_err-write_out-clause-read_cause : goal.returns-in_err-write_out-clause-read_cause
returns-in_err-write_out-clause-read_cause g c is less =
    let r = c.from_residual-in_err-write_out in
    absurd (not_read r.result c.in_err-write_out.field-0.0 r.ensures.1 c.in_err-write_out.ensures.faults.which is)

-- it was written
pub returns-clause-told : goal.returns-clause-told
returns-clause-told g c s at none =
    let left = g.S.Source.left in
    let taken = g.K.Sink.taken in
    let first = c.new-session.result.responder in
    let last = c.read_all.new.session in
    let end = c.end.new.self.responder in
    let listed = c.in_ok-listed.listed in
    let h = c.in_ok-read_all.ensures.ok in
    let begun = subst (λ noted. IsBegunWith g.T.Tell.keeps c.args.machine noted) (sym c.new-session.ensures.responder) c.new.ensures in
    let served = served_input g.T.Tell.keeps first last.responder end last.line (left c.args.source.now)
    (left c.read_all.new.source) (taken c.args.sink.now) (taken c.read_all.new.sink) c.in_ok-read_all.field-0
    (string_bytes last.output) (string_bytes c.end.new.self.output) h c.in_ok-end.ensures in
    let w = whole g.T.Tell.keeps s c.args.machine first end listed h.bytes at none begun served c.in_ok-listed.ensures in
    told g.T.Tell.keeps g.T.Tell.text s c.args.machine first last.responder end.kept listed last.line
    (string_bytes c.push.new.output) (left c.args.source.now) (left c.read_all.new.source) (taken c.args.sink.now)
    (taken c.read_all.new.sink) (taken c.write_out.new.sink) (g.K.Sink.flushed c.write_out.new.sink)
    c.in_ok-read_all.field-0
    h c.in_ok-read_all.ensures.whole.end w (text_is g.T.Tell.keeps g.T.Tell.text s c.args.machine h.bytes end.kept
    listed c.as_slice.result.now (string_bytes c.push.new.output) (string_bytes c.new-output.result) w
    c.as_slice.ensures
    c.in_ok-push.ensures (search rules)) c.in_ok-write_out.ensures.ok c.in_ok-write_out.ensures.flushed

pub returns-clause-too_long : goal.returns-clause-too_long
returns-clause-too_long g c =
    let left = g.S.Source.left in
    let h = c.in_ok-read_all.ensures.ok in
    read_long (Ok c.in_ok-listed.listed) (left c.args.source.now) (left c.read_all.new.source) h.bytes
    c.in_ok-read_all.field-0 (λ is. cc) h.consumed h.counted c.in_ok-read_all.ensures.whole.short

-- the extents that the run leaves are those of a heap
pub push-requires : goal.push-requires
push-requires g c =
    let left = g.S.Source.left in
    let taken = g.K.Sink.taken in
    let first = c.new-session.result.responder in
    let last = c.read_all.new.session in
    let end = c.end.new.self.responder in
    let listed = c.in_ok-listed.listed in
    let h = c.in_ok-read_all.ensures.ok in
    let begun = subst (λ noted. IsBegunWith g.T.Tell.keeps c.args.machine noted) (sym c.new-session.ensures.responder) c.new.ensures in
    let served = served_input g.T.Tell.keeps first last.responder end last.line (left c.args.source.now)
    (left c.read_all.new.source) (taken c.args.sink.now) (taken c.read_all.new.sink) c.in_ok-read_all.field-0
    (string_bytes last.output) (string_bytes c.end.new.self.output) h c.in_ok-end.ensures in
    let w = whole g.T.Tell.keeps c.requires.0 c.args.machine first end listed h.bytes c.requires.1 c.requires.2 begun served c.in_ok-listed.ensures in
    subst (λ (l : List Extent). AreInSegments l) (sym c.as_slice.ensures) w.replay.tiles.extents_are.segments
