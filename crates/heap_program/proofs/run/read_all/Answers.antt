use Rattle.std.proofs.Common.{◌≡◌, ◌+◌, ℕ, take, length, refl, ap, subst, arith, length-take-le, ◌⊎◌, inl, inr, sym}
use Rattle.std.specs.Io.KnownBytes.{Consumes}
use Rattle.heap_program.specs.Lines.{IsOneLine}
use Rattle.heap_program.specs.Stop.{HasRead}
use Rattle.heap_program.specs.declared.run.Stop.TheVariants.{Memory, ReadFault, WriteFault, TooLong}
use Rattle.heap_program.proofs.Errors.{if_err}
use Rattle.heap_program.proofs.Wholes.{read_none, read_more, read_end, stopped_before, stopped_after, stopped_writing, of_sink, sink_isnt, read_isnt}
use Rattle.heap_program.specs.declared.run.Stop.{Stop}
use Rattle.heap_program.proofs.run.read_all.Goals as goal

pub pieces-init : goal.pieces-init
pieces-init g c = record {
  read = read_none g.R.Respond.responds c.args.session.now (g.S.Source.left c.args.source.now)
      (g.K.Sink.taken c.args.sink.now) c.requires (g.met.R.Respond.responds_none c.args.session.now.responder);
  short = omega arith;
  empty = c.requires.output;
  up_to_date = inl refl;
  one_line = subst IsOneLine (sym c.requires.line) tt;
  read_later = omega arith;
  write_later = omega arith;
}

pub returns-in_err-n-clause-err : goal.returns-in_err-n-clause-err
returns-in_err-n-clause-err g c = if_err c.from_residual.result (λ stop. stop ≡ ReadFault) c.from_residual.ensures.1 (λ stop made.
    let left = g.S.Source.left in
    stopped_before g.R.Respond.responds c.args.session.now.responder c.pieces.session.responder c.pieces.session.line stop
    (left c.args.source.now) (left c.pieces.source) (left c.read.new.self) (g.K.Sink.taken c.args.sink.now)
    (g.K.Sink.taken c.pieces.sink) c.pieces.count
    c.pieces.invariant.read c.pieces.invariant.one_line c.in_err-n.ensures.err c.pieces.invariant.short (λ is. read_isnt stop made is))

pub returns-then-n-eq0-clause-ok : goal.returns-then-n-eq0-clause-ok
returns-then-n-eq0-clause-ok g c =
    let left = g.S.Source.left in
    read_end g.R.Respond.responds c.args.session.now.responder c.pieces.session.responder c.pieces.session.line
    (left c.args.source.now) (left c.pieces.source) (left c.read.new.self) (g.K.Sink.taken c.args.sink.now)
    (g.K.Sink.taken c.pieces.sink) c.pieces.count
    c.pieces.invariant.read (subst (λ (n : ℕ). Consumes (left c.pieces.source) (left c.read.new.self)
    (take n c.read.new.buf)) c.if-n-eq0.true c.in_ok-n.ensures.told)

pub returns-then-count-gt-LONGEST_INPUT-clause-err : goal.returns-then-count-gt-LONGEST_INPUT-clause-err
returns-then-count-gt-LONGEST_INPUT-clause-err g c =
    let left = g.S.Source.left in
    let n = c.in_ok-n.n in
    stopped_after g.R.Respond.responds c.args.session.now.responder c.pieces.session.responder c.pieces.session.line TooLong
    (left c.args.source.now) (left c.pieces.source) (left c.read.new.self) (g.K.Sink.taken c.args.sink.now)
    (g.K.Sink.taken c.pieces.sink) c.pieces.count n (take n c.read.new.buf)
    c.pieces.invariant.read c.pieces.invariant.one_line c.in_ok-n.ensures.told
    (length-take-le n c.read.new.buf (omega (arith, c.in_ok-n.ensures.within, c.read.auto.buf)))
    c.pieces.invariant.short (omega (arith, c.in_ok-n.ensures.within)) (λ is. cc) (λ is. omega arith) (λ long. refl)

pub returns-in_err-feed-clause-err : goal.returns-in_err-feed-clause-err
returns-in_err-feed-clause-err g c = if_err c.from_residual-in_err-feed.result (λ stop. stop ≡ Memory) c.from_residual-in_err-feed.ensures.1 (λ stop made.
    let left = g.S.Source.left in
    let n = c.in_ok-n.n in
    stopped_after g.R.Respond.responds c.args.session.now.responder c.pieces.session.responder c.pieces.session.line stop
    (left c.args.source.now) (left c.pieces.source) (left c.read.new.self) (g.K.Sink.taken c.args.sink.now)
    (g.K.Sink.taken c.pieces.sink) c.pieces.count n (take n c.read.new.buf)
    c.pieces.invariant.read c.pieces.invariant.one_line c.in_ok-n.ensures.told
    (length-take-le n c.read.new.buf (omega (arith, c.in_ok-n.ensures.within, c.read.auto.buf)))
    c.pieces.invariant.short (omega (arith, c.in_ok-n.ensures.within)) (sink_isnt stop (inl made))
    (λ is. absurd (of_sink stop (inl made) is)) (λ long. absurd (omega (arith, long))))

pub pieces-preserved : goal.pieces-preserved
pieces-preserved g c =
    let left = g.S.Source.left in
    let taken = g.K.Sink.taken in
    let n = c.in_ok-n.n in
    let buf = c.read.new.buf in
    let len : length (take n buf) ≡ n = length-take-le n buf (omega (arith, c.in_ok-n.ensures.within, c.read.auto.buf)) in
    record {
      read =
          subst (HasRead g.R.Respond.responds c.args.session.now.responder c.feed.new.self.responder c.feed.new.self.line
          (left c.args.source.now) (left c.read.new.self) (taken c.args.sink.now) (taken c.write_out.new.sink))
          (ap (λ (k : ℕ). c.pieces.count + k) len)
          (read_more g.R.Respond.responds g.met.R.Respond.responds_on c.args.session.now.responder c.pieces.session
          c.feed.new.self (left c.args.source.now) (left c.pieces.source) (left c.read.new.self) (taken c.args.sink.now)
          (taken c.pieces.sink) (taken c.write_out.new.sink) c.pieces.count (take n buf)
          c.pieces.invariant.read c.pieces.invariant.empty c.in_ok-n.ensures.told c.in_ok-feed.ensures.fed c.in_ok-write_out.ensures.ok);
      short = omega arith;
      empty = c.in_ok-write_out.ensures.emptied;
      up_to_date = inr c.in_ok-write_out.ensures.flushed;
      one_line = c.in_ok-feed.ensures.one_line;
      read_later = omega arith;
      write_later = omega arith;
    }

pub returns-in_err-write_out-clause-err : goal.returns-in_err-write_out-clause-err
returns-in_err-write_out-clause-err g c = if_err c.from_residual-in_err-write_out.result
    (λ stop. stop ≡ c.in_err-write_out.field-0.0) c.from_residual-in_err-write_out.ensures.1 (λ stop made.
    let left = g.S.Source.left in
    let taken = g.K.Sink.taken in
    let n = c.in_ok-n.n in
    let buf = c.read.new.buf in
    let len : length (take n buf) ≡ n = length-take-le n buf (omega (arith, c.in_ok-n.ensures.within, c.read.auto.buf)) in
    let failed = c.in_err-write_out.ensures in
    let part = failed.err in
    let which = subst (λ (e : Stop). (e ≡ Memory) ⊎ (e ≡ WriteFault)) (sym made) failed.faults.which in
    stopped_writing g.R.Respond.responds g.met.R.Respond.responds_on c.args.session.now.responder c.pieces.session
    c.feed.new.self stop (left c.args.source.now) (left c.pieces.source) (left c.read.new.self) (taken c.args.sink.now)
    (taken c.pieces.sink) (taken c.write_out.new.sink) c.pieces.count part.0 (take n buf)
    c.pieces.invariant.read c.pieces.invariant.empty c.in_ok-n.ensures.told c.in_ok-feed.ensures.fed part.1
    (omega (arith, len)) (of_sink stop which) (sink_isnt stop which) c.pieces.invariant.one_line
    (omega (arith, len, c.in_ok-n.ensures.within, c.read.auto.buf)))
