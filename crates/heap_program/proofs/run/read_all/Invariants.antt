use Rattle.std.proofs.Common.{◌≡◌, ◌≤◌, ◌-◌, ◌^◌, [], string_bytes}
use Rattle.heap_program.specs.Flushed.{IsUpToDate}
use Rattle.heap_program.specs.Lines.{IsOneLine}
use Rattle.heap_program.specs.Stop.{HasRead}
use Rattle.heap_program.proofs.run.read_all.Given as goal

abbrev pub invariant-pieces : goal.invariant-pieces
invariant-pieces g l =
    let left = g.S.Source.left in
    let taken = g.K.Sink.taken in
    record {
      read : HasRead g.R.Respond.responds l.fn.session.responder l.session.responder l.session.line (left l.fn.source)
          (left l.source) (taken l.fn.sink) (taken l.sink) l.count;
      short : l.count ≤ 2 ^ 30;
      empty : string_bytes l.session.output ≡ [];
      one_line : IsOneLine l.session.line;
      up_to_date : IsUpToDate taken g.K.Sink.flushed l.fn.sink l.sink;
      read_later : g.S.Source.faults l.fn.source ≤ g.S.Source.faults l.source;
      write_later : g.K.Sink.faults l.fn.sink ≤ g.K.Sink.faults l.sink;
    }

abbrev pub decreases-pieces : goal.decreases-pieces
decreases-pieces g l = 2 ^ 30 - l.count
