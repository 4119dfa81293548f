use Rattle.std.proofs.Common.{◌≡◌}
use Rattle.std.specs.Io.KnownBytes.{Keeps}
use Rattle.heap_program.proofs.sink.WriterSinkSink.write.Given as goal

abbrev pub invariant-tries : goal.invariant-tries
invariant-tries g l =
    record {
      kept : Keeps (g.W.Write.contents l.fn.self.writer) (g.W.Write.contents l.self.writer);
      same : l.self.faults ≡ l.fn.self.faults;
    }
