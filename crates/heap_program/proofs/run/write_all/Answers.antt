use Rattle.std.proofs.Common.{ℕ, List, take, drop, sym, subst, arith}
use Rattle.std.proofs.Math.Seq.{take-add}
use Rattle.std.proofs.lemmas.List.{take_rest}
use Rattle.std.specs.Io.KnownBytes.{Appends}
use Rattle.heap_program.proofs.Known.{appends_more}
use Rattle.heap_program.proofs.run.write_all.Goals as goal

pub loop-written-preserved : goal.loop-written-preserved
loop-written-preserved g c =
    let taken = g.K.Sink.taken in
    let bytes = c.args.bytes.now in
    let w = c.loop-written.written in
    let n = c.in_ok-written.field-0 in
    record {
      within = omega (arith, c.in_ok-written.ensures.within);
      told = subst (Appends (taken c.args.sink.now) (taken c.write.new.self)) (sym (take-add w n bytes))
          (appends_more (taken c.args.sink.now) (taken c.loop-written.sink) (taken c.write.new.self) (take w bytes)
          (take n (drop w bytes)) c.loop-written.invariant.told (subst (λ (l : List ℕ).
          Appends (taken c.loop-written.sink) (taken c.write.new.self) (take n l)) (take_rest bytes w)
          c.in_ok-written.ensures.told));
      later = omega arith;
    }
