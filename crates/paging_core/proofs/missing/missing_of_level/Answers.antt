use Rattle.std.proofs.Common.{◌≡◌, ◌-◌, arith, ap, sym, ◌∙◌, cond}
use Rattle.paging_core.proofs.Counts.{absent, absent_none, absent_on}
use Rattle.paging_core.proofs.missing.missing_of_level.Goals as goal

pub loop-from-init : goal.loop-from-init
loop-from-init g c =
    let z : c.args.first - c.args.first ≡ 0 = omega arith in
    record {
      low = omega arith;
      high = omega arith;
      count = rw z (sym (absent_none (g.M.PhysicalMemory.words c.args.frames.now) c.args.root c.args.level c.args.first));
      bounded = omega arith;
    }

pub loop-from-preserved-then-run : goal.loop-from-preserved-then-run
loop-from-preserved-then-run g c =
    let on = absent_on (g.M.PhysicalMemory.words c.args.frames.now) c.args.root c.args.level c.args.first c.loop-from.from
    c.run_from-run.result.end c.loop-from.invariant.low (omega arith) in
    let n : absent (g.M.PhysicalMemory.words c.args.frames.now) c.args.root c.args.level c.loop-from.from
    (c.run_from-run.result.end - c.loop-from.from) ≡ c.run_from-run.result.end - c.loop-from.from =
    c.run_from-run.ensures.count ∙ ap (λ b. cond b (c.run_from-run.result.end - c.loop-from.from) 0) c.if-run.true in
    record { low = omega arith; high = c.run_from-run.ensures.within; count = omega (arith, on, n, c.loop-from.invariant.count); bounded = omega arith }

pub loop-from-preserved : goal.loop-from-preserved
loop-from-preserved g c =
    let on = absent_on (g.M.PhysicalMemory.words c.args.frames.now) c.args.root c.args.level c.args.first c.loop-from.from
    c.run_from-run.result.end c.loop-from.invariant.low (omega arith) in
    let n : absent (g.M.PhysicalMemory.words c.args.frames.now) c.args.root c.args.level c.loop-from.from (c.run_from-run.result.end - c.loop-from.from) ≡ 0 =
    c.run_from-run.ensures.count ∙ ap (λ b. cond b (c.run_from-run.result.end - c.loop-from.from) 0) c.if-run.false in
    record { low = omega arith; high = c.run_from-run.ensures.within; count = omega (arith, on, n, c.loop-from.invariant.count); bounded = omega arith }
