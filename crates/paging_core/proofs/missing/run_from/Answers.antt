use Rattle.std.proofs.Common.{◌≡◌, ◌<◌, ◌-◌, ◌+◌, ◌*◌, ◌%◌, ◌^◌, arith}
use Rattle.std.proofs.lemmas.Nat.{one_shl, pow_pos}
use Rattle.paging_core.proofs.Counts.{absent_block, run_end, absent_one_here}
use Rattle.paging_core.proofs.missing.run_from.Goals as goal

pub returns-then-met-level-clause-count : goal.returns-then-met-level-clause-count
returns-then-met-level-clause-count g c =
    let e : c.args.from + 1 - c.args.from ≡ 1 = omega arith in
    rw e (absent_one_here (g.M.PhysicalMemory.words c.args.frames.now) c.args.root c.args.level c.args.from (c.depth-met.ensures.there c.if-met-level.true))

pub returns-clause-count : goal.returns-clause-count
returns-clause-count g c =
    let lt : c.depth-met.result < c.args.level = omega arith in
    let b = one_shl (9 * (c.args.level - (c.depth-met.result + 1))) 64 (omega arith) in
    let r = run_end c.args.from c.args.last (2 ^ (9 * (c.args.level - (c.depth-met.result + 1))))
    (1 * 2 ^ (9 * (c.args.level - (c.depth-met.result + 1))) % 2 ^ 64) c.min.result
    b (pow_pos (9 * (c.args.level - (c.depth-met.result + 1)))) c.requires.prefixes.ordered c.min.ensures in
    absent_block (g.M.PhysicalMemory.words c.args.frames.now) c.args.root c.args.level c.depth-met.result c.args.from
    c.min.result (omega arith) lt (c.depth-met.ensures.absent lt) r.0 r.1
