use Rattle.std.proofs.Common.{◌*◌, true, refl, arith}
use Rattle.paging_core.proofs.Runs.{inserting_none, inserting_more, out_run_in, part_run}
use Rattle.paging_core.proofs.pool.insert_run.Goals as goal

pub overflow_mul-first : goal.overflow_mul-first
overflow_mul-first c = omega (arith, out_run_in c.args.free.now c.args.run c.requires.out, c.requires.bounded)

pub overflow_add-number-end : goal.overflow_add-number-end
overflow_add-number-end c = omega (arith, out_run_in c.args.free.now c.args.run c.requires.out, c.requires.bounded)

pub loop-number-init : goal.loop-number-init
loop-number-init c = inserting_none c.args.free.now (c.args.run * 512)

pub insert-requires : goal.insert-requires
insert-requires c =
    (inserting_more c.args.free.now c.loop-number.free c.args.run (c.args.run * 512) c.loop-number.number refl
    c.loop-number-test.true c.requires.out c.loop-number.invariant).0

pub loop-number-preserved : goal.loop-number-preserved
loop-number-preserved c =
    rw c.insert.ensures
    (inserting_more c.args.free.now c.loop-number.free c.args.run (c.args.run * 512) c.loop-number.number refl
    c.loop-number-test.true c.requires.out c.loop-number.invariant).1

pub returns-clause-set : goal.returns-clause-set
returns-clause-set c =
    part_run c.args.free.now c.loop-number.free c.args.run (c.args.run * 512) c.loop-number.number true refl
    (let a = c.loop-number.invariant.below in let b = c.loop-number-test.false in omega arith) c.loop-number.invariant.part

pub returns-clause-count : goal.returns-clause-count
returns-clause-count c =
    let n = c.loop-number.invariant.count in let a = c.loop-number.invariant.below in let b = c.loop-number-test.false in omega arith
