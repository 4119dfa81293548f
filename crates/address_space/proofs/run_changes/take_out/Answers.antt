use Rattle.std.proofs.Common.{◌≤◌, arith}
use Rattle.meminterval.specs.Tree.{entries}
use Rattle.address_space.proofs.OneRun.{run_apart}
use Rattle.address_space.proofs.RunChanges.{none_taken, taken_below, taken_on}
use Rattle.address_space.proofs.run_changes.take_out.Goals as goal

pub loop-run-init : goal.loop-run-init
loop-run-init c = none_taken (entries c.args.runs.now) c.args.first c.args.end c.requires.follow c.requires.order c.requires.apart

pub loop-run-smaller : goal.loop-run-smaller
loop-run-smaller c =
    let run = c.in-Some.run' in
    let starts = c.in-Some.ensures.starts in
    let stop : run.end ≤ c.loop-run.at = run_apart (entries c.loop-run.runs) run.start run.end run.rights c.loop-run.at
    c.in-Some.ensures.run c.loop-run.invariant.apart starts in
    omega (arith, starts, stop, c.if-run-first.false, c.max-from.ensures)

pub loop-run-preserved : goal.loop-run-preserved
loop-run-preserved c =
    let run = c.in-Some.run' in
    let starts = c.in-Some.ensures.starts in
    let some = c.in-Some.ensures.run.some in
    let over = c.if-run-first.false in
    let is = c.max-from.ensures in
    taken_on (entries c.args.runs.now) (entries c.loop-run.runs) (entries c.cut.new.runs) c.args.first c.loop-run.at
    c.args.end run.start run.end c.max-from.result run.rights c.loop-run.invariant c.in-Some.ensures.run starts over
    c.in-Some.ensures.last
    (omega (arith, is)) (omega (arith, is)) (omega (arith, is, some, over)) c.cut.ensures

pub returns-then-run-first : goal.returns-then-run-first
returns-then-run-first c =
    let inv = c.loop-run.invariant in
    taken_below (entries c.args.runs.now) (entries c.loop-run.runs) c.args.first c.loop-run.at c.args.end inv.cut inv.from inv.to
    (λ any from below. c.in-Some.ensures.last any (let h = c.if-run-first.true in omega (arith, h, from)) below)

pub returns : goal.returns
returns c =
    let inv = c.loop-run.invariant in
    taken_below (entries c.args.runs.now) (entries c.loop-run.runs) c.args.first c.loop-run.at c.args.end inv.cut inv.from inv.to
    (λ any from below. c.in_default.ensures.none any (omega arith) below)
