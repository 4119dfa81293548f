use Rattle.std.proofs.Common.{◌^◌, arith}
use Rattle.meminterval.specs.Tree.{entries}
use Rattle.address_space.proofs.Splits.{follow_length}
use Rattle.address_space.proofs.OneRun.{run_follow, own_run, inserted_inside, two_runs, shortened}
use Rattle.address_space.proofs.Cutting.{split_set}
use Rattle.address_space.proofs.run_changes.split.Goals as goal

pub insert-requires-clause-room : goal.insert-requires-clause-room
insert-requires-clause-room c =
    let es = entries c.args.runs.now in
    let run = c.args.run in
    let h = follow_length 0 es (2 ^ 52) (run_follow es run.start run.end run.rights c.requires.run) in omega (arith, h)

pub shorten-requires-clause-alone : goal.shorten-requires-clause-alone
shorten-requires-clause-alone c =
    let es = entries c.args.runs.now in
    let one = entries c.insert.new.self in
    let run = c.args.run in
    let page = c.args.page in
    let is = inserted_inside es one run.start run.end page run.rights c.args.rights c.new.result c.requires.run
    c.requires.above c.requires.below c.new.ensures.start c.new.ensures.end c.in_ok-insert.ensures.ok in
    own_run one run.start run.end page run.rights c.new-2.result (two_runs es one run.start run.end page run.rights
    c.args.rights c.requires.run c.requires.above c.requires.below is) c.new-2.ensures.start c.new-2.ensures.end

pub returns-clause-ok : goal.returns-clause-ok
returns-clause-ok c =
    let es = entries c.args.runs.now in
    let one = entries c.insert.new.self in
    let new = entries c.shorten.new.self in
    let run = c.args.run in
    let page = c.args.page in
    let is = inserted_inside es one run.start run.end page run.rights c.args.rights c.new.result c.requires.run
    c.requires.above c.requires.below c.new.ensures.start c.new.ensures.end c.in_ok-insert.ensures.ok in
    let two = two_runs es one run.start run.end page run.rights c.args.rights c.requires.run c.requires.above c.requires.below is in
    split_set es new run.start run.end page run.rights c.args.rights c.requires.run c.requires.above c.requires.below
    (shortened one new run.start run.end page page run.rights c.new-2.result two c.new-2.ensures.start c.new-2.ensures.end c.shorten.ensures.pairs)
