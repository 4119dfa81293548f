use Rattle.meminterval.specs.Tree.{entries}
use Rattle.address_space.proofs.OneRun.{run_follow, among, own_run}
use Rattle.address_space.proofs.Setting.{run_kept, spread_set}
use Rattle.address_space.proofs.run_changes.spread.Goals as goal

pub take_out-requires-clause-follow : goal.take_out-requires-clause-follow
take_out-requires-clause-follow c = let run = c.args.run in run_follow (entries c.args.runs.now) run.start run.end run.rights c.requires.run

pub shorten-requires-clause-alone : goal.shorten-requires-clause-alone
shorten-requires-clause-alone c =
    let run = c.args.run in
    let one = entries c.take_out.new.runs in
    let kept = run_kept (entries c.args.runs.now) one run.start run.end c.args.end run.rights c.requires.run
    c.requires.order c.requires.begins c.requires.apart c.take_out.ensures in
    own_run one run.start run.end run.end run.rights c.new.result (among one run.start run.end run.rights kept) c.new.ensures.start c.new.ensures.end

pub returns : goal.returns
returns c =
    let run = c.args.run in
    let one = entries c.take_out.new.runs in
    let kept = run_kept (entries c.args.runs.now) one run.start run.end c.args.end run.rights c.requires.run
    c.requires.order c.requires.begins c.requires.apart c.take_out.ensures in
    spread_set (entries c.args.runs.now) one (entries c.shorten.new.self) run.start run.end c.args.end run.rights
    c.new.result c.requires.run kept c.requires.order c.requires.within c.take_out.ensures c.new.ensures.start
    c.new.ensures.end c.shorten.ensures.pairs
