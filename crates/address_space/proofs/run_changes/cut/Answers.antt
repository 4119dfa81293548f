use Rattle.std.proofs.Common.{arith}
use Rattle.meminterval.specs.Tree.{entries}
use Rattle.address_space.proofs.OneRun.{among, own_run}
use Rattle.address_space.proofs.Cutting.{cut_short, cut_whole}
use Rattle.address_space.proofs.run_changes.cut.Goals as goal

pub shorten-requires-clause-alone : goal.shorten-requires-clause-alone
shorten-requires-clause-alone c =
    let es = entries c.args.runs.now in
    let run = c.args.run in
    own_run es run.start run.end run.end run.rights c.new-pages.result
    (among es run.start run.end run.rights c.requires.run) c.new-pages.ensures.start c.new-pages.ensures.end

pub returns-then-run-from : goal.returns-then-run-from
returns-then-run-from c =
    let run = c.args.run in
    cut_short (entries c.args.runs.now) (entries c.shorten.new.self) run.start run.end c.args.from run.rights
    c.new-pages.result c.requires.run c.if-run-from.true c.requires.below c.new-pages.ensures.start
    c.new-pages.ensures.end c.shorten.ensures.pairs

pub returns-else-run-from : goal.returns-else-run-from
returns-else-run-from c =
    let run = c.args.run in
    let from = c.requires.from in
    let to = c.if-run-from.false in
    cut_whole (entries c.args.runs.now) (entries c.delete.new.self) run.start run.end c.args.from run.rights
    c.new-pages.result c.requires.run (omega (arith, from, to)) c.new-pages.ensures.start c.new-pages.ensures.end
    c.delete.ensures
