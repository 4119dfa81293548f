use Rattle.std.proofs.Common.{arith}
use Rattle.meminterval.specs.Tree.{entries}
use Rattle.address_space.proofs.OneRun.{run_rights, run_within}
use Rattle.address_space.proofs.runs.run_at.Goals as goal

pub returns : goal.returns
returns c =
    let es = entries c.args.runs.now in
    let run = c.in-Some.run' in
    let h = c.in-Some.ensures.run in
    let starts = c.in-Some.ensures.starts in
    record {
      run = h;
      from = omega (arith, starts);
      more = omega (arith, c.if-run-page.false);
      within = run_within es run.start run.end run.rights h;
      pages = λ any from to. run_rights es run.start run.end run.rights any h from to;
    }
