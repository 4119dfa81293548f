use Rattle.std.proofs.Common.{arith}
use Rattle.std.specs.Prelude.{Result, Ok, Err, IfErr, IsSome}
use Rattle.meminterval.specs.Tree.{entries}
use Rattle.address_space.proofs.Mapped.{is_some_of}
use Rattle.address_space.proofs.OneRun.{run_rights}
use Rattle.address_space.proofs.Cutting.{parted_by}
use Rattle.address_space.proofs.RunChanges.{parted_itself}
use Rattle.address_space.specs.Runs.{rights_in}
use Rattle.address_space.proofs.run_changes.part.Goals as goal

pub returns-in_default-clause-ok : goal.returns-in_default-clause-ok
returns-in_default-clause-ok c = parted_itself (entries c.args.runs.now) c.args.page c.requires.follow c.in_default.ensures.alone

pub returns-then-run-page-clause-ok : goal.returns-then-run-page-clause-ok
returns-then-run-page-clause-ok c = parted_itself (entries c.args.runs.now) c.args.page c.requires.follow (c.in-Some.ensures.apart c.if-run-page.true)

pub returns-clause-ok : goal.returns-clause-ok
returns-clause-ok c =
    let run = c.in-Some.run' in
    parted_by (entries c.args.runs.now) (entries c.split.new.runs) run.start run.end c.args.page run.rights
    c.in-Some.ensures.run c.in-Some.ensures.starts c.in_ok-split.ensures.ok.set

always_err : {A E : Type 0} (r : Result A E) (X : Type 0) → X → IfErr r (λ error. X)
always_err {A} {E} (Ok a) X x = tt
always_err {A} {E} (Err e) X x = x

pub returns-in_err-split-clause-over : goal.returns-in_err-split-clause-over
returns-in_err-split-clause-over c =
    let run = c.in-Some.run' in
    let es = entries c.args.runs.now in
    let starts = c.in-Some.ensures.starts in
    let over = c.if-run-page.false in
    always_err c.from_residual.result (IsSome (rights_in es c.args.page))
    (is_some_of (rights_in es c.args.page) run.rights (run_rights es run.start run.end run.rights c.args.page
    c.in-Some.ensures.run (omega (arith, starts)) over))
