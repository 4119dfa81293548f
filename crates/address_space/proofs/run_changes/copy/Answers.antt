use Rattle.std.proofs.Common.{◌∙◌, ℕ, ◌+◌, List, ap, sym, subst, arith, refl}
use Rattle.meminterval.specs.Tree.{entries}
use Rattle.meminterval.specs.declared.interval.Interval.{Interval}
use Rattle.paging_core.specs.declared.page_table.Rights.{Rights}
use Rattle.address_space.specs.Runs.{rights_in}
use Rattle.address_space.proofs.OneRun.{crosses_free}
use Rattle.address_space.proofs.CopiedRuns.{AreCopiedTo, none_copied, target_free, copied_on, copied_undone}
use Rattle.address_space.proofs.run_changes.copy.Goals as goal

pub loop-done-init : goal.loop-done-init
loop-done-init c = none_copied (entries c.args.runs.now) c.args.from c.args.pages c.args.to c.requires.follow c.requires.longest

pub add-requires-clause-clear : goal.add-requires-clause-clear
add-requires-clause-clear c = λ page from to.
    target_free (entries c.args.runs.now) (entries c.loop-done.runs) c.args.from c.args.pages c.args.to c.loop-done.done page
    c.requires.free c.loop-done.invariant from (omega (arith, c.min-count.ensures, c.loop-done-test.true, to))

pub loop-done-preserved : goal.loop-done-preserved
loop-done-preserved c =
    let run = c.in-Some.run' in
    let less = c.loop-done-test.true in
    let more = c.in-Some.ensures.more in
    let starts = c.in-Some.ensures.from in
    let is = c.min-count.ensures in
    copied_on (entries c.args.runs.now) (entries c.loop-done.runs) (entries c.add.new.runs) c.args.from c.args.pages
    c.args.to c.loop-done.done c.min-count.result (c.args.to + c.loop-done.done)
    (c.args.to + c.loop-done.done + c.min-count.result) run.rights
    c.requires.held c.requires.free c.loop-done.invariant (omega (arith, is, less))
    (λ any h k. c.in-Some.ensures.pages any (omega (arith, starts, h)) (omega (arith, is, k, more))) refl (omega arith) c.in-Ok.ensures.ok

pub take_out-requires-clause-apart : goal.take_out-requires-clause-apart
take_out-requires-clause-apart c =
    let at = c.args.to + c.loop-done.done in
    let less = c.loop-done-test.true in
    crosses_free (entries c.add.new.runs) at
    (ap (λ (t : List (Interval ℕ × Rights)). rights_in t at) (ap entries c.in-Err.ensures.err)
    ∙ target_free (entries c.args.runs.now) (entries c.loop-done.runs) c.args.from c.args.pages c.args.to c.loop-done.done
    at c.requires.free c.loop-done.invariant (omega arith) (omega (arith, less)))

pub returns-in-Err-clause-err : goal.returns-in-Err-clause-err
returns-in-Err-clause-err c =
    let es = entries c.args.runs.now in
    copied_undone es (entries c.add.new.runs) (entries c.take_out.new.runs) c.args.from c.args.pages c.args.to
    c.loop-done.done c.requires.follow c.requires.longest c.requires.free
    (subst (λ (t : List (Interval ℕ × Rights)). AreCopiedTo es t c.args.from c.args.pages c.args.to c.loop-done.done)
    (sym (ap entries c.in-Err.ensures.err)) c.loop-done.invariant) c.take_out.ensures
