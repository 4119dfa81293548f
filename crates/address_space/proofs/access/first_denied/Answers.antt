use Rattle.std.proofs.Common.{◌∙◌, sym, arith, refl, None}
use Rattle.meminterval.specs.Tree.{entries}
use Rattle.x86_flags.specs.PageFaultErrorCode.{page_fault_bits}
use Rattle.address_space.specs.Runs.{rights_in}
use Rattle.address_space.proofs.Denied.{none_passed, passed_on, denied_at, all_granted}
use Rattle.address_space.proofs.access.first_denied.Goals as goal

pub loop-page-init : goal.loop-page-init
loop-page-init c = none_passed (rights_in (entries c.args.runs.now)) c.args.access.write c.args.access.user c.args.at

pub returns-in_default-clause-denied : goal.returns-in_default-clause-denied
returns-in_default-clause-denied c =
    denied_at (rights_in (entries c.args.runs.now)) c.args.access.write c.args.access.user c.args.at c.args.count
    c.loop-page.page c.first_byte.result (page_fault_bits c.code.result) None c.loop-page.invariant
    c.loop-page-test.true c.requires.some
    c.first_byte.ensures.page c.first_byte.ensures.from c.first_byte.ensures.first c.first_byte.ensures.within c.in_default.ensures refl c.code.ensures

pub loop-page-preserved : goal.loop-page-preserved
loop-page-preserved c =
    let run = c.in-Some.run' in
    let starts = c.in-Some.ensures.from in
    passed_on (rights_in (entries c.args.runs.now)) c.args.access.write c.args.access.user c.args.at c.loop-page.page
    run.end run.rights c.loop-page.invariant c.in-Some.ensures.more
    (λ any h k. c.in-Some.ensures.pages any (omega (arith, starts, h)) k) (sym c.is_denied.ensures ∙ c.if-is_denied.false)

pub returns-clause-granted : goal.returns-clause-granted
returns-clause-granted c =
    all_granted (rights_in (entries c.args.runs.now)) c.args.access.write c.args.access.user c.args.at c.args.count
    c.loop-page.page c.loop-page.invariant c.requires.some c.loop-page-test.false
