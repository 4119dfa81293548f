use Rattle.std.proofs.Common.{◌≡◌, ◌+◌, ◌-◌, Some, None, refl, sym, ap, ◌∙◌, arith}
use Rattle.std.specs.Option.{is_some}
use Rattle.kernel_tables.specs.TableState.{leads}
use Rattle.kernel_tables.proofs.RangeTests.{up_to, lowest_none, lowest_at, there_is}
use Rattle.kernel_tables.proofs.tables.Tables.lowest_mapped.Goals as goal

pub returns-then-unmapped-eq0 : goal.returns-then-unmapped-eq0
returns-then-unmapped-eq0 c =
    let a = c.after-at.ensures in
    let here = rw a at (c.pages_unmapped-unmapped.ensures.none c.if-unmapped-eq0.true) in
    ap (λ n. Some n) a
    ∙ sym (lowest_at (λ at. is_some (leads c.args.self.now at)) c.args.page c.args.pages c.loop-done.done
    c.loop-done-test.true (λ j lj. rw (c.loop-done.invariant j lj) refl)
    (there_is (leads c.args.self.now (c.args.page + c.loop-done.done)) here))

pub loop-done-preserved : goal.loop-done-preserved
loop-done-preserved c = λ k lt.
    let a = c.after-at.ensures in
    up_to (λ k. leads c.args.self.now (c.args.page + k) ≡ None) c.loop-done.done (c.loop-done.done + c.pages_unmapped-unmapped.result) c.loop-done.invariant
    (λ j lo hi.
    let e : c.after-at.result + (j - c.loop-done.done) ≡ c.args.page + j = omega (arith, a, lo) in
    rw e at (c.pages_unmapped-unmapped.ensures.unmapped (j - c.loop-done.done) (omega (arith, lo, hi)))) k lt

pub returns : goal.returns
returns c =
    let t = c.loop-done-test.false in
    sym (lowest_none (λ at. is_some (leads c.args.self.now at)) c.args.page c.args.pages (λ k lt. rw (c.loop-done.invariant k (omega (arith, t, lt))) refl))
