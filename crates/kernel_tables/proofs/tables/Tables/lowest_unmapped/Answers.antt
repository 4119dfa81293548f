use Rattle.std.proofs.Common.{◌≡◌, ◌+◌, ◌-◌, Some, sym, ap, ◌∙◌, arith}
use Rattle.std.specs.Prelude.{IsSome, is_none}
use Rattle.kernel_tables.specs.TableState.{leads}
use Rattle.kernel_tables.proofs.RangeTests.{up_to, lowest_none, lowest_at, none_is, some_is}
use Rattle.kernel_tables.proofs.tables.Tables.lowest_unmapped.Goals as goal

pub returns-then-mapped-eq0 : goal.returns-then-mapped-eq0
returns-then-mapped-eq0 c =
    let a = c.after-at.ensures in
    let here = rw a at (c.pages_of_entry-mapped.ensures.none c.if-mapped-eq0.true) in
    ap (λ n. Some n) a
    ∙ sym (lowest_at (λ at. is_none (leads c.args.self.now at)) c.args.page c.args.pages c.loop-done.done c.loop-done-test.true
    (λ j lj. some_is (leads c.args.self.now (c.args.page + j)) (c.loop-done.invariant j lj))
    (none_is (leads c.args.self.now (c.args.page + c.loop-done.done)) here))

pub loop-done-preserved : goal.loop-done-preserved
loop-done-preserved c = λ k lt.
    let a = c.after-at.ensures in
    up_to (λ k. IsSome (leads c.args.self.now (c.args.page + k))) c.loop-done.done (c.loop-done.done + c.pages_of_entry-mapped.result) c.loop-done.invariant
    (λ j lo hi.
    let e : c.after-at.result + (j - c.loop-done.done) ≡ c.args.page + j = omega (arith, a, lo) in
    rw e at (c.pages_of_entry-mapped.ensures.mapped (j - c.loop-done.done) (omega (arith, lo, hi)))) k lt

pub returns : goal.returns
returns c =
    let t = c.loop-done-test.false in
    sym (lowest_none (λ at. is_none (leads c.args.self.now at)) c.args.page c.args.pages
    (λ k lt. some_is (leads c.args.self.now (c.args.page + k)) (c.loop-done.invariant k (omega (arith, t, lt)))))
