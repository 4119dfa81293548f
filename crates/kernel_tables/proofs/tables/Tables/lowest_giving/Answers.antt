use Rattle.std.proofs.Common.{◌≡◌, ◌+◌, ◌-◌, Bool, true, false, ◌&&◌, Some, sym, ap, ◌∙◌, arith, refl}
use Rattle.kernel_tables.specs.TableState.{leads, place_in, gives_area}
use Rattle.kernel_tables.proofs.RangeTests.{up_to, lowest_none, lowest_at}
use Rattle.kernel_tables.proofs.Sound.{first_unless, given_none}
use Rattle.kernel_tables.proofs.tables.Tables.lowest_giving.Goals as goal

both : (a b : Bool) → a ≡ true → b ≡ true → (a && b) ≡ true
both a b e f = rw (e, f) refl

pub returns-then-not-user : goal.returns-then-not-user
returns-then-not-user c =
    let away = c.if-not-user.true in
    sym (lowest_none (λ at. gives_area c.args.self.now at c.args.user) c.args.page c.args.pages (λ k lt.
    given_none c.args.user (place_in c.args.self.now.area (leads c.args.self.now (c.args.page + k))) away))

pub returns-then-beside-eq0 : goal.returns-then-beside-eq0
returns-then-beside-eq0 c =
    let a = c.after-at.ensures in
    let here = rw a at (c.pages_beside-beside.ensures.none c.if-beside-eq0.true) in
    ap (λ n. Some n) a
    ∙ sym (lowest_at (λ at. gives_area c.args.self.now at c.args.user) c.args.page c.args.pages c.loop-done.done c.loop-done-test.true
    (λ j lj. first_unless c.args.user (place_in c.args.self.now.area (leads c.args.self.now (c.args.page + j))) (λ _. c.loop-done.invariant j lj))
    (both c.args.user (place_in c.args.self.now.area (leads c.args.self.now (c.args.page + c.loop-done.done))) c.if-not-user.false here))

pub loop-done-preserved : goal.loop-done-preserved
loop-done-preserved c = λ k lt.
    let a = c.after-at.ensures in
    up_to (λ k. place_in c.args.self.now.area (leads c.args.self.now (c.args.page + k)) ≡ false) c.loop-done.done
    (c.loop-done.done + c.pages_beside-beside.result) c.loop-done.invariant
    (λ j lo hi.
    let e : c.after-at.result + (j - c.loop-done.done) ≡ c.args.page + j = omega (arith, a, lo) in
    rw e at (c.pages_beside-beside.ensures.beside (j - c.loop-done.done) (omega (arith, lo, hi)))) k lt

pub returns : goal.returns
returns c =
    let t = c.loop-done-test.false in
    sym (lowest_none (λ at. gives_area c.args.self.now at c.args.user) c.args.page c.args.pages
    (λ k lt. first_unless c.args.user (place_in c.args.self.now.area (leads c.args.self.now (c.args.page + k))) (λ _. c.loop-done.invariant k (omega (arith, t, lt)))))
