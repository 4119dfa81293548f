use Rattle.std.proofs.Common.{◌≡◌, ◌∙◌, ℕ, ◌+◌, ◌-◌, ◌<◌, ◌≤◌, Bool, true, false, arith, ap, sym, refl, subst}
use Rattle.std.specs.Prelude.{nat_le}
use Rattle.std.proofs.lemmas.Bool.Decides.{nat_tests}
use Rattle.heap_memory.specs.declared.grant.Grant.{Grant}
use Rattle.heap_arena.specs.Grants.{lies_before, grant_at}
use Rattle.heap_arena.proofs.table.Table.before.Goals as goal

pub loop-passed-init : goal.loop-passed-init
loop-passed-init c = λ k from less. absurd (omega (arith, from, less))

pub returns-then-lies_before-clause-others : goal.returns-then-lies_before-clause-others
returns-then-lies_before-clause-others c = λ k from less. c.loop-passed.invariant k (omega (arith, from)) less

pub loop-passed-preserved : goal.loop-passed-preserved
loop-passed-preserved c = λ k from less.
    let words = c.args.self.now.words.now in
    let place = c.args.self.now.count - 1 - c.loop-passed.passed in
    let here : lies_before c.args.place (grant_at words place) ≡ false =
    ap (λ (g : Grant). lies_before c.args.place g) (sym c.get.ensures) ∙ (sym c.lies_before.ensures ∙ c.if-lies_before.false) in
    go c k from less here (nat_le c.args.self.now.count (k + c.loop-passed.passed)) refl
  where
    go : (c : goal.Else-lies_before) (k : ℕ) → c.args.self.now.count ≤ k + (c.loop-passed.passed + 1) → k < c.args.self.now.count →
        lies_before c.args.place (grant_at c.args.self.now.words.now (c.args.self.now.count - 1 - c.loop-passed.passed)) ≡ false →
        (b : Bool) → nat_le c.args.self.now.count (k + c.loop-passed.passed) ≡ b →
        lies_before c.args.place (grant_at c.args.self.now.words.now k) ≡ false
    go c k from less here true is = c.loop-passed.invariant k (grind (arith, nat_tests)) less
    go c k from less here false is =
        let beyond : k + c.loop-passed.passed < c.args.self.now.count = grind (arith, nat_tests) in
        let same : c.args.self.now.count - 1 - c.loop-passed.passed ≡ k = omega (arith, from, less) in
        subst (λ n. lies_before c.args.place (grant_at c.args.self.now.words.now n) ≡ false) same here

pub returns-clause-others : goal.returns-clause-others
returns-clause-others c = λ k _ less. c.loop-passed.invariant k (omega arith) less
