use Rattle.std.proofs.Common.{ℕ, ◌≡◌, ◌+◌, ◌-◌, ◌<◌, ◌≤◌, nat_le, nat_lt, false, subst, arith}
use Rattle.std.proofs.lemmas.Bool.{and_parts, leb-true, ltb-true}
use Rattle.tlb_cache.specs.Cache.{has_page}
use Rattle.tlb_cache.proofs.tlb.Tlb.may_have.Goals as goal

pub returns : goal.returns
returns c = λ _ page among.
    let run = c.args.run in
    let parts = and_parts (nat_le run.first page) (nat_lt page (run.first + run.pages)) among in
    let low : run.first ≤ page = leb-true run.first page parts.0 in
    let high : page < run.first + run.pages = ltb-true page (run.first + run.pages) parts.1 in
    let below : page - run.first < c.loop-k.k = omega (arith, c.loop-k-test.false) in
    let at : run.first + (page - run.first) ≡ page = omega arith in
    subst (λ (p : ℕ). has_page c.args.self.now.entries p ≡ false) at (c.loop-k.invariant (page - run.first) below)
