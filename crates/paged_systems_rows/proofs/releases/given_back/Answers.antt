use Rattle.std.proofs.Common.{◌≡◌, ◌+◌, ◌<◌, List, [], ◌∷◌, Bool, false, cond, nat_lt, inr, sym, ap, ◌∙◌, subst, arith}
use Rattle.std.proofs.lemmas.Bool.Decides.{nat_tests}
use Rattle.heap_memory.specs.declared.grant.Grant.{Grant}
use Rattle.heap_memory.specs.Regions.{with_grant}
use Rattle.heap_memory.specs.Runs.{IsRun}
use Rattle.paged_systems_rows.proofs.releases.given_back.Goals as goal

-- two grants, one after the other, are a run
are_run : (a b : Grant) → 0 < a.size → b.base ≡ a.base + a.size → IsRun (a ∷ b ∷ []) a.base (a.base + (a.size + b.size))
are_run a b some next = record {
  some = omega (arith, some);
  granted = λ at low high. grind (arith, nat_tests, next);
  whole = (inr (omega arith, omega arith), (inr (omega (arith, next), omega (arith, next)), _));
}

joined : (a b : Grant) → b.base ≡ a.base + a.size → a ∷ b ∷ [] ≡ with_grant b (with_grant a [])
joined a b next =
    let later : nat_lt b.base a.base ≡ false = grind (arith, nat_tests, next) in
    sym (ap (λ (t : Bool). cond t (b ∷ a ∷ []) (a ∷ b ∷ [])) later)

pub free-requires : goal.free-requires
free-requires c =
    let a = c.in-Ok.first in
    let b = c.in-Ok-alloc.second in
    let next : b.base ≡ a.base + a.size = omega (arith, c.if-second-first.false) in
    let some : 0 < a.size = omega (arith, c.in-Ok.ensures.good.long) in
    let regions = joined a b next ∙ sym (c.in-Ok-alloc.ensures.regions ∙ ap (with_grant b) (c.in-Ok.ensures.regions ∙ ap (with_grant a) c.requires)) in
    subst (λ (rs : List Grant). IsRun rs a.base (a.base + (a.size + b.size))) regions (are_run a b some next)

pub free_part-requires-clause-run : goal.free_part-requires-clause-run
free_part-requires-clause-run c =
    let a = c.in-Ok.first in
    let b = c.in-Ok-alloc.second in
    let next : b.base ≡ a.base + a.size = omega (arith, c.if-second-first.false) in
    let some : 0 < a.size = omega (arith, c.in-Ok.ensures.good.long) in
    let regions = joined a b next ∙ sym (c.in-Ok-alloc.ensures.regions ∙ ap (with_grant b) (c.in-Ok.ensures.regions ∙ ap (with_grant a) c.requires)) in
    subst (λ (rs : List Grant). IsRun rs a.base (a.base + (a.size + b.size))) regions (are_run a b some next)
