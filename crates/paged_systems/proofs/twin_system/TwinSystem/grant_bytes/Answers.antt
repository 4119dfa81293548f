use Rattle.std.proofs.Common.{rules, ◌≡◌, ◌<◌, Result, Ok, Err, IfErr, subst, sym, arith}
use Rattle.std.specs.Result.{IsErrAnd}
use Rattle.heap_memory.specs.declared.grant.GrantFault.{GrantFault}
use Rattle.machine_model.specs.Request.{pages_in}
use Rattle.paged_systems.specs.Layout.{LacksPlaceOrFrames}
use Rattle.machine_model.specs.Machine.{Paged}
use Rattle.paged_systems.specs.System.{paged}
use Rattle.paged_systems.specs.Twin.{IsTwin}
use Rattle.paged_systems.proofs.Pages.{pages_some}
use Rattle.paged_systems.proofs.Twins.{twin_longer, covered_grant, twin_grown}
use Rattle.paged_systems.proofs.twin_system.TwinSystem.grant_bytes.Goals as goal

pub plan-requires : goal.plan-requires
plan-requires c = record { some = subst (λ pages. 0 < pages) (sym c.pages_in-pages.ensures) (pages_some c.args.size c.requires.some) }

pub invariant_of-self : goal.invariant_of-self
invariant_of-self c = record {
  twin = twin_longer (paged c.args.self.now.mapped) c.args.self.now.flat c.cover.new.self c.args.self.now.twin c.cover.ensures.longer c.cover.ensures.words;
}

pub invariant_of-self-in-Break-branch-2 : goal.invariant_of-self-in-Break-branch-2
invariant_of-self-in-Break-branch-2 c = record {
  twin = subst (λ (p : Paged). IsTwin p c.cover.new.self) (sym c.in_err-grant.ensures.err)
      (twin_longer (paged c.args.self.now.mapped) c.args.self.now.flat c.cover.new.self c.args.self.now.twin c.cover.ensures.longer c.cover.ensures.words);
}

if_err_and : {T E : Type 0} (r : Result T E) (P Q : E → Type 0) → IsErrAnd r P → ((fault : E) → P fault → Q fault) → IfErr r Q
if_err_and (Ok x) P Q is f = tt
if_err_and (Err fault) P Q is f = f fault is

pub returns-in_err-place-clause-lacks : goal.returns-in_err-place-clause-lacks
returns-in_err-place-clause-lacks c =
    let lacks : LacksPlaceOrFrames (paged c.args.self.now.mapped) (pages_in c.args.size) c.in_err-place.field-0.0 =
    subst (λ n. LacksPlaceOrFrames (paged c.args.self.now.mapped) n c.in_err-place.field-0.0) c.pages_in-pages.ensures c.in_err-place.ensures.lacks in
    if_err_and c.from_residual.result _ _ c.from_residual.ensures.1 (λ fault made other.
    let e : fault ≡ c.in_err-place.field-0.0 = cc in
    subst (λ (f : GrantFault). LacksPlaceOrFrames (paged c.args.self.now.mapped) (pages_in c.args.size) f) (sym e) lacks)

pub fill-requires : goal.fill-requires
fill-requires c = record {
  covered = λ k m low high.
      covered_grant (paged c.args.self.now.mapped) (paged c.grant_bytes.new.self) c.args.self.now.flat c.cover.new.self
      c.pages_in-pages.result c.args.size c.in_ok-place.place c.in_ok-grant.grant
      c.args.self.now.twin c.pages_in-pages.ensures c.in_ok-place.ensures.ok c.in_ok-grant.ensures.ok c.in-Ok.ensures.reached k low
      (let s = c.in_ok-grant.ensures.ok.size in omega arith);
  aligned = search rules;
  small = search rules;
}

pub invariant_of-self-2 : goal.invariant_of-self-2
invariant_of-self-2 c = record {
  twin = twin_grown (paged c.args.self.now.mapped) (paged c.grant_bytes.new.self) c.args.size c.in_ok-grant.grant c.cover.new.self c.fill.new.self
      (twin_longer (paged c.args.self.now.mapped) c.args.self.now.flat c.cover.new.self c.args.self.now.twin c.cover.ensures.longer c.cover.ensures.words)
      c.args.self.now.mapped.kept c.in_ok-grant.ensures.ok
      (covered_grant (paged c.args.self.now.mapped) (paged c.grant_bytes.new.self) c.args.self.now.flat c.cover.new.self
      c.pages_in-pages.result c.args.size c.in_ok-place.place c.in_ok-grant.grant
      c.args.self.now.twin c.pages_in-pages.ensures c.in_ok-place.ensures.ok c.in_ok-grant.ensures.ok c.in-Ok.ensures.reached)
      c.fill.ensures;
}

pub returns-clause-flat : goal.returns-clause-flat
returns-clause-flat c = λ at low high m. c.fill.ensures.here at m low (let s = c.in_ok-grant.ensures.ok.size in omega arith)
