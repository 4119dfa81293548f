use Rattle.std.proofs.Common.{◌<◌, Result, Ok, Err, OnOk, refl, subst, sym, arith}
use Rattle.machine_model.specs.declared.region.Region.{Region}
use Rattle.mapped_regions.specs.Mapped.{IsRegion, CanMap}
use Rattle.mapped_regions.specs.Shown.{paged_view}
use Rattle.paged_systems.specs.Layout.{CanGrant, IsGranted}
use Rattle.paged_systems.specs.System.{paged}
use Rattle.paged_systems.proofs.Pages.{pages_some}
use Rattle.paged_systems.proofs.Granted.{kept_joined, granted_region, can_map, granted_joined}
use Rattle.paged_systems.proofs.paged_system.PagedSystem.grant_bytes.Goals as goal

on_ok : {A B : Type 0} (r : Result A B) (P : Type 0) → P → OnOk r P
on_ok (Ok a) P p = p
on_ok (Err e) P p = tt

pub plan-requires : goal.plan-requires
plan-requires c = record { some = subst (λ pages. 0 < pages) (sym c.pages_in-pages.ensures) (pages_some c.args.size c.requires.some) }

pub join-requires-clause-region : goal.join-requires-clause-region
join-requires-clause-region c =
    let p = paged c.args.self.now in
    subst (IsRegion p.base p.pages) (sym c.heap_region.ensures) (granted_region p c.pages_in-pages.result c.in_ok-place.place
    c.args.self.now.kept c.in_ok-place.ensures.ok)

pub join-requires-clause-can : goal.join-requires-clause-can
join-requires-clause-can c =
    let p = paged c.args.self.now in
    subst (λ (r : Region). CanMap p r.start r.pages) (sym c.heap_region.ensures) (can_map p c.pages_in-pages.result c.in_ok-place.place
    c.args.self.now.kept c.in_ok-place.ensures.ok)

pub invariant_of-self : goal.invariant_of-self
invariant_of-self c =
    let p = paged c.args.self.now in
    record {
      kept = kept_joined c.join.result p (paged_view c.join.new.self) c.heap_region.result c.join.ensures.ok
          (on_ok c.join.result (CanMap p c.heap_region.result.start c.heap_region.result.pages)
          (subst (λ (r : Region). CanMap p r.start r.pages) (sym c.heap_region.ensures)
          (can_map p c.pages_in-pages.result c.in_ok-place.place c.args.self.now.kept c.in_ok-place.ensures.ok)))
          c.join.ensures.err c.args.self.now.kept c.join.new.self.mapped;
    }

pub returns-in-Ok-clause-ok : goal.returns-in-Ok-clause-ok
returns-in-Ok-clause-ok c =
    let pages = c.pages_in-pages.ensures in let p = paged c.args.self.now in let place = c.in_ok-place.place in
    let granted = granted_joined p (paged_view c.join.new.self) c.heap_region.result c.pages_in-pages.result place c.heap_region.ensures c.in-Ok.ensures.ok in
    record {
      can = subst (λ n. CanGrant p n place) pages c.in_ok-place.ensures.ok;
      granted = subst (λ n. IsGranted p (paged_view c.join.new.self) n place) pages granted;
      size = omega (arith, pages);
      flags = refl;
    }
