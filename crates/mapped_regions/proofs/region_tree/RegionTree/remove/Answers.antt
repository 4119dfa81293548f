use Rattle.std.proofs.Common.{◌≡◌, ◌∙◌, ℕ, ◌+◌, ◌-◌, ◌*◌, ◌^◌, arith, sym, ap, subst, List}
use Rattle.meminterval.specs.declared.interval.Interval.{Interval}
use Rattle.meminterval.specs.Tree.{entries}
use Rattle.mapped_regions.specs.declared.region_tree.Kind.{Kind}
use Rattle.mapped_regions.specs.Pairs.{pair_regions, Follow}
use Rattle.machine_model.specs.declared.region.Region.{Region}
use Rattle.mapped_regions.specs.Regions.{AreHeld, AreLaid, AreTakenOut, without_region}
use Rattle.mapped_regions.proofs.Listing.{laid}
use Rattle.mapped_regions.proofs.Taken.{taken_without}
use Rattle.mapped_regions.proofs.Held.{held_without}
use Rattle.mapped_regions.proofs.Changes.{removed}
use Rattle.mapped_regions.proofs.region_tree.RegionTree.remove.Goals as goal

pub invariant_of-self : goal.invariant_of-self
invariant_of-self c =
    let base = c.self.inside.base in
    let lower = c.lowered-self-inside.result in
    let es = entries c.self.inside.tree in
    let i = c.pages_of-pages.result in
    let p = c.pages_of-pages.ensures in
    let r = removed i 0 es (2 ^ 52) c.self.invariant.follow (omega (arith, p.pages)) in
    record {
      follow = subst (λ (es : List (Interval ℕ × Kind)). Follow 0 es (2 ^ 52)) (sym c.delete.ensures) r.follow;
      above = c.lowered-self-inside.ensures.above;
      held = subst (λ (rs : List Region). AreHeld (4096 * base) (4096 * lower) rs) (sym (ap pair_regions c.delete.ensures ∙ r.regions))
          (held_without base c.self.inside.hint lower (4096 * i.start) (i.end - i.start) (pair_regions es)
          c.self.invariant.held c.lowered-self-inside.ensures.below
          (λ h. let b = c.lowered-self-inside.ensures.before h in omega (arith, b)));
    }

pub returns-clause-regions : goal.returns-clause-regions
returns-clause-regions c =
    let es = entries c.self.inside.tree in
    let i = c.pages_of-pages.result in
    let p = c.pages_of-pages.ensures in
    let r = removed i 0 es (2 ^ 52) c.self.invariant.follow (omega (arith, p.pages)) in
    let n : i.end - i.start ≡ c.args.region.now.pages = omega (arith, p.pages) in
    ap pair_regions c.delete.ensures ∙ (r.regions
    ∙ (ap (λ (s : ℕ). without_region s (i.end - i.start) (pair_regions es)) p.start
    ∙ (ap (λ (m : ℕ). without_region c.args.region.now.start m (pair_regions es)) n
    ∙ ap (without_region c.args.region.now.start c.args.region.now.pages) c.self.view_is)))

pub returns-clause-taken : goal.returns-clause-taken
returns-clause-taken c = λ there.
    let old = c.args.self.now in
    let start = c.args.region.now.start in
    let pages = c.args.region.now.pages in
    let lie : AreLaid 0 old (2 ^ 64) = subst (λ (rs : List Region). AreLaid 0 rs (2 ^ 64)) c.self.view_is
    (laid 0 (entries c.self.inside.tree) (2 ^ 52) c.self.invariant.follow) in
    subst (λ (rs : List Region). AreTakenOut start (start + 4096 * pages) old rs) (sym (returns-clause-regions c))
    (taken_without start pages 0 old (2 ^ 64) lie there)
