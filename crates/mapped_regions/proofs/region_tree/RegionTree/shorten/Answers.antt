use Rattle.std.proofs.Common.{◌≡◌, ◌∙◌, ℕ, ◌+◌, ◌-◌, ◌*◌, ◌^◌, arith, sym, ap, subst, true, List, map}
use Rattle.std.specs.List.{list_any}
use Rattle.machine_model.specs.declared.region.Region.{Region}
use Rattle.meminterval.specs.declared.interval.Interval.{Interval}
use Rattle.meminterval.specs.Tree.{entries}
use Rattle.mapped_regions.specs.declared.region_tree.Kind.{Kind}
use Rattle.mapped_regions.specs.Pairs.{pair_regions, Follow}
use Rattle.mapped_regions.proofs.Held.{held_shorter}
use Rattle.mapped_regions.specs.Regions.{AreHeld, is_at, with_page_count}
use Rattle.mapped_regions.proofs.Changes.{cut, own_start}
use Rattle.mapped_regions.proofs.region_tree.RegionTree.shorten.Goals as goal

-- the region is listed in the words of its interval
listed : (i : Interval ℕ) (start pages : ℕ) (rs ss : List Region) → rs ≡ ss → 4096 * i.start ≡ start →
    i.end ≡ i.start + pages → list_any (is_at start pages) ss ≡ true →
    list_any (is_at (4096 * i.start) (i.end - i.start)) rs ≡ true
listed i start pages rs ss same s p h =
    let n : i.end - i.start ≡ pages = omega (arith, p) in
    ap (λ (a : ℕ). list_any (is_at a (i.end - i.start)) rs) s ∙ (ap (λ (m : ℕ). list_any (is_at start m) rs) n ∙ (ap (list_any (is_at start pages)) same ∙ h))

pub shorten-requires-clause-alone : goal.shorten-requires-clause-alone
shorten-requires-clause-alone c =
    let es = entries c.self.inside.tree in
    let i = c.pages_of-pages.result in
    let p = c.pages_of-pages.ensures in
    own_start i 0 es (2 ^ 52) c.self.invariant.follow (omega (arith, p.pages))
    (listed i c.args.region.now.start c.args.region.now.pages (pair_regions es) c.args.self.now c.self.view_is p.start
    p.pages c.requires.there)

pub invariant_of-self : goal.invariant_of-self
invariant_of-self c =
    let base = c.self.inside.base in
    let lower = c.lowered-self-inside.result in
    let es = entries c.self.inside.tree in
    let i = c.pages_of-pages.result in
    let p = c.pages_of-pages.ensures in
    let end = i.start + c.args.left in
    let r = cut i end 0 es (2 ^ 52) c.self.invariant.follow (omega (arith, c.requires.some)) (omega (arith, p.pages, c.requires.less)) in
    record {
      follow = subst (λ (es : List (Interval ℕ × Kind)). Follow 0 es (2 ^ 52)) (sym c.shorten.ensures.pairs) r.follow;
      above = c.lowered-self-inside.ensures.above;
      held = subst (λ (rs : List Region). AreHeld (4096 * base) (4096 * lower) rs) (sym (ap pair_regions c.shorten.ensures.pairs ∙ r.regions))
          (held_shorter base c.self.inside.hint lower (4096 * i.start) (i.end - i.start) (end - i.start) (pair_regions es)
          c.self.invariant.held c.lowered-self-inside.ensures.below
          (λ h. let b = c.lowered-self-inside.ensures.before h in omega (arith, b)));
    }

pub returns : goal.returns
returns c =
    let es = entries c.self.inside.tree in
    let i = c.pages_of-pages.result in
    let p = c.pages_of-pages.ensures in
    let left = c.args.left in
    let r = cut i (i.start + left) 0 es (2 ^ 52) c.self.invariant.follow (omega (arith, c.requires.some)) (omega (arith, p.pages, c.requires.less)) in
    let n : i.end - i.start ≡ c.args.region.now.pages = omega (arith, p.pages) in
    let m : i.start + left - i.start ≡ left = omega arith in
    ap pair_regions c.shorten.ensures.pairs ∙ (r.regions
    ∙ (ap (λ (s : ℕ). map (with_page_count s (i.end - i.start) (i.start + left - i.start)) (pair_regions es)) p.start
    ∙ (ap (λ (k : ℕ). map (with_page_count c.args.region.now.start k (i.start + left - i.start)) (pair_regions es)) n
    ∙ (ap (λ (k : ℕ). map (with_page_count c.args.region.now.start c.args.region.now.pages k) (pair_regions es)) m
    ∙ ap (map (with_page_count c.args.region.now.start c.args.region.now.pages left)) c.self.view_is))))
