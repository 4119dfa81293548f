use Rattle.std.proofs.Common.{◌≡◌, ◌∙◌, ℕ, ◌+◌, ◌-◌, ◌*◌, ◌^◌, ◌<◌, ◌≤◌, arith, sym, ap, subst, false, List}
use Rattle.machine_model.specs.declared.region.Region.{Region}
use Rattle.machine_model.specs.Place.{meets_any, with_region}
use Rattle.meminterval.specs.declared.interval.Interval.{Interval}
use Rattle.meminterval.specs.Tree.{entries}
use Rattle.mapped_regions.specs.declared.region_tree.Kind.{Kind}
use Rattle.mapped_regions.specs.Pairs.{region_of, pair_regions, Follow}
use Rattle.mapped_regions.specs.Regions.{IsPutIn}
use Rattle.mapped_regions.proofs.Taken.{put_in}
use Rattle.mapped_regions.proofs.Held.{held_add, held_add_on}
use Rattle.mapped_regions.proofs.Changes.{follow_length, added, IsAdded}
use Rattle.mapped_regions.proofs.region_tree.RegionTree.add.Goals as goal

pub insert-requires-clause-room : goal.insert-requires-clause-room
insert-requires-clause-room c = let h = follow_length 0 (entries c.self.inside.tree) (2 ^ 52) c.self.invariant.follow in omega (arith, h)

-- what the pages and the kind of the region add
adds : (region : Region) (i : Interval ℕ) (es : List (Interval ℕ × Kind)) (rs : List Region) → pair_regions es ≡ rs →
    Follow 0 es (2 ^ 52) → 4096 * i.start ≡ region.start → i.end ≡ i.start + region.pages → i.end ≤ 2 ^ 52 →
    0 < region.pages → meets_any region.start region.pages rs ≡ false →
    IsAdded (i, record { heap = region.heap; rights = region.rights }) 0 es (2 ^ 52)
adds region i es rs view f start pages within some clear =
    let n : region.pages ≡ i.end - i.start = omega (arith, pages) in
    let misses : meets_any (4096 * i.start) (i.end - i.start) (pair_regions es) ≡ false =
    ap (λ (s : ℕ). meets_any s (i.end - i.start) (pair_regions es)) start
    ∙ (ap (λ (m : ℕ). meets_any region.start m (pair_regions es)) (sym n)
    ∙ (ap (meets_any region.start region.pages) view ∙ clear)) in
    added (i, record { heap = region.heap; rights = region.rights }) 0 es (2 ^ 52) f (omega (arith, pages, some)) (omega arith) within misses

is_region : (region : Region) (i : Interval ℕ) → 4096 * i.start ≡ region.start → i.end ≡ i.start + region.pages →
    region_of (i, record { heap = region.heap; rights = region.rights }) ≡ region
is_region region i start pages =
    let n : i.end - i.start ≡ region.pages = omega (arith, pages) in
    ap (λ (s : ℕ). record { start = s; pages = i.end - i.start; heap = region.heap; rights = region.rights }) start
    ∙ ap (λ (m : ℕ). record { start = region.start; pages = m; heap = region.heap; rights = region.rights }) n

pub run_end-self-inside-requires : goal.run_end-self-inside-requires
run_end-self-inside-requires c =
    let es = entries c.self.inside.tree in
    let p = c.pages_of-pages.ensures in
    let a = adds c.args.region c.pages_of-pages.result es c.args.self.now c.self.view_is c.self.invariant.follow p.start
    p.pages p.within c.requires.some c.requires.clear in
    subst (λ (fs : List (Interval ℕ × Kind)). Follow 0 fs (2 ^ 52)) (sym c.in_ok-insert.ensures.ok) a.follow

pub invariant_of-self-then-first-self : goal.invariant_of-self-then-first-self
invariant_of-self-then-first-self c =
    let es = entries c.self.inside.tree in
    let new = entries c.insert.new.self in
    let i = c.pages_of-pages.result in
    let p = c.pages_of-pages.ensures in
    let is = c.in_ok-insert.ensures.ok in
    let x : Interval ℕ × Kind = (i, record { heap = c.args.region.heap; rights = c.args.region.rights }) in
    let a = adds c.args.region i es c.args.self.now c.self.view_is c.self.invariant.follow p.start p.pages p.within c.requires.some c.requires.clear in
    let above = c.self.invariant.above in
    let later = c.run_end-self-inside.ensures.above in
    record {
      follow = subst (λ (fs : List (Interval ℕ × Kind)). Follow 0 fs (2 ^ 52)) (sym is) a.follow;
      above = omega (arith, above, later, c.if-first-self.true, p.pages);
      held = held_add_on x c.self.inside.base c.self.inside.hint c.run_end-self-inside.result es new
          (omega (arith, p.pages, c.requires.some)) c.if-first-self.true (ap pair_regions is ∙ a.regions)
          c.self.invariant.held c.run_end-self-inside.ensures.held;
    }

pub invariant_of-self-else-first-self : goal.invariant_of-self-else-first-self
invariant_of-self-else-first-self c =
    let es = entries c.self.inside.tree in
    let new = entries c.insert.new.self in
    let i = c.pages_of-pages.result in
    let p = c.pages_of-pages.ensures in
    let is = c.in_ok-insert.ensures.ok in
    let x : Interval ℕ × Kind = (i, record { heap = c.args.region.heap; rights = c.args.region.rights }) in
    let a = adds c.args.region i es c.args.self.now c.self.view_is c.self.invariant.follow p.start p.pages p.within c.requires.some c.requires.clear in
    record {
      follow = subst (λ (fs : List (Interval ℕ × Kind)). Follow 0 fs (2 ^ 52)) (sym is) a.follow;
      above = c.self.invariant.above;
      held = held_add x c.self.inside.base c.self.inside.hint es new (ap pair_regions is ∙ a.regions) c.self.invariant.held;
    }

pub returns-then-first-self-clause-ok : goal.returns-then-first-self-clause-ok
returns-then-first-self-clause-ok c =
    let es = entries c.self.inside.tree in
    let i = c.pages_of-pages.result in
    let p = c.pages_of-pages.ensures in
    let a = adds c.args.region i es c.args.self.now c.self.view_is c.self.invariant.follow p.start p.pages p.within c.requires.some c.requires.clear in
    ap pair_regions c.in_ok-insert.ensures.ok ∙ (a.regions ∙ (ap (λ r. with_region r (pair_regions es))
    (is_region c.args.region i p.start p.pages) ∙ ap (with_region c.args.region) c.self.view_is))

pub returns-else-first-self-clause-ok : goal.returns-else-first-self-clause-ok
returns-else-first-self-clause-ok c =
    let es = entries c.self.inside.tree in
    let i = c.pages_of-pages.result in
    let p = c.pages_of-pages.ensures in
    let a = adds c.args.region i es c.args.self.now c.self.view_is c.self.invariant.follow p.start p.pages p.within c.requires.some c.requires.clear in
    ap pair_regions c.in_ok-insert.ensures.ok ∙ (a.regions ∙ (ap (λ r. with_region r (pair_regions es))
    (is_region c.args.region i p.start p.pages) ∙ ap (with_region c.args.region) c.self.view_is))

pub returns-then-first-self-clause-put : goal.returns-then-first-self-clause-put
returns-then-first-self-clause-put c =
    subst (λ (rs : List Region). IsPutIn c.args.region c.args.self.now rs) (sym (returns-then-first-self-clause-ok c))
    (put_in c.args.region c.args.self.now c.requires.clear)

pub returns-else-first-self-clause-put : goal.returns-else-first-self-clause-put
returns-else-first-self-clause-put c =
    subst (λ (rs : List Region). IsPutIn c.args.region c.args.self.now rs) (sym (returns-else-first-self-clause-ok c))
    (put_in c.args.region c.args.self.now c.requires.clear)
