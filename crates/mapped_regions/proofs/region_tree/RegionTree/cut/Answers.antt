use Rattle.std.proofs.Common.{◌≡◌, ◌∙◌, ◌+◌, ◌-◌, ◌*◌, ◌/◌, ◌%◌, ◌^◌, ◌<◌, arith, sym, ap, subst, ℕ, List, map}
use Rattle.machine_model.specs.declared.region.Region.{Region}
use Rattle.mapped_regions.specs.Regions.{AreLaid, AreTakenOut, IsRegionBoundary, cut_regions, with_page_count}
use Rattle.meminterval.specs.Tree.{entries}
use Rattle.mapped_regions.proofs.Listing.{laid}
use Rattle.mapped_regions.proofs.Cutting.{count_met, found, removes, cuts, none_left, bounds}
use Rattle.mapped_regions.proofs.Taken.{taken_out}
use Rattle.mapped_regions.proofs.region_tree.RegionTree.cut.Goals as goal

pub shorten-requires-clause-whole : goal.shorten-requires-clause-whole
shorten-requires-clause-whole c = let f = found (4096 * c.args.first) c.args.pages 0 c.loop-region.self (2 ^ 64)
    c.in-Some.region c.in-Some.ensures.laid (sym c.in-Some.ensures.value) in record { at_page = f.at_page; within = f.within }

pub shorten-requires-clause-there : goal.shorten-requires-clause-there
shorten-requires-clause-there c = let f = found (4096 * c.args.first) c.args.pages 0 c.loop-region.self (2 ^ 64)
    c.in-Some.region c.in-Some.ensures.laid (sym c.in-Some.ensures.value) in f.listed

pub shorten-requires-clause-less : goal.shorten-requires-clause-less
shorten-requires-clause-less c =
    let f = found (4096 * c.args.first) c.args.pages 0 c.loop-region.self (2 ^ 64) c.in-Some.region c.in-Some.ensures.laid (sym c.in-Some.ensures.value) in
    let b = bounds (4096 * c.args.first) c.args.pages c.in-Some.region f.met in
    omega (arith, b, f.at_page)

-- the pages that are left, in the words of addresses
pages_left : (first : ℕ) (r : Region) (rs : List Region) → r.start % 4096 ≡ 0 →
    map (with_page_count r.start r.pages (first - r.start / 4096)) rs ≡ map
    (with_page_count r.start r.pages ((4096 * first - r.start) / 4096)) rs
pages_left first r rs h = let e : first - r.start / 4096 ≡ (4096 * first - r.start) / 4096 = omega (arith, h) in
    ap (λ (k : ℕ). map (with_page_count r.start r.pages k) rs) e

pub loop-region-smaller-then-start-first : goal.loop-region-smaller-then-start-first
loop-region-smaller-then-start-first c =
    let at = 4096 * c.args.first in
    let n = c.args.pages in
    let r = c.in-Some.region in
    let f = found at n 0 c.loop-region.self (2 ^ 64) r c.in-Some.ensures.laid (sym c.in-Some.ensures.value) in
    let s = cuts at n 0 c.loop-region.self (2 ^ 64) r c.in-Some.ensures.laid f.met (sym c.in-Some.ensures.value)
    (omega (arith, f.at_page, c.if-start-first.true)) in
    let is = c.shorten.ensures ∙ pages_left c.args.first r c.loop-region.self f.at_page in
    subst (λ (rs : List Region). count_met at n rs < count_met at n c.loop-region.self) (sym is) s.fewer

pub loop-region-preserved-then-start-first : goal.loop-region-preserved-then-start-first
loop-region-preserved-then-start-first c =
    let at = 4096 * c.args.first in
    let n = c.args.pages in
    let r = c.in-Some.region in
    let f = found at n 0 c.loop-region.self (2 ^ 64) r c.in-Some.ensures.laid (sym c.in-Some.ensures.value) in
    let s = cuts at n 0 c.loop-region.self (2 ^ 64) r c.in-Some.ensures.laid f.met (sym c.in-Some.ensures.value)
    (omega (arith, f.at_page, c.if-start-first.true)) in
    let is = c.shorten.ensures ∙ pages_left c.args.first r c.loop-region.self f.at_page in
    ap (cut_regions at n) is ∙ (s.same ∙ c.loop-region.invariant)

pub remove-requires : goal.remove-requires
remove-requires c = let f = found (4096 * c.args.first) c.args.pages 0 c.loop-region.self (2 ^ 64)
    c.in-Some.region c.in-Some.ensures.laid (sym c.in-Some.ensures.value) in record { at_page = f.at_page; within = f.within }

pub loop-region-smaller : goal.loop-region-smaller
loop-region-smaller c =
    let at = 4096 * c.args.first in
    let n = c.args.pages in
    let r = c.in-Some.region in
    let f = found at n 0 c.loop-region.self (2 ^ 64) r c.in-Some.ensures.laid (sym c.in-Some.ensures.value) in
    let s = removes at n c.loop-region.self r f.met (sym c.in-Some.ensures.value) (omega (arith, f.at_page, c.if-start-first.false)) in
    subst (λ (rs : List Region). count_met at n rs < count_met at n c.loop-region.self) (sym c.remove.ensures.regions) s.fewer

pub loop-region-preserved : goal.loop-region-preserved
loop-region-preserved c =
    let at = 4096 * c.args.first in
    let n = c.args.pages in
    let r = c.in-Some.region in
    let f = found at n 0 c.loop-region.self (2 ^ 64) r c.in-Some.ensures.laid (sym c.in-Some.ensures.value) in
    let s = removes at n c.loop-region.self r f.met (sym c.in-Some.ensures.value) (omega (arith, f.at_page, c.if-start-first.false)) in
    ap (cut_regions at n) c.remove.ensures.regions ∙ (s.same ∙ c.loop-region.invariant)

pub returns-clause-regions : goal.returns-clause-regions
returns-clause-regions c = sym (none_left (4096 * c.args.first) c.args.pages c.loop-region.self (sym c.in_default.ensures.value)) ∙ c.loop-region.invariant

pub returns-clause-taken : goal.returns-clause-taken
returns-clause-taken c = λ boundary.
    let low = 4096 * c.args.first in
    let n = c.args.pages in
    let old = c.args.self.now in
    let lie : AreLaid 0 old (2 ^ 64) = subst (λ (rs : List Region). AreLaid 0 rs (2 ^ 64)) c.self.view_is
    (laid 0 (entries c.self.inside.tree) (2 ^ 52) c.self.invariant.follow) in
    let end : 4096 * (c.args.first + n) ≡ low + 4096 * n = omega arith in
    let taken = taken_out low n 0 old (2 ^ 64) (omega arith) lie (subst (λ (a : ℕ). IsRegionBoundary a old) end boundary) in
    subst (λ (rs : List Region). AreTakenOut low (4096 * (c.args.first + n)) old rs) (sym (returns-clause-regions c))
    (subst (λ (a : ℕ). AreTakenOut low a old (cut_regions low n old)) (sym end) taken)

pub returns-clause-laid : goal.returns-clause-laid
returns-clause-laid c = subst (λ (rs : List Region). AreLaid 0 rs (2 ^ 64)) c.self.view_is
    (laid 0 (entries c.self.inside.tree) (2 ^ 52) c.self.invariant.follow)
