use Rattle.std.proofs.Common.{◌∙◌, ◌+◌, ◌-◌, ◌*◌, ◌/◌, ◌^◌, arith, sym}
use Rattle.mapped_regions.proofs.Cutting.{found, bounds}
use Rattle.mapped_regions.proofs.OfHeap.{none_of_heap, one_of_heap, goes_past, last_of_user}
use Rattle.mapped_regions.proofs.region_tree.RegionTree.lowest_heap_met.Goals as goal

pub returns-then-region : goal.returns-then-region
returns-then-region c =
    let end = c.args.first + c.args.pages in
    sym (c.loop-region.invariant.same ∙ one_of_heap (4096 * c.loop-region.at) (end - c.loop-region.at) c.args.self.now
    c.in-Some.region (sym c.in-Some.ensures.value) c.if-region.true)

pub overflow_add-next : goal.overflow_add-next
overflow_add-next c =
    let end = c.args.first + c.args.pages in
    let f = found (4096 * c.loop-region.at) (end - c.loop-region.at) 0 c.args.self.now (2 ^ 64) c.in-Some.region
    c.in-Some.ensures.laid (sym c.in-Some.ensures.value) in
    let w = f.within in
    omega (arith, w)

pub returns-then-next-end : goal.returns-then-next-end
returns-then-next-end c =
    let end = c.args.first + c.args.pages in
    let at = c.loop-region.at in
    let f = found (4096 * at) (end - at) 0 c.args.self.now (2 ^ 64) c.in-Some.region c.in-Some.ensures.laid (sym c.in-Some.ensures.value) in
    sym (c.loop-region.invariant.same ∙ last_of_user at end 0 c.args.self.now (2 ^ 64) c.in-Some.region
    c.in-Some.ensures.laid c.loop-region.invariant.before (sym c.in-Some.ensures.value) c.if-region.false
    (omega (arith, f.at_page, c.if-next-end.true)))

pub loop-region-smaller : goal.loop-region-smaller
loop-region-smaller c =
    let end = c.args.first + c.args.pages in
    let at = c.loop-region.at in
    let f = found (4096 * at) (end - at) 0 c.args.self.now (2 ^ 64) c.in-Some.region c.in-Some.ensures.laid (sym c.in-Some.ensures.value) in
    let b = bounds (4096 * at) (end - at) c.in-Some.region f.met in
    omega (arith, b, f.at_page, c.if-next-end.false)

pub loop-region-preserved : goal.loop-region-preserved
loop-region-preserved c =
    let end = c.args.first + c.args.pages in
    let at = c.loop-region.at in
    let r = c.in-Some.region in
    let next = r.start / 4096 + r.pages in
    let f = found (4096 * at) (end - at) 0 c.args.self.now (2 ^ 64) r c.in-Some.ensures.laid (sym c.in-Some.ensures.value) in
    record {
      same = c.loop-region.invariant.same ∙ goes_past at next end 0 c.args.self.now (2 ^ 64) r c.in-Some.ensures.laid
          c.loop-region.invariant.before (sym c.in-Some.ensures.value) c.if-region.false (omega (arith, f.at_page))
          c.if-next-end.false;
      before = omega (arith, c.if-next-end.false);
    }

pub returns : goal.returns
returns c =
    let end = c.args.first + c.args.pages in
    sym (c.loop-region.invariant.same ∙ none_of_heap (4096 * c.loop-region.at) (end - c.loop-region.at) c.args.self.now (sym c.in_default.ensures.value))
