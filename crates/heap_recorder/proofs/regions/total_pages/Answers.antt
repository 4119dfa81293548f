use Rattle.std.proofs.Common.{rules, arith}
use Rattle.heap_recorder.proofs.KeptRegions.{pages_more, no_region}
use Rattle.heap_recorder.proofs.regions.total_pages.Goals as goal

pub loop-region-preserved : goal.loop-region-preserved
loop-region-preserved c =
    let more = pages_more c.args.regions.now c.loop-region.region-index no_region c.loop-region-test.true in
    record { rest = omega (arith, more, c.loop-region.invariant.rest, c.from-pages.ensures); few = search rules }
