use Rattle.std.proofs.Common.{rules, arith}
use Rattle.heap_picture.proofs.Joins.{pages_more, none}
use Rattle.heap_picture.proofs.lines.total_pages.Goals as goal

pub loop-region-preserved : goal.loop-region-preserved
loop-region-preserved c =
    let more = pages_more c.args.regions.now c.loop-region.region-index none c.loop-region-test.true in
    record { rest = omega (arith, more, c.loop-region.invariant.rest, c.from-pages.ensures); few = search rules }
