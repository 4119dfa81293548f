use Rattle.std.proofs.Common.{◌∙◌, sym, ap, arith}
use Rattle.std.specs.Option.{option_map}
use Rattle.paging_core.specs.Walk.{mapped_place}
use Rattle.paging_core.proofs.WalkEnds.{first_met, next_met, stops_first, stops_second, ends_from}
use Rattle.paging_core.proofs.walk_end.end_of_walk.Goals as goal

pub returns-in_default-clause-end : goal.returns-in_default-clause-end
returns-in_default-clause-end g c =
    stops_first (g.M.PhysicalMemory.words c.args.frames.now) c.args.root c.args.page
    (first_met (g.M.PhysicalMemory.words c.args.frames.now) c.args.root c.args.page c.index_after.result c.full.result
    c.full.ensures c.index_after.ensures.value
    ∙ (sym c.next.ensures.step ∙ ap (option_map mapped_place) c.in_default.is))

pub returns-in_default-next-clause-end : goal.returns-in_default-next-clause-end
returns-in_default-next-clause-end g c =
    let upper = first_met (g.M.PhysicalMemory.words c.args.frames.now) c.args.root c.args.page c.index_after.result
    c.full.result c.full.ensures c.index_after.ensures.value
    ∙ sym c.in-Some.ensures.step in
    stops_second (g.M.PhysicalMemory.words c.args.frames.now) c.args.root c.args.page (mapped_place c.in-Some.upper) upper
    (next_met (g.M.PhysicalMemory.words c.args.frames.now) c.args.root c.args.page 1 c.index_after-2.result
    (mapped_place c.in-Some.upper) (omega arith) upper c.index_after-2.ensures.value
    ∙ (sym c.next-2.ensures.step ∙ ap (option_map mapped_place) c.in_default-next.is))

pub returns-clause-end : goal.returns-clause-end
returns-clause-end g c =
    let upper = first_met (g.M.PhysicalMemory.words c.args.frames.now) c.args.root c.args.page c.index_after.result
    c.full.result c.full.ensures c.index_after.ensures.value
    ∙ sym c.in-Some.ensures.step in
    let lower = next_met (g.M.PhysicalMemory.words c.args.frames.now) c.args.root c.args.page 1 c.index_after-2.result
    (mapped_place c.in-Some.upper) (omega arith) upper c.index_after-2.ensures.value
    ∙ sym c.in-Some-next.ensures.step in
    ends_from (g.M.PhysicalMemory.words c.args.frames.now) c.args.root c.args.page c.index_after-3.result
    c.index_after-4.result (mapped_place c.in-Some-next.lower) lower
    c.index_after-3.ensures.value c.index_after-4.ensures.value c.end_from.result c.end_from.ensures.end
