use Rattle.std.proofs.Common.{◌+◌, ◌∙◌, sym, ap, arith}
use Rattle.paging_core.specs.Area.{in_area}
use Rattle.paging_core.specs.Walk.{mapped_place}
use Rattle.kernel_tables.specs.TableState.{TableState, leads, place_in}
use Rattle.kernel_tables.proofs.Ends.{large_run}
use Rattle.kernel_tables.proofs.tables.Tables.pages_beside.Goals as goal

pub frames_beside-requires-in-Large-clause-fits : goal.frames_beside-requires-in-Large-clause-fits
frames_beside-requires-in-Large-clause-fits c =
    let end = c.in-Large.ensures.end in
    let fits = (large_run c.self.inside.memory.words c.self.inside.root c.args.page (mapped_place c.in-Large.met) end.1 end.0).0 in
    let n = c.number.ensures.value in
    let count = c.limit-bounded.ensures.count in
    let bounded = c.limit-bounded.ensures.bounded in
    omega (arith, fits, n, count, bounded)

pub returns-in-Large-clause-beside : goal.returns-in-Large-clause-beside
returns-in-Large-clause-beside c = λ k lt.
    let end = c.in-Large.ensures.end in
    let n = c.number.ensures.value in
    let few = c.frames_beside-in-Large.ensures.bounded in
    let at = (large_run c.self.inside.memory.words c.self.inside.root c.args.page (mapped_place c.in-Large.met) end.1 end.0).1 k (omega (arith, lt, n, few)) in
    ap (λ (s : TableState). place_in c.args.self.now.area (leads s (c.args.page + k))) (sym c.self.view_is)
    ∙ (ap (place_in c.args.self.now.area) at.1
    ∙ (ap (in_area c.args.self.now.area) at.2 ∙ c.frames_beside-in-Large.ensures.beside k lt))
