use Rattle.std.proofs.Common.{◌≡◌, ◌∙◌, ◌%◌, sym, ap, Some, None}
use Rattle.std.specs.Option.{option_map}
use Rattle.paging_core.specs.Walk.{reach, large_step, mapped_place}
use Rattle.paging_core.specs.Large.{slot_of, above}
use Rattle.paging_core.proofs.LargeGone.{large_at, large_stops, slot_index}
use Rattle.paging_core.proofs.large.large_page.Goals as goal

pub returns : goal.returns
returns g c =
    let met : reach (g.M.PhysicalMemory.words c.args.frames.now) c.args.root 2 (above c.args.page 2) ≡ Some (mapped_place c.in_ok-at.at) =
    rw c.first_page-first.ensures at (sym c.in_ok-at.ensures.reach) in
    let ix : c.index_after.result ≡ slot_of c.args.page % 512 = (rw c.first_page-first.ensures at c.index_after.ensures.value) ∙ slot_index c.args.page in
    c.large_at.ensures.step
    ∙ (ap (large_step (g.M.PhysicalMemory.words c.args.frames.now) (mapped_place c.in_ok-at.at)) ix
    ∙ sym (large_at (g.M.PhysicalMemory.words c.args.frames.now) c.args.root c.args.page (mapped_place c.in_ok-at.at) met))

pub returns-in_err-at : goal.returns-in_err-at
returns-in_err-at g c =
    let none : reach (g.M.PhysicalMemory.words c.args.frames.now) c.args.root 2 (above c.args.page 2) ≡ None =
    rw c.first_page-first.ensures at (sym c.in_err-at.ensures.reach) in
    ap (option_map mapped_place) c.from_residual.ensures ∙ sym (large_stops (g.M.PhysicalMemory.words c.args.frames.now) c.args.root c.args.page none)
