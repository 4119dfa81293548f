use Rattle.std.proofs.Common.{◌<◌, ◌∙◌, ap, subst, sym}
use Rattle.paging_core.specs.Entry.{frame_of}
use Rattle.paging_core.specs.Memory.{frame_count, word_at}
use Rattle.mapped_regions.proofs.MetSlots.{passed, by_table}
use Rattle.mapped_regions.proofs.met_slots.frame_in_table.Goals as goal

pub entry_at-requires : goal.entry_at-requires
entry_at-requires c =
    let w = passed c.args.frames.now c.args.root c.args.page c.requires.page.below c.requires.page.mapped in
    (by_table c.args.frames.now c.args.root c.args.page c.args.table w c.requires.table).below

pub returns : goal.returns
returns c =
    let w = passed c.args.frames.now c.args.root c.args.page c.requires.page.below c.requires.page.mapped in
    let page = by_table c.args.frames.now c.args.root c.args.page c.args.table w c.requires.table in
    let frame = page.frame_is
    ∙ (ap (λ i. frame_of (word_at c.args.frames.now c.args.table i)) (sym c.p1_index.ensures) ∙ (ap frame_of (sym c.entry_at.ensures) ∙ sym c.frame.ensures)) in
    record { place = w.place; found = w.found; to_frame = frame; below = subst (λ f. f < frame_count c.args.frames.now) frame w.place_below }
