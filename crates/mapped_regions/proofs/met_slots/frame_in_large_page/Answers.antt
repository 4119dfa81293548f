use Rattle.std.proofs.Common.{◌+◌, ◌%◌, ◌<◌, ◌∙◌, ap, subst, sym, arith}
use Rattle.paging_core.specs.Memory.{frame_count}
use Rattle.mapped_regions.proofs.MetSlots.{passed, by_large}
use Rattle.mapped_regions.proofs.met_slots.frame_in_large_page.Goals as goal

pub after-requires : goal.after-requires
after-requires c =
    let w = passed c.args.frames.now c.args.root c.args.page c.requires.page.below c.requires.page.mapped in
    let page = by_large c.args.frames.now c.args.root c.args.page c.args.first w c.requires.large_page in
    let fits = page.fits in
    let number = c.number.ensures.value in
    omega arith

pub returns : goal.returns
returns c =
    let w = passed c.args.frames.now c.args.root c.args.page c.requires.page.below c.requires.page.mapped in
    let page = by_large c.args.frames.now c.args.root c.args.page c.args.first w c.requires.large_page in
    let frame = page.frame_is ∙ (ap (λ n. c.args.first + n % 512) (sym c.number.ensures.value) ∙ sym c.after.ensures) in
    record { place = w.place; found = w.found; to_frame = frame; below = subst (λ f. f < frame_count c.args.frames.now) frame w.place_below }
