use Rattle.mapped_regions.proofs.MetSlots.{found_frame_kept}
use Rattle.mapped_regions.proofs.met_slots.MetSlots.frame.Goals as goal

pub returns-in-Some : goal.returns-in-Some
returns-in-Some c =
    found_frame_kept c.args.frames.now c.args.root c.args.page c.number.result c.in-Some.frame c.find.result c.requires.page.below
    c.requires.page.mapped c.number.ensures.value
    (c.find.ensures.pages c.args.frames.now c.args.root c.requires.met.2) c.in-Some.is
