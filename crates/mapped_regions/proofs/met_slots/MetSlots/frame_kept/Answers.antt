use Rattle.mapped_regions.proofs.MetSlots.{found_frame_kept}
use Rattle.mapped_regions.proofs.met_slots.MetSlots.frame_kept.Goals as goal

pub returns-in-Some-clause-frame : goal.returns-in-Some-clause-frame
returns-in-Some-clause-frame c =
    found_frame_kept c.args.frames.now c.args.root c.args.page c.number.result c.in-Some.frame c.find.result c.requires.page.below
    c.requires.page.mapped c.number.ensures.value
    (c.find.ensures.pages c.args.frames.now c.args.root c.requires.met.2) c.in-Some.is
