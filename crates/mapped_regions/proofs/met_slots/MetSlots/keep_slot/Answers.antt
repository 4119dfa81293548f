use Rattle.std.proofs.Common.{subst, sym}
use Rattle.mapped_regions.specs.MetSlots.{IsMapOf}
use Rattle.mapped_regions.proofs.met_slots.MetSlots.keep_slot.Goals as goal

pub returns : goal.returns
returns c =
    c.keep.ensures c.args.frames.now c.args.root
    (subst (λ n. IsMapOf c.args.frames.now c.args.root n c.slot_map-map.result) (sym c.slot_number.ensures.number) c.slot_map-map.ensures) c.requires.met
