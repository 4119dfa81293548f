use Rattle.mapped_regions.proofs.met_slots.MetSlots.new.Goals as goal

pub returns : goal.returns
returns c = λ words root. (c.none_met-2.ensures.tables words root, c.none_met-3.ensures.large_pages words root, c.none_met.ensures.pages words root)
