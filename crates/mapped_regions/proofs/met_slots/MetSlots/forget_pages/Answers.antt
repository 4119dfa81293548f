use Rattle.mapped_regions.proofs.met_slots.MetSlots.forget_pages.Goals as goal

pub returns : goal.returns
returns c = λ words root tables. (tables, c.none_met-self-2.ensures.large_pages words root, c.none_met-self.ensures.pages words root)
