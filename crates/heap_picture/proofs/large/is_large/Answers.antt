use Rattle.std.proofs.Common.{◌∙◌, refl}
use Rattle.paging_core.specs.Address.{is_canonical}
use Rattle.heap_picture.proofs.Slots.{none_met, not_true, large_seen}
use Rattle.heap_picture.proofs.large.is_large.Goals as goal

pub returns-in-Some : goal.returns-in-Some
returns-in-Some c = λ s at.
    c.is_mapped_large.ensures
    ∙ large_seen c.system.result.now c.args.machine.now s c.in-Some.address c.args.slot c.system.ensures at
    c.in-Some.ensures.value c.requires (c.in-Some.ensures.canonical.0 refl)

pub returns-in-None : goal.returns-in-None
returns-in-None c = λ s at. none_met s.large c.args.slot at.good.are_slots (not_true (is_canonical c.args.slot) c.in-None.ensures.canonical.1)
