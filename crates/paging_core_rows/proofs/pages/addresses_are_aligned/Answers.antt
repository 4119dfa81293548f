use Rattle.std.proofs.Common.{refl}
use Rattle.paging_core_rows.proofs.pages.addresses_are_aligned.Goals as goal

pub align_up-requires-clause-power : goal.align_up-requires-clause-power
align_up-requires-clause-power g c = (0, refl)

pub align_up-requires-2-clause-power : goal.align_up-requires-2-clause-power
align_up-requires-2-clause-power g c = (1, refl)

pub align_up-requires-3-clause-power : goal.align_up-requires-3-clause-power
align_up-requires-3-clause-power g c = (1, refl)

pub align_up-requires-4-clause-power : goal.align_up-requires-4-clause-power
align_up-requires-4-clause-power g c = (63, refl)

pub align_up-requires-5-clause-power : goal.align_up-requires-5-clause-power
align_up-requires-5-clause-power g c = (12, refl)

pub align_down-requires : goal.align_down-requires
align_down-requires g c = record { power = (12, refl) }
