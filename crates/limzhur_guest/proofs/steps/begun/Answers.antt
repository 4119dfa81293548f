use Rattle.std.proofs.Common.{◌≡◌, ◌/◌, ◌%◌, ◌^◌, sym}
use Rattle.guest_walk.proofs.GuestSteps.{from_root}
use Rattle.limzhur_guest.specs.Words.{mode_of, root_of}
use Rattle.limzhur_guest.proofs.steps.begun.Goals as goal

pub returns-clause-walk : goal.returns-clause-walk
returns-clause-walk c words zero =
    rw (zero, c.number.ensures.value, c.root_of.ensures)
    (sym (from_root (mode_of c.args.mode) c.args.width words (root_of c.args.cr3) (c.args.address / 4096)))
