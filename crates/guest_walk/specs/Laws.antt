-- What the walk and the rights of a mode mean: laws above the definitions.
use Rattle.std.specs.Prelude.{◌≡◌, ℕ, Bool, true, false, List}
use Rattle.paging_core.specs.Walk.{Place}
use Rattle.paging_core.specs.ProcessorWalk.{processor_walk}
use Rattle.paging_core.specs.ProcessorAccess.{permits}
use Rattle.paging_core.specs.declared.processor_access.AccessKind.{AccessKind}
use Rattle.guest_walk.specs.declared.mode.Mode.{Mode}
use Rattle.guest_walk.specs.GuestWalk.{guest_walk, outcome_of}
use Rattle.guest_walk.specs.GuestAccess.{permits_in}
use Rattle.guest_walk.specs.Mode.{usual}

-- With no-execute on and bit 8 reserved the walk is `processor_walk`, whatever else the mode has.
abbrev pub WalksAsTheProcessor : Type 0
WalksAsTheProcessor =
    (mode : Mode) (width : ℕ) (words : List ℕ) (root page : ℕ) → mode.no_execute ≡ true → mode.ignores_bit_8 ≡ false →
    outcome_of (guest_walk mode width words root page) ≡ processor_walk width words root page

-- In the usual mode an access is granted as `permits` has it.
abbrev pub PermitsAsTheProcessor : Type 0
PermitsAsTheProcessor = (place : Place) (kind : AccessKind) (user : Bool) → permits_in usual place kind user ≡ permits place kind user
