-- An access to one byte, as a processor in any mode checks it after its walk (AMD64 volume 2, sections 5.6 "Page-Protection
-- Checks" and 8.4.2 "Page-Fault Error Code"). There are no protection keys and no shadow stacks.
use Rattle.std.specs.Prelude.{ℕ, Bool, true, false, not, ◌&&◌, ◌||◌, if◌then◌else◌, Option, Some, None}
use Rattle.paging_core.specs.Walk.{Place}
use Rattle.paging_core.specs.ProcessorAccess.{place_grants, fault_code}
use Rattle.paging_core.specs.declared.processor_access.AccessKind.{AccessKind}
use Rattle.paging_core.specs.declared.processor_access.AccessKind.TheVariants.{Read, Write, Fetch}
use Rattle.guest_walk.specs.declared.mode.Mode.{Mode}
use Rattle.guest_walk.specs.GuestWalk.{Ending, NotPresent, Reserved, AtPage}

-- SMAP denies the supervisor's reads and writes of the user's pages, unless RFLAGS.AC is set
abbrev pub smap_denies : Mode → Place → Bool
smap_denies mode place = mode.smap && (not mode.alignment_check && place.user)

-- whether the supervisor's access is granted: without CR0.WP a read-only page takes its writes, and with SMEP it fetches from
-- no page of the user's
abbrev pub grants_supervisor : Mode → Place → AccessKind → Bool
grants_supervisor mode place Read = not (smap_denies mode place)
grants_supervisor mode place Write = (not mode.write_protect || place.write) && not (smap_denies mode place)
grants_supervisor mode place Fetch = place.fetch && not (mode.smep && place.user)

-- whether the access is granted; one by the user needs the user's right too
abbrev pub permits_in : Mode → Place → AccessKind → Bool → Bool
permits_in mode place kind user = if user then place.user && place_grants place kind else grants_supervisor mode place kind

-- what the fault's code tells of the kind: that it is a fetch only where no-execute or SMEP is on
abbrev pub kind_told : Mode → AccessKind → AccessKind
kind_told mode Read = Read
kind_told mode Write = Write
kind_told mode Fetch = (if mode.no_execute || mode.smep then Fetch else Read)

-- the code of the access's page fault
abbrev pub guest_fault_code : Mode → Bool → Bool → AccessKind → Bool → ℕ
guest_fault_code mode present reserved kind user = fault_code present reserved (kind_told mode kind) user

-- the page fault of an access if the walk ended like this, by its code; none if the access is granted
abbrev pub fault_in : Mode → Ending → AccessKind → Bool → Option ℕ
fault_in mode (NotPresent step) kind user = Some (guest_fault_code mode false false kind user)
fault_in mode (Reserved step) kind user = Some (guest_fault_code mode true true kind user)
fault_in mode (AtPage step found) kind user =
    (if permits_in mode found.place kind user then None else Some (guest_fault_code mode true false kind user))
