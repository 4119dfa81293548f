-- An access to one byte, as a processor checks it after its walk (AMD64 volume 2, sections 5.6 "Page-Protection Checks" and
-- 8.4.2 "Page-Fault Error Code"). CR0.WP and EFER.NXE are on; supervisor mode execution and access prevention are off; there
-- are no protection keys and no shadow stacks.
use Rattle.std.specs.Prelude.{ℕ, ◌+◌, ◌*◌, ◌/◌, ◌%◌, ◌^◌, Bool, true, false, not, ◌&&◌, ◌||◌, if◌then◌else◌, List, Result, Ok, Err}
use Rattle.paging_core.specs.Walk.{Place}
use Rattle.paging_core.specs.ProcessorWalk.{Outcome, NotPresent, Reserved, AtPage, processor_walk}
use Rattle.paging_core.specs.declared.processor_access.AccessKind.{AccessKind}
use Rattle.paging_core.specs.declared.processor_access.AccessKind.TheVariants.{Read, Write, Fetch}

-- whether the rights of the page grant an access of the kind; reading is always granted
abbrev pub place_grants : Place → AccessKind → Bool
place_grants place Read = true
place_grants place Write = place.write
place_grants place Fetch = place.fetch

-- whether the access is granted: one by the user needs the user's right too
abbrev pub permits : Place → AccessKind → Bool → Bool
permits place kind user = place_grants place kind && (not user || place.user)

-- what the code says of the access: bit 1 that it is a write, bit 4 that it is a fetch
abbrev pub kind_bit : AccessKind → ℕ
kind_bit Read = 0
kind_bit Write = 2 ^ 1
kind_bit Fetch = 2 ^ 4

-- the code of the access's page fault. Bit 0: the entries are present, and a right or a reserved bit denies it; bit 2: it is
-- by the user; bit 3: a reserved bit is set.
abbrev pub fault_code : Bool → Bool → AccessKind → Bool → ℕ
fault_code present reserved kind user =
    (if present then 2 ^ 0 else 0) + kind_bit kind + (if user then 2 ^ 2 else 0) + (if reserved then 2 ^ 3 else 0)

-- the answer to an access if the walk ended like this: the physical address of the byte, which has this offset in its
-- page, or the fault's code
abbrev pub answer_of : Outcome → ℕ → AccessKind → Bool → Result ℕ ℕ
answer_of (NotPresent step) offset kind user = Err (fault_code false false kind user)
answer_of (Reserved step) offset kind user = Err (fault_code true true kind user)
answer_of (AtPage place) offset kind user =
    (if permits place kind user then Ok (4096 * place.frame + offset) else Err (fault_code true false kind user))

-- the answer to an access to the byte at a virtual address
abbrev pub access_of : ℕ → List ℕ → ℕ → ℕ → AccessKind → Bool → Result ℕ ℕ
access_of width words root address kind user = answer_of (processor_walk width words root (address / 4096)) (address % 4096) kind user
