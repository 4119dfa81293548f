-- What is printed of an address.
use Rattle.std.specs.Prelude.{ℕ, Bool, true, false, List, ◌++◌, Result, Ok, Err, codes, if◌then◌else◌}
use Rattle.std.specs.Fmt.{digits}
use Rattle.paging_core.specs.Address.{is_canonical}
use Rattle.paging_core.specs.ProcessorAccess.{access_of}
use Rattle.paging_core.specs.declared.processor_access.AccessKind.TheVariants.{Read, Write, Fetch}

abbrev pub hexadecimal : ℕ → List ℕ
hexadecimal n = codes "0x" ++ digits 16 false n

-- the physical address of the byte, or the code of the page fault
abbrev pub answer_text : Result ℕ ℕ → List ℕ
answer_text (Ok place) = codes " " ++ hexadecimal place
answer_text (Err code) = codes " fault:" ++ hexadecimal code

-- the outcome of a read, a write and a fetch
abbrev pub accesses_text : List ℕ → ℕ → ℕ → ℕ → Bool → List ℕ
accesses_text words root width address user =
    answer_text (access_of width words root address Read user)
    ++ (answer_text (access_of width words root address Write user) ++ answer_text (access_of width words root address Fetch user))

-- by the supervisor, and by the user
abbrev pub walk_line : List ℕ → ℕ → ℕ → ℕ → List ℕ
walk_line words root width address =
    if is_canonical address
    then hexadecimal address ++ (accesses_text words root width address false ++ (accesses_text words root width address true ++ codes "\n"))
    else codes "none\n"
