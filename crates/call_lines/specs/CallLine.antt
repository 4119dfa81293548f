-- The line that asks for a call.
use Rattle.std.specs.Prelude.{ℕ, Bool, List, [], ◌++◌, codes, decimal, nat_eq, if◌then◌else◌}
use Rattle.hex.specs.Hex.{encode_lower}
use Rattle.paging_core.specs.declared.processor_access.AccessKind.{AccessKind}
use Rattle.paging_core.specs.declared.processor_access.AccessKind.TheVariants.{Read as Reading, Write as Writing, Fetch as Fetching}
use Rattle.machine_model.specs.declared.call.Call.{Call}
use Rattle.machine_model.specs.declared.call.Call.TheVariants.{Malloc, Calloc, Realloc, CRealloc, Free, Write, Read, Map, Unmap, Probe, Trim, SetRate, SetGranularity, Reset, Extents}
use Rattle.call_lines.specs.Written.{hexadecimal, rights_word}

-- one number after a name, and two
abbrev pub with_number : List ℕ → ℕ → List ℕ
with_number name first = name ++ (codes " " ++ decimal first)

abbrev pub with_numbers : List ℕ → ℕ → ℕ → List ℕ
with_numbers name first second = name ++ (codes " " ++ (decimal first ++ (codes " " ++ decimal second)))

-- a size after a name, and the alignment unless it is 16, which a line without one asks for
abbrev pub request_line : List ℕ → ℕ → ℕ → List ℕ
request_line name size align = if nat_eq align 16 then with_number name size else with_numbers name size align

abbrev pub access_word : AccessKind → List ℕ
access_word Reading = codes "read"
access_word Writing = codes "write"
access_word Fetching = codes "fetch"

-- what says that an access is the user's
abbrev pub by_user : Bool → List ℕ
by_user user = if user then codes " user" else []

-- The line that asks for a call: numbers are decimal, addresses hexadecimal, and bytes two lower case digits each.
abbrev pub call_line : Call → List ℕ
call_line (Malloc size align) = request_line (codes "malloc") size align
call_line (Calloc size align) = request_line (codes "calloc") size align
call_line (Realloc block size) = with_numbers (codes "realloc") block size
call_line (CRealloc block size) = with_numbers (codes "c_realloc") block size
call_line (Free block) = with_number (codes "free") block
call_line (Write block offset bytes) = with_numbers (codes "write") block offset ++ (codes " " ++ encode_lower bytes)
call_line (Read block offset count) = with_numbers (codes "read") block offset ++ (codes " " ++ decimal count)
call_line (Map start pages rights) = codes "map " ++ (hexadecimal start ++ (codes " " ++ (decimal pages ++ (codes " " ++ rights_word rights))))
call_line (Unmap start pages) = codes "unmap " ++ (hexadecimal start ++ (codes " " ++ decimal pages))
call_line (Probe at access user) = codes "probe " ++ (hexadecimal at ++ (codes " " ++ (access_word access ++ by_user user)))
call_line (Trim pad) = with_number (codes "trim") pad
call_line (SetRate rate) = with_number (codes "rate") rate
call_line (SetGranularity granularity) = with_number (codes "granularity") granularity
call_line Reset = codes "reset"
call_line Extents = codes "extents"
