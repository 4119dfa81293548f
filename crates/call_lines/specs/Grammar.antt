-- The call that a line asks for.
use Rattle.std.specs.Prelude.{ℕ, Bool, true, false, List, [], ◌∷◌, length, Option, Some, None, if◌then◌else◌, ◌==◌, nat_lt, codes, ⊤}
use Rattle.std.specs.Option.{option_map}
use Rattle.std.specs.Result.{result_ok}
use Rattle.std.specs.Str.{bytes_eq}
use Rattle.hex.specs.Hex.{decode_of}
use Rattle.paging_core.specs.declared.page_table.Rights.{Rights}
use Rattle.paging_core.specs.declared.processor_access.AccessKind.{AccessKind}
use Rattle.paging_core.specs.declared.processor_access.AccessKind.TheVariants.{Read as Reading, Write as Writing, Fetch as Fetching}
use Rattle.machine_model.specs.declared.call.Call.{Call}
use Rattle.machine_model.specs.declared.call.Call.TheVariants.{Malloc, Calloc, Realloc, CRealloc, Free, Write, Read, Map, Unmap, Probe, Trim, SetRate, SetGranularity, Reset, Extents}
use Rattle.call_lines.specs.Number.{number_of}
use Rattle.call_lines.specs.Words.{words_of}

-- one number, and no word after it
abbrev pub one_number : List (List ℕ) → Option ℕ
one_number (word ∷ []) = number_of word
one_number words = None

abbrev pub both_numbers : Option ℕ → Option ℕ → Option (ℕ × ℕ)
both_numbers (Some first) (Some second) = Some (first, second)
both_numbers first second = None

-- two numbers, and no word after them
abbrev pub two_numbers : List (List ℕ) → Option (ℕ × ℕ)
two_numbers (first ∷ second ∷ []) = both_numbers (number_of first) (number_of second)
two_numbers words = None

-- `SIZE`, at the alignment 16, or `SIZE ALIGN`
abbrev pub request_of : List (List ℕ) → Option (ℕ × ℕ)
request_of (size ∷ []) = both_numbers (number_of size) (Some 16)
request_of words = two_numbers words

-- `malloc SIZE` and `malloc SIZE ALIGN`, with what comes after the name
abbrev pub malloc_of : List (List ℕ) → Option Call
malloc_of words = option_map (λ asked. Malloc asked.0 asked.1) (request_of words)

-- `calloc SIZE` and `calloc SIZE ALIGN`, with what comes after the name
abbrev pub calloc_of : List (List ℕ) → Option Call
calloc_of words = option_map (λ asked. Calloc asked.0 asked.1) (request_of words)

-- `realloc BLOCK SIZE`, with what comes after the name
abbrev pub realloc_of : List (List ℕ) → Option Call
realloc_of words = option_map (λ asked. Realloc asked.0 asked.1) (two_numbers words)

-- `c_realloc BLOCK SIZE`, with what comes after the name
abbrev pub c_realloc_of : List (List ℕ) → Option Call
c_realloc_of words = option_map (λ asked. CRealloc asked.0 asked.1) (two_numbers words)

-- `free BLOCK`, with what comes after the name
abbrev pub free_call : List (List ℕ) → Option Call
free_call words = option_map Free (one_number words)

-- bytes as two hexadecimal digits each, of either case; at least one byte
abbrev pub bytes_from_digits : List ℕ → Option (List ℕ)
bytes_from_digits [] = None
bytes_from_digits (digit ∷ digits) = result_ok (decode_of (digit ∷ digits))

abbrev pub write_call : Option ℕ → Option ℕ → Option (List ℕ) → Option Call
write_call (Some block) (Some offset) (Some bytes) = Some (Write block offset bytes)
write_call block offset bytes = None

-- `write BLOCK OFFSET HEX`, with what comes after the name
abbrev pub write_of : List (List ℕ) → Option Call
write_of (block ∷ offset ∷ bytes ∷ []) = write_call (number_of block) (number_of offset) (bytes_from_digits bytes)
write_of words = None

abbrev pub read_call : Option ℕ → Option ℕ → Option ℕ → Option Call
read_call (Some block) (Some offset) (Some count) = Some (Read block offset count)
read_call block offset count = None

-- `read BLOCK OFFSET LENGTH`, with what comes after the name
abbrev pub read_of : List (List ℕ) → Option Call
read_of (block ∷ offset ∷ count ∷ []) = read_call (number_of block) (number_of offset) (number_of count)
read_of words = None

-- a right is granted if its letter stands there, and not if `-` does
abbrev pub right_of : ℕ → ℕ → Option Bool
right_of letter code = if code == letter then Some true else if code == 45 then Some false else None

abbrev pub three_rights : Option Bool → Option Bool → Option Bool → Option Rights
three_rights (Some write) (Some user) (Some fetch) = Some (record { write = write; user = user; fetch = fetch })
three_rights write user fetch = None

-- the letter `r`, and then `w`, `u` and `x`, or `-` in the place of each
abbrev pub rights_of_letters : List ℕ → Option Rights
rights_of_letters (read ∷ write ∷ user ∷ fetch ∷ []) = if read == 114 then three_rights (right_of 119 write) (right_of 117 user) (right_of 120 fetch) else None
rights_of_letters word = None

abbrev pub map_call : Option ℕ → Option ℕ → Option Rights → Option Call
map_call (Some start) (Some pages) (Some rights) = Some (Map start pages rights)
map_call start pages rights = None

-- `map ADDR PAGES RIGHTS`, with what comes after the name
abbrev pub map_of : List (List ℕ) → Option Call
map_of (start ∷ pages ∷ rights ∷ []) = map_call (number_of start) (number_of pages) (rights_of_letters rights)
map_of words = None

-- `unmap ADDR PAGES`, with what comes after the name
abbrev pub unmap_of : List (List ℕ) → Option Call
unmap_of words = option_map (λ range. Unmap range.0 range.1) (two_numbers words)

-- `read`, `write` or `fetch`
abbrev pub access_named : List ℕ → Option AccessKind
access_named word =
    if bytes_eq word (codes "read") then Some Reading else
    if bytes_eq word (codes "write") then Some Writing else
    if bytes_eq word (codes "fetch") then Some Fetching else None

abbrev pub probe_call : Option ℕ → Option AccessKind → Option Bool → Option Call
probe_call (Some at) (Some access) (Some user) = Some (Probe at access user)
probe_call at access user = None

-- whether the access is the user's: it is if the word `user` stands there, alone
abbrev pub user_of : List (List ℕ) → Option Bool
user_of [] = Some false
user_of (word ∷ []) = if bytes_eq word (codes "user") then Some true else None
user_of words = None

-- `probe ADDR ACCESS` and `probe ADDR ACCESS user`, with what comes after the name
abbrev pub probe_of : List (List ℕ) → Option Call
probe_of (at ∷ access ∷ words) = probe_call (number_of at) (access_named access) (user_of words)
probe_of words = None

-- `trim PAD`, with what comes after the name
abbrev pub trim_of : List (List ℕ) → Option Call
trim_of words = option_map Trim (one_number words)

-- `rate N`, with what comes after the name
abbrev pub rate_of : List (List ℕ) → Option Call
rate_of words = option_map SetRate (one_number words)

-- `granularity N`, with what comes after the name
abbrev pub granularity_of : List (List ℕ) → Option Call
granularity_of words = option_map SetGranularity (one_number words)

-- a call whose name is the whole line: no word comes after it
abbrev pub alone : Call → List (List ℕ) → Option Call
alone call [] = Some call
alone call words = None

-- the call that the first word names
abbrev pub call_of : List (List ℕ) → Option Call
call_of [] = None
call_of (name ∷ arguments) =
    if bytes_eq name (codes "malloc") then malloc_of arguments else
    if bytes_eq name (codes "calloc") then calloc_of arguments else
    if bytes_eq name (codes "realloc") then realloc_of arguments else
    if bytes_eq name (codes "c_realloc") then c_realloc_of arguments else
    if bytes_eq name (codes "free") then free_call arguments else
    if bytes_eq name (codes "write") then write_of arguments else
    if bytes_eq name (codes "read") then read_of arguments else
    if bytes_eq name (codes "map") then map_of arguments else
    if bytes_eq name (codes "unmap") then unmap_of arguments else
    if bytes_eq name (codes "probe") then probe_of arguments else
    if bytes_eq name (codes "trim") then trim_of arguments else
    if bytes_eq name (codes "rate") then rate_of arguments else
    if bytes_eq name (codes "granularity") then granularity_of arguments else
    if bytes_eq name (codes "reset") then alone Reset arguments else
    if bytes_eq name (codes "extents") then alone Extents arguments else None

-- the call of a line of at most 8192 bytes; None is a bad line
unfoldable pub item_of : List ℕ → Option Call
item_of line = if nat_lt 8192 (length line) then None else call_of (words_of line)

-- a `write`, and no other call
abbrev pub IsWrite : Option Call → Type 0
IsWrite (Some (Write block offset bytes)) = ⊤
IsWrite item = ⊥
