-- Which calls can be asked for by a line, and what their own lines ask for.
use Rattle.std.specs.Prelude.{◌≡◌, ℕ, ◌<◌, ◌≤◌, ◌^◌, ⊤, List, length, Some}
use Rattle.hex.specs.Hex.{IsBytes}
use Rattle.machine_model.specs.declared.call.Call.{Call}
use Rattle.machine_model.specs.declared.call.Call.TheVariants.{Malloc, Calloc, Realloc, CRealloc, Free, Write, Read, Map, Unmap, Probe, Trim, SetRate, SetGranularity, Reset, Extents}
use Rattle.call_lines.specs.CallLine.{call_line}
use Rattle.call_lines.specs.Grammar.{item_of}

-- its numbers fit 64 bits, its bytes are bytes, and it writes at least one
abbrev pub CanBeAsked : Call → Type 0
CanBeAsked (Malloc size align) = (size < 2 ^ 64) × (align < 2 ^ 64)
CanBeAsked (Calloc size align) = (size < 2 ^ 64) × (align < 2 ^ 64)
CanBeAsked (Realloc block size) = (block < 2 ^ 64) × (size < 2 ^ 64)
CanBeAsked (CRealloc block size) = (block < 2 ^ 64) × (size < 2 ^ 64)
CanBeAsked (Free block) = block < 2 ^ 64
CanBeAsked (Write block offset bytes) = (block < 2 ^ 64) × (offset < 2 ^ 64) × IsBytes bytes × (0 < length bytes)
CanBeAsked (Read block offset count) = (block < 2 ^ 64) × (offset < 2 ^ 64) × (count < 2 ^ 64)
CanBeAsked (Map start pages rights) = (start < 2 ^ 64) × (pages < 2 ^ 64)
CanBeAsked (Unmap start pages) = (start < 2 ^ 64) × (pages < 2 ^ 64)
CanBeAsked (Probe at access user) = at < 2 ^ 64
CanBeAsked (Trim pad) = pad < 2 ^ 64
CanBeAsked (SetRate rate) = rate < 2 ^ 64
CanBeAsked (SetGranularity granularity) = granularity < 2 ^ 64
CanBeAsked Reset = ⊤
CanBeAsked Extents = ⊤

-- at most 4072 bytes are written
abbrev pub WritesFew : Call → Type 0
WritesFew (Write block offset bytes) = length bytes ≤ 4072
WritesFew call = ⊤

-- a line asks for no other calls
abbrev pub AsksForNoOther : Type 0
AsksForNoOther = (line : List ℕ) (call : Call) → item_of line ≡ Some call → CanBeAsked call

-- a call is read from its own line, unless that is too long
abbrev pub ReadsBack : Type 0
ReadsBack = (call : Call) → CanBeAsked call → length (call_line call) ≤ 8192 → item_of (call_line call) ≡ Some call

-- it is not, unless the call writes many bytes
abbrev pub IsShort : Type 0
IsShort = (call : Call) → CanBeAsked call → WritesFew call → length (call_line call) ≤ 8192
