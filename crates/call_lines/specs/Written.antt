-- How numbers, rights and causes are written.
use Rattle.std.specs.Prelude.{ℕ, Bool, false, List, ◌++◌, codes, if◌then◌else◌}
use Rattle.std.specs.Fmt.{digits}
use Rattle.paging_core.specs.declared.page_table.Rights.{Rights}
use Rattle.machine_model.specs.declared.answer.Refusal.{Refusal}
use Rattle.machine_model.specs.declared.answer.Refusal.TheVariants.{BadAlign, TooLarge, NoSpace, NoFrames, UnknownBlock, OutOfBlock, BadRange, HeapRegion, Overlap, UnknownRegion, NotCanonical}

-- an address, in lower case without leading zeros
abbrev pub hexadecimal : ℕ → List ℕ
hexadecimal n = codes "0x" ++ digits 16 false n

-- a letter if the right is granted, else a dash
abbrev pub right_word : Bool → List ℕ → List ℕ
right_word granted letter = if granted then letter else codes "-"

-- reading is always granted; then writes, user accesses and fetches
abbrev pub rights_word : Rights → List ℕ
rights_word rights = codes "r" ++ (right_word rights.write (codes "w") ++ (right_word rights.user (codes "u") ++ right_word rights.fetch (codes "x")))

-- the word of a refusal in an answer's line
abbrev pub refusal_word : Refusal → List ℕ
refusal_word BadAlign = codes "bad-align"
refusal_word TooLarge = codes "too-large"
refusal_word NoSpace = codes "no-space"
refusal_word NoFrames = codes "no-frames"
refusal_word UnknownBlock = codes "unknown-block"
refusal_word OutOfBlock = codes "out-of-block"
refusal_word BadRange = codes "bad-range"
refusal_word HeapRegion = codes "heap-region"
refusal_word Overlap = codes "overlap"
refusal_word UnknownRegion = codes "unknown-region"
refusal_word NotCanonical = codes "not-canonical"
