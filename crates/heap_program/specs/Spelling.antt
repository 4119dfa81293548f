-- An output spells one list of answers.
use Rattle.std.specs.Prelude.{◌≡◌, ℕ, ◌+◌, ◌<◌, ◌≤◌, ◌^◌, ⊤, List, [], ◌∷◌, ◌++◌, length, Option, None, Some}
use Rattle.std.specs.List.{AllByRecursion}
use Rattle.hex.specs.Hex.{IsBytes}
use Rattle.x86_flags.specs.PageFaultErrorCode.{page_fault_bits}
use Rattle.dlmalloc_chunks.specs.declared.extent.Extent.{Extent}
use Rattle.machine_model.specs.declared.answer.Answer.{Answer}
use Rattle.machine_model.specs.declared.answer.Reply.{Reply}
use Rattle.machine_model.specs.declared.answer.Reply.TheVariants.{Block, Done, Bytes, Byte, Fault, Trimmed, Accepted, Released, Extents, Refused}
use Rattle.machine_model.specs.declared.call.Call.{Call}
use Rattle.machine_model.specs.declared.region.Region.{Region}
use Rattle.machine_model.specs.Room.{heap_region}
use Rattle.machine_model.specs.Run.{RunsTo}
use Rattle.machine_model.specs.State.{State}
use Rattle.heap_program.specs.Progress.{texts_of}
use Rattle.heap_program.specs.Text.{end_text_of}

-- the numbers of an extent fit 64 bits
abbrev pub ExtentFits : Extent → Type 0
ExtentFits extent = (extent.at < 2 ^ 64) × (extent.size < 2 ^ 64)

-- the numbers of a reply fit 64 bits, and its bytes are bytes
abbrev pub ReplyFits : Reply → Type 0
ReplyFits (Block number address) = (number < 2 ^ 64) × (address < 2 ^ 64)
ReplyFits Done = ⊤
ReplyFits (Bytes bytes) = IsBytes bytes
ReplyFits (Byte byte) = IsBytes (byte ∷ [])
ReplyFits (Fault code) = page_fault_bits code < 2 ^ 64
ReplyFits (Trimmed released) = ⊤
ReplyFits (Accepted accepted) = ⊤
ReplyFits (Released bytes) = bytes < 2 ^ 64
ReplyFits (Extents extents) = AllByRecursion ExtentFits extents
ReplyFits (Refused why) = ⊤

-- a heap region, whose numbers fit 64 bits
abbrev pub RegionFits : Region → Type 0
RegionFits region = (region.start < 2 ^ 64) × (region.pages < 2 ^ 64) × (region ≡ heap_region region.start region.pages)

abbrev pub RegionsFit : Option (List Region) → Type 0
RegionsFit None = ⊤
RegionsFit (Some regions) = AllByRecursion RegionFits regions

-- the addresses of slots fit 64 bits
abbrev pub SlotsFit : Option (List ℕ) → Type 0
SlotsFit None = ⊤
SlotsFit (Some slots) = AllByRecursion (λ slot. slot < 2 ^ 64) slots

-- an answer lists regions of the heap alone; a bad line is None
abbrev pub AnswerFits : Option Answer → Type 0
AnswerFits None = ⊤
AnswerFits (Some answer) = ReplyFits answer.reply × RegionsFit answer.regions × SlotsFit answer.large

-- two lists of answers to the same number of lines that are printed alike, each before an end text, are the same list
abbrev pub SpellsOne : Type 0
SpellsOne =
    (xs ys : List (Option Answer)) (d e : State) → length xs ≡ length ys → AllByRecursion AnswerFits xs → AllByRecursion AnswerFits ys
    → texts_of xs ++ end_text_of d ≡ texts_of ys ++ end_text_of e → xs ≡ ys

-- two runs over the same lines that are printed alike, each before the end text of its last state, have the same
-- answers and the same last state; block numbers stay below 2 ^ 64
abbrev pub RunsSpellOne : Type 0
RunsSpellOne =
    (s : State) (items : List (Option Call)) (xs ys : List (Option Answer)) (d e : State) → length s.blocks + length items ≤ 2 ^ 64
    → RunsTo s items xs d → RunsTo s items ys e → texts_of xs ++ end_text_of d ≡ texts_of ys ++ end_text_of e → (xs ≡ ys) × (d ≡ e)
