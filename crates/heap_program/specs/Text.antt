-- What is printed.
use Rattle.std.specs.Prelude.{ℕ, ◌+◌, Bool, List, [], ◌∷◌, ◌++◌, length, codes, Option, None, Some, decimal, if◌then◌else◌, true, false}
use Rattle.std.specs.List.{flat_map}
use Rattle.hex.specs.Hex.{encode_lower}
use Rattle.dlmalloc_chunks.specs.declared.extent.Extent.{Extent}
use Rattle.dlmalloc_chunks.specs.declared.extent.Kind.{Kind}
use Rattle.dlmalloc_chunks.specs.declared.extent.Kind.TheVariants.{Used, Free, Victim, Top, Record, Foot}
use Rattle.machine_model.specs.declared.answer.Answer.{Answer}
use Rattle.machine_model.specs.declared.answer.Reply.{Reply}
use Rattle.machine_model.specs.declared.answer.Reply.TheVariants.{Block, Done, Bytes, Byte, Fault, Trimmed, Accepted, Released, Extents, Refused}
use Rattle.machine_model.specs.declared.region.Region.{Region}
use Rattle.machine_model.specs.State.{State}
use Rattle.machine_model.specs.Place.{all_regions}
use Rattle.machine_model.specs.Tables.{free_frames}
use Rattle.x86_flags.specs.PageFaultErrorCode.{page_fault_bits}
pub use Rattle.call_lines.specs.Written.{hexadecimal, refusal_word, rights_word}

-- the first address of something, and how many bytes or pages it has
abbrev pub span_text : ℕ → ℕ → List ℕ
span_text start size = hexadecimal start ++ (codes "+" ++ decimal size)

-- the texts of the items, a space before each
abbrev pub spaced : {A : Type 0} → (A → List ℕ) → List A → List ℕ
spaced text items = flat_map (λ item. codes " " ++ text item) items

-- bytes as two lower case digits each, after a space if there are bytes
abbrev pub bytes_text : List ℕ → List ℕ
bytes_text [] = []
bytes_text (byte ∷ bytes) = codes " " ++ encode_lower (byte ∷ bytes)

abbrev pub kind_word : Kind → List ℕ
kind_word Used = codes "used"
kind_word Free = codes "free"
kind_word Victim = codes "victim"
kind_word Top = codes "top"
kind_word Record = codes "record"
kind_word Foot = codes "foot"

-- what an extent is used for, the address of its chunk, and its bytes
abbrev pub extent_text : Extent → List ℕ
extent_text extent = kind_word extent.kind ++ (codes ":" ++ span_text extent.at extent.size)

abbrev pub truth_word : Bool → List ℕ
truth_word true = codes "true"
truth_word false = codes "false"

-- the line of a reply
abbrev pub reply_text : Reply → List ℕ
reply_text (Block number address) = codes "block " ++ (decimal number ++ (codes " " ++ (hexadecimal address ++ codes "\n")))
reply_text Done = codes "done\n"
reply_text (Bytes bytes) = codes "bytes" ++ (bytes_text bytes ++ codes "\n")
reply_text (Byte byte) = codes "byte" ++ (bytes_text (byte ∷ []) ++ codes "\n")
reply_text (Fault code) = codes "fault " ++ (hexadecimal (page_fault_bits code) ++ codes "\n")
reply_text (Trimmed released) = codes "trimmed " ++ (truth_word released ++ codes "\n")
reply_text (Accepted accepted) = codes "accepted " ++ (truth_word accepted ++ codes "\n")
reply_text (Released bytes) = codes "released " ++ (decimal bytes ++ codes "\n")
reply_text (Extents extents) = codes "extents" ++ (spaced extent_text extents ++ codes "\n")
reply_text (Refused why) = codes "refused " ++ (refusal_word why ++ codes "\n")

-- where a region starts, and its pages
abbrev pub pages_text : Region → List ℕ
pages_text region = span_text region.start region.pages

-- the heap regions after the word `heap`
abbrev pub heap_regions_text : List Region → List ℕ
heap_regions_text [] = codes " none"
heap_regions_text (region ∷ rest) = spaced pages_text (region ∷ rest)

-- the line after a reply, if the answer lists the heap regions
abbrev pub heap_line : Option (List Region) → List ℕ
heap_line None = []
heap_line (Some regions) = codes "heap" ++ (heap_regions_text regions ++ codes "\n")

-- and the line after it, if it lists the slots that were mapped by one entry each
abbrev pub large_line : Option (List ℕ) → List ℕ
large_line None = []
large_line (Some slots) = codes "large" ++ (spaced hexadecimal slots ++ codes "\n")

-- the text of an answer
unfoldable pub text_of : Answer → List ℕ
text_of answer = reply_text answer.reply ++ (heap_line answer.regions ++ large_line answer.large)

-- what is printed for a line; None is a bad line
unfoldable pub line_text : Option Answer → List ℕ
line_text None = codes "bad line\n"
line_text (Some answer) = text_of answer

-- whose pages they are; of the user's, the rights too
abbrev pub owner_text : Region → List ℕ
owner_text region = if region.heap then codes "heap" else codes "user " ++ rights_word region.rights

abbrev pub region_line : Region → List ℕ
region_line region = codes "region " ++ (pages_text region ++ (codes " " ++ (owner_text region ++ codes "\n")))

abbrev pub counts_line : ℕ → ℕ → List ℕ
counts_line frames tables = codes "frames " ++ (decimal frames ++ (codes " tables " ++ (decimal tables ++ codes "\n")))

-- how many calls were drawn, how many numbers were given and how many calls were refused
abbrev pub tally_line : ℕ → ℕ → ℕ → List ℕ
tally_line calls blocks refused = codes "calls " ++ (decimal calls ++ (codes " blocks " ++ (decimal blocks ++ (codes " refused " ++ (decimal refused ++ codes "\n")))))

-- the text at the end: all regions by address, the free frames, and the tables with the root
unfoldable pub end_text_of : State → List ℕ
end_text_of s = flat_map region_line (all_regions s) ++ counts_line (free_frames s) (1 + length s.tables)
