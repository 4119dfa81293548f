-- What the heap's bytes are: a bar, and a line for each class, which is the legend too.
use Rattle.std.specs.Prelude.{ℕ, ◌+◌, ◌-◌, ◌*◌, ◌/◌, min, max, nat_eq, List, [], ◌++◌, codes, if◌then◌else◌}
use Rattle.dlmalloc_chunks.specs.declared.extent.Extent.{Extent}
use Rattle.heap_map.specs.declared.classes.Class.{Class}
use Rattle.heap_map.specs.declared.classes.Class.TheVariants.{Block, Binned, Victim, Top, Own}
use Rattle.heap_map.specs.Words.{commas, percent}
use Rattle.heap_map.specs.Classes.{class_name, class_place, class_words, number_in, bytes_in}
use Rattle.heap_map.specs.Shapes.{text_at, rect, titled}
use Rattle.heap_map.specs.Totals.{total_of}

-- where the first `bytes` of all bytes end in a bar of 392 pixels
abbrev pub bar_end : ℕ → ℕ → ℕ
bar_end bytes total = min 392 (392 * bytes / max 1 total)

-- what is said of a part of the bar
unfoldable pub part_title : Class → ℕ → List ℕ
part_title class bytes = class_words class ++ (codes ": " ++ (commas bytes ++ codes " bytes"))

-- the part of the bar that a class has after the bytes of others, one pixel at least
unfoldable pub part_text : ℕ → Class → ℕ → ℕ → ℕ → List ℕ
part_text y class before bytes total =
    if nat_eq bytes 0 then []
    else titled (class_name class) (24 + bar_end before total) (y + 12) (max 1 (bar_end (before + bytes) total - bar_end before total)) 14 (part_title class bytes)

-- the line of a class: its colour, what it is called, how many extents it has, and how many bytes
unfoldable pub class_line : ℕ → Class → ℕ → ℕ → ℕ → List ℕ
class_line y class number bytes total =
    rect (class_name class) 24 (y - 10) 12 12
    ++ (text_at (codes "p") 44 y (class_words class)
    ++ (text_at (codes "m e") 268 y (commas number)
    ++ (text_at (codes "m e") 360 y (commas bytes) ++ text_at (codes "m e faint") 416 y (percent (min bytes total) total))))

-- a class, after the bytes of others
unfoldable pub class_text : ℕ → Class → ℕ → List Extent → List ℕ
class_text y class before extents =
    part_text y class before (bytes_in class extents) (total_of extents)
    ++ class_line (y + 48 + 20 * class_place class) class (number_in class extents) (bytes_in class extents) (total_of extents)

-- the bytes of blocks that nobody asked for
unfoldable pub unasked_text : ℕ → ℕ → List Extent → List ℕ
unasked_text y live extents =
    text_at (codes "faint") 44 y (codes "in blocks, not asked for")
    ++ text_at (codes "m e faint") 360 y (commas (bytes_in Block extents - live))

-- the classes, one after the other
unfoldable pub classes_text : ℕ → List Extent → List ℕ
classes_text y extents =
    class_text y Block 0 extents
    ++ (class_text y Binned (bytes_in Block extents) extents
    ++ (class_text y Victim (bytes_in Block extents + bytes_in Binned extents) extents
    ++ (class_text y Top (bytes_in Block extents + bytes_in Binned extents + bytes_in Victim extents) extents
    ++ class_text y Own (bytes_in Block extents + bytes_in Binned extents + bytes_in Victim extents + bytes_in Top extents) extents)))

-- what the heap consists of, from a base line on
unfoldable pub composition_text : ℕ → ℕ → List Extent → List ℕ
composition_text y live extents =
    text_at (codes "q") 24 y (codes "What the heap consists of")
    ++ (classes_text y extents ++ unasked_text (y + 148) live extents)
