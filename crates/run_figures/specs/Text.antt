-- The text of the figures.
use Rattle.std.specs.Prelude.{ℕ, List, [], ◌++◌, codes, decimal, nat_eq, if◌then◌else◌}
use Rattle.std.specs.List.{flat_map, range_with_len}
use Rattle.dlmalloc_chunks.specs.declared.extent.Extent.{Extent}
use Rattle.run_figures.specs.declared.counting.Part.TheVariants.{Used, Free, Overhead}
use Rattle.run_figures.specs.Classes.{small_count, tree_count}
use Rattle.run_figures.specs.Figures.{part_count, part_bytes, greatest_of, permille_of}

-- a word and a number
abbrev pub one_text : List ℕ → ℕ → List ℕ
one_text word number = word ++ (codes " " ++ decimal number)

-- a word and two numbers
abbrev pub two_text : List ℕ → ℕ → ℕ → List ℕ
two_text word first second = word ++ (codes " " ++ (decimal first ++ (codes " " ++ decimal second)))

-- a line, between a text before it and one behind it
abbrev pub line_between : List ℕ → List ℕ → List ℕ → List ℕ
line_between before behind line = before ++ (line ++ behind)

-- a class of free chunks, where there are any: its word, its size or index, and their number
abbrev pub bin_class_text : List ℕ → List ℕ → List ℕ → ℕ → ℕ → List ℕ
bin_class_text before behind word class count = if nat_eq count 0 then [] else line_between before behind (two_text word class count)

-- the small classes by ascending size, below this number of bytes
unfoldable pub small_texts : List ℕ → List ℕ → List Extent → ℕ → List ℕ
small_texts before behind extents sizes = flat_map (λ size. bin_class_text before behind (codes "small") size (small_count size extents)) (range_with_len 0 sizes)

-- this number of tree bins from the first on, by ascending index
unfoldable pub tree_texts : List ℕ → List ℕ → List Extent → ℕ → List ℕ
tree_texts before behind extents bins = flat_map (λ index. bin_class_text before behind (codes "tree") index (tree_count index extents)) (range_with_len 0 bins)

-- what the extents say of the heap, without classes
unfoldable pub extent_texts : List ℕ → List ℕ → List Extent → List ℕ
extent_texts before behind extents =
    line_between before behind (two_text (codes "used") (part_count Used extents) (part_bytes Used extents))
    ++ (line_between before behind (two_text (codes "free") (part_count Free extents) (part_bytes Free extents))
    ++ (line_between before behind (one_text (codes "greatest") (greatest_of extents))
    ++ (line_between before behind (one_text (codes "overhead") (part_bytes Overhead extents))
    ++ line_between before behind (one_text (codes "permille") (permille_of (part_bytes Free extents) (greatest_of extents))))))

-- all figures: the bytes live and at most, what the extents say, and the classes of free chunks, below 256 bytes by size, and
-- then by tree bin
unfoldable pub figures_text : List ℕ → List ℕ → ℕ → ℕ → List Extent → List ℕ
figures_text before behind live peak extents =
    line_between before behind (one_text (codes "live") live)
    ++ (line_between before behind (one_text (codes "peak") peak)
    ++ (extent_texts before behind extents
    ++ (small_texts before behind extents 256
    ++ tree_texts before behind extents 32)))
