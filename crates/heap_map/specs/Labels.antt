-- What is written on an extent: the first of its labels that fits.
use Rattle.std.specs.Prelude.{ℕ, ◌+◌, ◌*◌, Bool, nat_le, List, [], ◌++◌, length, codes, decimal, Option, Some, None, if◌then◌else◌}
use Rattle.dlmalloc_chunks.specs.declared.extent.Extent.{Extent}
use Rattle.heap_map.specs.declared.blocks.NamedBlock.{NamedBlock}
use Rattle.heap_map.specs.Words.{commas}
use Rattle.heap_map.specs.Classes.{kind_words, letters}
use Rattle.heap_map.specs.Shapes.{text_at}

-- its bytes alone
unfoldable pub size_label : Extent → List ℕ
size_label extent = commas extent.size ++ codes " B"

-- what it is, and its bytes
unfoldable pub kind_label : Extent → List ℕ
kind_label extent = kind_words extent.kind ++ (codes " " ++ size_label extent)

-- its block's number, and its bytes
unfoldable pub number_label : NamedBlock → Extent → List ℕ
number_label block extent = decimal block.number ++ (codes ": " ++ size_label extent)

unfoldable pub block_label : NamedBlock → Extent → List ℕ
block_label block extent = codes "block " ++ number_label block extent

-- whether words fit a width in pixels, a letter being 8 wide at most
abbrev pub fits : ℕ → List ℕ → Bool
fits width words = nat_le (8 * length words + 8) width

-- the first of the labels of a live block that fits a width in pixels: both, or its number and bytes, or its number alone
unfoldable pub name_text : ℕ → ℕ → ℕ → NamedBlock → Extent → List ℕ
name_text x y width block extent =
    if fits width (block_label block extent) then text_at (letters extent.kind) x y (block_label block extent)
    else if fits width (number_label block extent) then text_at (letters extent.kind) x y (number_label block extent)
    else if fits width (decimal block.number) then text_at (letters extent.kind) x y (decimal block.number)
    else []

-- and of those of another extent
unfoldable pub kind_text : ℕ → ℕ → ℕ → Extent → List ℕ
kind_text x y width extent =
    if fits width (kind_label extent) then text_at (letters extent.kind) x y (kind_label extent)
    else if fits width (size_label extent) then text_at (letters extent.kind) x y (size_label extent)
    else []

-- the label of an extent
abbrev pub label_text : ℕ → ℕ → ℕ → Option NamedBlock → Extent → List ℕ
label_text x y width (Some block) extent = name_text x y width block extent
label_text x y width None extent = kind_text x y width extent
