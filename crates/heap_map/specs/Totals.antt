-- The bytes of a heap.
use Rattle.std.specs.Prelude.{ℕ, ◌+◌, ◌-◌, List}
use Rattle.dlmalloc_chunks.specs.declared.extent.Extent.{Extent}
use Rattle.run_figures.specs.Figures.{part_bytes, greatest_of}
use Rattle.run_figures.specs.declared.counting.Part.TheVariants.{Used, Free, Overhead}

-- all bytes
abbrev pub total_of : List Extent → ℕ
total_of extents = part_bytes Used extents + (part_bytes Free extents + part_bytes Overhead extents)

-- the free bytes that are not in the greatest free extent
abbrev pub scattered : List Extent → ℕ
scattered extents = part_bytes Free extents - greatest_of extents
