-- The classes of free chunks: those of a size below 256, and those of a tree bin.
use Rattle.std.specs.Prelude.{ℕ, ◌+◌, Bool, true, false, ◌==◌, ◌&&◌, ◌||◌, nat_lt, nat_le, List}
use Rattle.std.specs.List.{count_by}
use Rattle.dlmalloc_chunks.specs.declared.extent.Extent.{Extent}
use Rattle.dlmalloc_chunks.specs.declared.extent.Kind.{Kind}
use Rattle.dlmalloc_chunks.specs.declared.extent.Kind.TheVariants.{Used, Free, Victim, Top, Record, Foot}
use Rattle.dlmalloc_chunks.specs.Bins.{least_size}

-- whether extents of a kind are chunks in bins: the victim and the top are in none
abbrev pub is_in_bin : Kind → Bool
is_in_bin Used = false
is_in_bin Free = true
is_in_bin Victim = false
is_in_bin Top = false
is_in_bin Record = false
is_in_bin Foot = false

-- a chunk in a bin of this size
abbrev pub is_small : ℕ → Extent → Bool
is_small size extent = is_in_bin extent.kind && extent.size == size

-- whether a size is one of a tree bin: the last whose least size it reaches, of 32
abbrev pub is_tree_size : ℕ → ℕ → Bool
is_tree_size index size = nat_le (least_size index) size && (nat_le 31 index || nat_lt size (least_size (index + 1)))

-- a chunk in this tree bin
abbrev pub is_large : ℕ → Extent → Bool
is_large index extent = is_in_bin extent.kind && is_tree_size index extent.size

-- how many chunks in bins have the size
abbrev pub small_count : ℕ → List Extent → ℕ
small_count size extents = count_by (is_small size) extents

-- how many chunks the tree bin has
abbrev pub tree_count : ℕ → List Extent → ℕ
tree_count index extents = count_by (is_large index) extents
