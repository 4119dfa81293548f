-- How many blocks a heap has (own).
use Rattle.std.specs.Prelude.{◌≡◌, ℕ, zero, suc, ◌+◌, Bool, true, false, if◌then◌else◌}
use Rattle.std.specs.List.{count_by}
use Rattle.dlmalloc_chunks.specs.declared.extent.Kind.{Kind}
use Rattle.dlmalloc_chunks.specs.declared.extent.Kind.TheVariants.{Used, Free, Victim, Top, Record, Foot}
use Rattle.dlmalloc.specs.State.{HeapState, extents_in}

-- how many addresses below a bound pass a test
unfoldable pub count_below : (ℕ → Bool) → ℕ → ℕ
count_below test zero = 0
count_below test (suc bound) = count_below test bound + (if test bound then 1 else 0)

-- whether an extent is that of a block
abbrev pub is_of_block : Kind → Bool
is_of_block Used = true
is_of_block Free = false
is_of_block Victim = false
is_of_block Top = false
is_of_block Record = false
is_of_block Foot = false

-- a heap has this many blocks: that many of its extents are those of blocks
abbrev pub HasBlocks : HeapState → ℕ → Type 0
HasBlocks heap count = count ≡ count_by (λ extent. is_of_block extent.kind) (extents_in heap)
