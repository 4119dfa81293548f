-- The live blocks of a heap, by their addresses.
use Rattle.std.specs.Prelude.{ℕ, ◌+◌, Option, None, if◌then◌else◌}
use Rattle.std.specs.BTreeMap.{BTreeMap, get}
use Rattle.std.specs.Ordering.{nat_cmp}
use Rattle.dlmalloc_chunks.specs.declared.extent.Extent.{Extent}
use Rattle.heap_map.specs.declared.blocks.NamedBlock.{NamedBlock}
use Rattle.heap_map.specs.declared.classes.Class.TheVariants.{Block}
use Rattle.heap_map.specs.Classes.{is_of_class}

-- the block at an address, of a map that has them
abbrev pub named_at : BTreeMap ℕ NamedBlock → ℕ → Option NamedBlock
named_at blocks address = get nat_cmp blocks address

-- the address of the block that an extent in use holds: 16 bytes after the extent's own
abbrev pub block_address : Extent → ℕ
block_address extent = extent.at + 16

-- the block that an extent holds, of those that are at addresses
abbrev pub block_in : (ℕ → Option NamedBlock) → Extent → Option NamedBlock
block_in blocks extent = if is_of_class Block extent.kind then blocks (block_address extent) else None
