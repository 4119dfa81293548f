-- The state of the machine, as the answers so far determine it. It says nothing of how the machine keeps it.
use Rattle.std.specs.Prelude.{ℕ, zero, suc, ◌+◌, ◌*◌, max, Bool, ◌&&◌, nat_lt, nat_le, List, [], ◌∷◌, ◌++◌, find, slice_index_or, Option, None}
use Rattle.machine_model.specs.declared.region.Region.{Region}
use Rattle.machine_model.specs.declared.config.Config.{Config}
use Rattle.paging_core.specs.Prefix.{Prefix}

-- what is known of a byte of a block: nothing, until it is written or seen
pub data Cell : Type 0 where
  Fresh : Cell
  Known : ℕ → Cell

-- a block that was handed out, with a cell for each byte
pub record Block : Type 0 where
  pub address : ℕ
  pub size : ℕ
  pub align : ℕ
  pub cells : List Cell

-- the state of a machine as its lines tell it: what was asked for and served, with no address of a table
pub record State : Type 0 where
  -- the window: its first address, and its pages
  pub base : ℕ
  pub pages : ℕ
  pub granularity : ℕ
  -- the frames of physical memory
  pub frames : ℕ
  -- by number, in the order given; None if the block has ended
  pub blocks : List (Option Block)
  -- the regions of the heap and of the user, by address
  pub heap : List Region
  pub users : List Region
  -- the index prefixes that have a table below the root, in the order in which the tables were made; a table stays
  pub tables : List Prefix
  -- the slots of 2 MiB that are mapped by one entry, each by its first address, in the order in which they were mapped
  pub large : List ℕ

-- the state of a new machine
abbrev pub start : Config → State
start config = record { base = config.base; pages = config.pages; granularity = config.granularity; frames = config.frames; blocks = []; heap = []; users = []; tables = []; large = [] }

-- the live block of a number
abbrev pub block_at : List (Option Block) → ℕ → Option Block
block_at blocks number = slice_index_or blocks number None

-- what is known at an offset of a block
abbrev pub cell_at : List Cell → ℕ → Cell
cell_at cells offset = slice_index_or cells offset Fresh

-- the cells, with these bytes known from an offset on; bytes past the last cell are left out
abbrev pub with_bytes : List Cell → ℕ → List ℕ → List Cell
with_bytes [] offset bytes = []
with_bytes (cell ∷ cells) (suc offset) bytes = cell ∷ with_bytes cells offset bytes
with_bytes (cell ∷ cells) zero (byte ∷ bytes) = Known byte ∷ with_bytes cells zero bytes
with_bytes (cell ∷ cells) zero [] = cell ∷ cells

-- the bytes that a block has to itself: one if its size is 0
abbrev pub cover : Block → ℕ
cover block = max block.size 1

-- the address after a region
abbrev pub end_of_region : Region → ℕ
end_of_region region = region.start + 4096 * region.pages

-- whether an address lies in the region
abbrev pub is_within : ℕ → Region → Bool
is_within address region = nat_le region.start address && nat_lt address (end_of_region region)

-- the region that holds an address
abbrev pub region_at : State → ℕ → Option Region
region_at s address = find (is_within address) (s.heap ++ s.users)

-- the pages of all of these regions
abbrev pub total_pages : List Region → ℕ
total_pages [] = 0
total_pages (region ∷ rest) = region.pages + total_pages rest
