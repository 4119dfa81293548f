-- Room for a request among the blocks, and how a request may let the heap grow.
use Rattle.std.specs.Prelude.{◌≡◌, ℕ, ◌+◌, ◌≤◌, true, false, ◌⊎◌, List, Contains, Some}
use Rattle.paging_core.specs.declared.page_table.Rights.{Rights}
use Rattle.machine_model.specs.declared.region.Region.{Region}
use Rattle.machine_model.specs.State.{State, Block, block_at, cover, end_of_region}
use Rattle.machine_model.specs.Tables.{missing, free_frames}
use Rattle.machine_model.specs.Place.{IsPlace, with_region, all_regions}
use Rattle.machine_model.specs.Request.{pages_for}
use Rattle.machine_model.specs.Cut.{AreCut}

-- m bytes from a and n bytes from b have no byte in common
abbrev pub AreBytesApart : ℕ → ℕ → ℕ → ℕ → Type 0
AreBytesApart a m b n = (a + m ≤ b) ⊎ (b + n ≤ a)

-- no live block has one of n bytes from an address
abbrev pub IsClear : State → ℕ → ℕ → Type 0
IsClear s address n = (number : ℕ) (block : Block) → block_at s.blocks number ≡ Some block → AreBytesApart address n block.address (cover block)

-- one heap region has n bytes and 256 more in a row that no live block has; the heap's own words lie between them
pub record HasRoom (s : State) (n : ℕ) : Type 0 where
  pub region : Region
  pub address : ℕ
  pub listed : Contains s.heap region
  pub from : region.start ≤ address
  pub within : address + (n + 256) ≤ end_of_region region
  pub clear : IsClear s address (n + 256)

-- the heap may write its pages, and neither the user uses them nor are they fetched from
abbrev pub heap_rights : Rights
heap_rights = record { write = true; user = false; fetch = false }

-- a region of the heap
abbrev pub heap_region : ℕ → ℕ → Region
heap_region address pages = record { start = address; pages = pages; heap = true; rights = heap_rights }

-- a region of the user
abbrev pub user_region : ℕ → ℕ → Rights → Region
user_region start pages rights = record { start = start; pages = pages; heap = false; rights = rights }

-- there is no room, but a place and frames for the pages of the request, and their region joins
pub record IsGrant (s : State) (n : ℕ) (list : List Region) : Type 0 where
  pub full : HasRoom s n → ⊥
  pub address : ℕ
  pub place : IsPlace s.base s.pages (all_regions s) (pages_for n s.granularity) address
  pub frames : pages_for n s.granularity + missing s.tables address (pages_for n s.granularity) ≤ free_frames s
  pub joined : list ≡ with_region (heap_region address (pages_for n s.granularity)) s.heap

-- the heap regions after a request of n bytes was served: as they were, or with those of one grant
abbrev pub IsGrowth : State → ℕ → List Region → Type 0
IsGrowth s n list = (list ≡ s.heap) ⊎ IsGrant s n list

-- the heap regions if, once a request of n bytes was served, a block was freed: of those to which they grew, some may
-- be cut
pub record IsGrowthCut (s : State) (n : ℕ) (list : List Region) : Type 0 where
  pub grown : List Region
  pub growth : IsGrowth s n grown
  pub cut : AreCut grown list
