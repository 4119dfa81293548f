-- An access to one byte, as the processor checks it: whether it is permitted, and the code of its fault, are told where the
-- processor's accesses are.
use Rattle.std.specs.Prelude.{◌≡◌, ℕ, ◌+◌, ◌*◌, ◌/◌, ◌^◌, ◌<◌, Bool, false, ◌&&◌, ◌||◌, IsTrue, Option, Some, None, option_map, if◌then◌else◌}
use Rattle.std.specs.List.{list_any}
use Rattle.paging_core.specs.declared.page_table.Rights.{Rights}
use Rattle.paging_core.specs.declared.processor_access.AccessKind.{AccessKind}
use Rattle.paging_core.specs.ProcessorAccess.{permits}
use Rattle.paging_core.specs.PageBits.{bits_of}
use Rattle.paging_core.specs.Walk.{place_with}
use Rattle.machine_model.specs.State.{State, Known, Block, block_at, cell_at, is_within, region_at}

-- the rights of the page that has an address, if a region holds it
abbrev pub rights_at : State → ℕ → Option Rights
rights_at s address = option_map (λ region. region.rights) (region_at s (4096 * (address / 4096)))

-- whether an access is granted: its page is mapped, and the processor permits it there, whichever frame the page has
abbrev pub is_access_granted : Option Rights → AccessKind → Bool → Bool
is_access_granted None access user = false
is_access_granted (Some rights) access user = permits (place_with 0 (bits_of rights)) access user

-- a byte that may be seen at an address: the one that is known of a live block there, and 0 in a region of the user
pub record IsByteAt (s : State) (address byte : ℕ) : Type 0 where
  pub small : byte < 2 ^ 8
  pub known :
      (number k other : ℕ) (block : Block) → block_at s.blocks number ≡ Some block → block.address + k ≡ address →
      cell_at block.cells k ≡ Known other → byte ≡ other
  pub user : IsTrue (list_any (is_within address) s.users) → byte ≡ 0
