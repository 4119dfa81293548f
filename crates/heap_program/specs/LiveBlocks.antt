-- Where the live blocks of a machine lie, by the walk of a processor over its raw page tables from the root in CR3.
use Rattle.std.specs.Prelude.{◌≡◌, ◌≢◌, ℕ, ◌+◌, ◌*◌, ◌/◌, ◌%◌, ◌^◌, ◌<◌, ◌≤◌, IsTrue, List, map, option_map, Option, Some}
use Rattle.paging_core.specs.Memory.{word_at, byte_of, frame_count}
use Rattle.paging_core.specs.Walk.{Place}
use Rattle.paging_core.specs.ProcessorWalk.{AtPage, processor_walk}
use Rattle.machine_model.specs.State.{State, Cell, Known, Block, block_at, cell_at, cover}
use Rattle.machine_model.specs.Run.{IsGood}
use Rattle.machine_model.specs.Machine.{Seen, Stands, outline}

-- A processor's walk ends at a present page at the address, which may be written and lies in the memory; and if the byte that
-- was last written there is known, it is the one in the page. `width` is how many bits a physical address has.
pub record IsByteHeld (width : ℕ) (words : List ℕ) (root address : ℕ) (cell : Cell) : Type 0 where
  pub page : Place
  pub found : processor_walk width words root (address / 4096) ≡ AtPage page
  pub writable : IsTrue page.write
  pub inside : page.frame < frame_count words
  pub byte : (value : ℕ) → cell ≡ Known value → byte_of (word_at words page.frame (address % 4096 / 8)) (address % 8) ≡ value

-- These are the machine's live blocks, by number. The address of each is a multiple of its alignment, each of its bytes is held,
-- whatever width of physical addresses the processor has that reaches the whole memory, and two of them share no byte.
pub record HoldsBlocks (m : Seen) (blocks : List (Option Block)) : Type 0 where
  pub live : m.blocks ≡ map (option_map outline) blocks
  pub aligned : (i : ℕ) (a : Block) → block_at blocks i ≡ Some a → a.address % a.align ≡ 0
  pub held :
      (width i k : ℕ) (a : Block) → 4096 * frame_count m.paged.words ≤ 2 ^ width → block_at blocks i ≡ Some a → k < cover a →
      IsByteHeld width m.paged.words m.top (a.address + k) (cell_at a.cells k)
  pub apart :
      (i j k l : ℕ) (a b : Block) → block_at blocks i ≡ Some a → block_at blocks j ≡ Some b → i ≢ j → k < cover a → l < cover b →
      a.address + k ≢ b.address + l

-- the law: a machine that stands for a good state holds the live blocks of the state
abbrev pub HoldsEachBlock : Type 0
HoldsEachBlock = (m : Seen) (s : State) → IsGood s → Stands m s → HoldsBlocks m s.blocks
