-- Which pages commands flush.
use Rattle.std.specs.Prelude.{ℕ, ◌≡◌, ◌-◌, ◌*◌, ◌/◌, ◌%◌, ◌^◌, ◌<◌, ◌≤◌, List, map, max, ◌⊎◌}
use Rattle.std.specs.List.{range_with_len, flat_map, AllByRecursion}
use Rattle.paging_core.specs.Steps.{position, page_at}
use Rattle.x86_instructions.specs.Turns.{greatest_count}
use Rattle.x86_instructions.specs.declared.tlb.FlushCommand.{FlushCommand}
use Rattle.x86_instructions.specs.declared.tlb.FlushCommand.TheVariants.{Invlpgb}

-- the first page that INVLPGB names, by the address in RAX, and the count in ECX
abbrev pub first_flushed : ℕ → FlushCommand → ℕ
first_flushed size (Invlpgb rax ecx edx) = rax / 4096 * 4096 / size
first_flushed size _ = 0

abbrev pub count_in : FlushCommand → ℕ
count_in (Invlpgb rax ecx edx) = ecx % 2 ^ 16
count_in _ = 0

-- the pages that such a command flushes: as many as its count, or one if that is 0, one after the other in the order of
-- their addresses
abbrev pub flushed_by : ℕ → FlushCommand → List ℕ
flushed_by size command = range_with_len (first_flushed size command) (max 1 (count_in command))

-- the pages of a range in order, by their numbers
abbrev pub pages_of : ℕ → ℕ × ℕ → List ℕ
pages_of size (first, end) = map (page_at size) (range_with_len (position size first) (position size end - position size first))

-- a page lies below the addresses that have no page, or above them
abbrev pub IsBelowGap : ℕ → ℕ → Type 0
IsBelowGap size page = page * size < 0x0000_8000_0000_0000

abbrev pub IsAboveGap : ℕ → ℕ → Type 0
IsAboveGap size page = 0xffff_8000_0000_0000 ≤ page * size

-- a command of a range: its pages lie all on one side of the gap, and its count is the greatest that a
-- turn may have there
pub record IsTurnOf (size count_max end : ℕ) (command : FlushCommand) : Type 0 where
  pub one_side : AllByRecursion (IsBelowGap size) (flushed_by size command) ⊎ AllByRecursion (IsAboveGap size) (flushed_by size command)
  pub greatest : count_in command ≡ greatest_count size count_max (position size (first_flushed size command)) (position size end)

-- commands flush the pages of a range in order, each page once, and in greatest turns
pub record FlushesRange (size count_max : ℕ) (range : ℕ × ℕ) (commands : List FlushCommand) : Type 0 where
  pub pages : flat_map (flushed_by size) commands ≡ pages_of size range
  pub each : AllByRecursion (IsTurnOf size count_max range.1) commands
