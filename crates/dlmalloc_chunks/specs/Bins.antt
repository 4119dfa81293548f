-- The bins of free chunks by size (dlmalloc: smallbins, treebins).
use Rattle.std.specs.Prelude.{ℕ, ◌+◌, ◌*◌, ◌/◌, ◌%◌, ◌^◌, ◌<◌, ◌≤◌}

-- the least size of a tree bin: 256, 384, 512, 768 and so on, two bins for each power of two
abbrev pub least_size : ℕ → ℕ
least_size index = (2 + index % 2) * 2 ^ (index / 2 + 7)

-- the tree bin of a size is the last whose least size it reaches; there are 32
pub record IsTreeIndex (size index : ℕ) : Type 0 where
  pub within : index < 32
  pub reached : least_size index ≤ size
  pub last : index < 31 → size < least_size (index + 1)
