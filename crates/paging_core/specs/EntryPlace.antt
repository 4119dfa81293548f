-- Where a table lies, and an entry of it.
use Rattle.std.specs.Prelude.{◌≡◌, ℕ, ◌<◌, true, List}
use Rattle.paging_core.specs.Area.{Area, in_area}
use Rattle.paging_core.specs.Memory.{frame_count}

-- the frame may be that of a root table: it lies below the limit
abbrev pub IsRoot : List ℕ → ℕ → Type 0
IsRoot words root = root < frame_count words

-- Entry `index` of the table may be written: the table lies in the area, below the limit.
pub record IsEntryIn (area : Area) (words : List ℕ) (table index : ℕ) : Type 0 where
  pub inside : in_area area table ≡ true
  pub below : table < frame_count words
  pub bounded : index < 512
