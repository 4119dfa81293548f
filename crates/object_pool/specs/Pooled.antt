-- What contracts see of a pool.
use Rattle.std.specs.Prelude.{ℕ, List}
use Rattle.dlmalloc.specs.declared.heap.Dlmalloc.{Dlmalloc}
use Rattle.object_pool.specs.declared.slots.Slot.{Slot}

-- what contracts see of a pool
pub record Pooled (A : Type 0) : Type 0 where
  pub heap : Dlmalloc A
  -- the bytes of an object
  pub size : ℕ
  -- where the slabs begin, in the order in which they were taken
  pub slabs : List ℕ
  -- the slots that were used once, and those of them that may be used again
  pub slots : List Slot
  pub freed : List ℕ
