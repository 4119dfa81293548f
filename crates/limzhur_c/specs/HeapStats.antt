-- What a heap holds, as it is told to C (own).
use Rattle.std.specs.Prelude.{◌≡◌, ◌+◌}
use Rattle.dlmalloc.specs.declared.heap.Dlmalloc.{Dlmalloc}
use Rattle.heap_arena.specs.Arena.{IsAbove}
use Rattle.heap_arena.specs.declared.arena.Arena.{Arena}
use Rattle.checked_heap.specs.Checked.{arena_heap_state}
use Rattle.checked_heap.specs.Counted.{HasBlocks}
use Rattle.limzhur_c.specs.declared.exports.Stats.{Stats}

-- A heap has these bytes in use, from the first word of its arena on, and this many blocks.
pub record HoldsStats (heap : Dlmalloc Arena) (stats : Stats) : Type 0 where
  pub top : heap.system.base + stats.used ≡ heap.system.top
  -- each granted byte is among them
  pub above : IsAbove heap.system (heap.system.base + stats.used)
  pub blocks : HasBlocks (arena_heap_state heap) stats.blocks
