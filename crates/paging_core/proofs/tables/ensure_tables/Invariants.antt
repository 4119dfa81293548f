use Rattle.std.proofs.Common.{◌≡◌, Some}
use Rattle.paging_core.specs.Prefix.{prefix_of}
use Rattle.paging_core.specs.Walk.{reach, top}
use Rattle.paging_core.specs.Tree.{IsTreeIn}
use Rattle.paging_core.specs.Tables.{IsPrepared}
use Rattle.paging_core.proofs.tables.ensure_tables.Given as goal

abbrev pub invariant-loop-level : goal.invariant-loop-level
invariant-loop-level g l = record {
  area : g.M.PhysicalMemory.area l.frames ≡ g.M.PhysicalMemory.area l.fn.frames;
  tree : IsTreeIn (g.M.PhysicalMemory.area l.fn.frames) (g.M.PhysicalMemory.words l.frames) l.fn.root (g.P.TableFrames.free l.pool);
  met : reach (g.M.PhysicalMemory.words l.frames) l.fn.root l.level (prefix_of l.page l.level) ≡ Some (top l.table);
  prepared : IsPrepared (g.M.PhysicalMemory.words l.fn.frames) (g.M.PhysicalMemory.words l.frames)
      (g.P.TableFrames.free l.fn.pool) (g.P.TableFrames.free l.pool) l.fn.root l.page l.level;
}
