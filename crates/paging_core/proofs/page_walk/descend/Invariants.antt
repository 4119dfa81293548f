use Rattle.std.proofs.Common.{◌≡◌, ◌<◌, Some}
use Rattle.paging_core.specs.Memory.{frame_count}
use Rattle.paging_core.specs.Prefix.{prefix_of}
use Rattle.paging_core.specs.Walk.{reach, mapped_place}
use Rattle.paging_core.proofs.page_walk.descend.Given as goal

abbrev pub invariant-loop-level : goal.invariant-loop-level
invariant-loop-level g l = record {
  met : reach (g.M.PhysicalMemory.words l.frames) l.fn.root l.level (prefix_of l.page l.level) ≡ Some (mapped_place l.at);
  below : l.at.frame < frame_count (g.M.PhysicalMemory.words l.frames);
}
