use Rattle.std.proofs.Common.{◌≡◌, ◌<◌, ◌-◌, ◌*◌, ◌/◌, ◌^◌, Some}
use Rattle.paging_core.specs.Memory.{frame_count}
use Rattle.paging_core.specs.Walk.{reach, mapped_place}
use Rattle.paging_core.proofs.missing.depth.Given as goal

abbrev pub invariant-loop-met : goal.invariant-loop-met
invariant-loop-met g l = record {
  here : reach (g.M.PhysicalMemory.words l.frames) l.fn.root l.met (l.prefix / 2 ^ (9 * (l.level - l.met))) ≡ Some (mapped_place l.at);
  below : l.at.frame < frame_count (g.M.PhysicalMemory.words l.frames);
}
