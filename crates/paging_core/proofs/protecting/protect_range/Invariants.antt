use Rattle.std.proofs.Common.{◌≡◌}
use Rattle.paging_core.specs.PageChanges.{regrant, ArePagesChanged, among}
use Rattle.paging_core.proofs.protecting.protect_range.Given as goal

abbrev pub invariant-loop-step : goal.invariant-loop-step
invariant-loop-step g l = record {
  area : g.M.PhysicalMemory.area l.frames ≡ g.M.PhysicalMemory.area l.fn.frames;
  changed : ArePagesChanged (g.M.PhysicalMemory.words l.fn.frames) (g.M.PhysicalMemory.words l.frames) l.root (regrant l.rights) (among l.first l.step);
}
