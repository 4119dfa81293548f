use Rattle.std.proofs.Common.{◌≡◌, ◌≤◌}
use Rattle.paging_core.specs.Walk.{mapped_place}
use Rattle.paging_core.specs.ProcessorWalk.{processor_walk}
use Rattle.paging_core.proofs.ProcessorSteps.{from_table}
use Rattle.paging_core.proofs.processor_walk.translate.Given as goal

abbrev pub invariant-loop-step : goal.invariant-loop-step
invariant-loop-step l = record {
  in_time : l.step ≤ 3;
  onward : processor_walk l.fn.width l.fn.frames l.fn.root l.fn.page ≡ from_table l.fn.width l.fn.frames l.fn.page l.step (mapped_place l.from);
}
