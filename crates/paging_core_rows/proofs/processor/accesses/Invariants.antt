use Rattle.std.proofs.Common.{◌<◌}
use Rattle.paging_core.specs.Memory.{frame_count}
use Rattle.paging_core_rows.proofs.processor.accesses.Given as goal

abbrev pub invariant-loop-entries : goal.invariant-loop-entries
invariant-loop-entries g l = 3 < frame_count l.frames
