use Rattle.std.proofs.Common.{arith}
use Rattle.std.proofs.lemmas.Grind.{common_steps}
use Rattle.std.proofs.lemmas.List.Edits.{map_over_more}
use Rattle.heap_recorder.specs.Stays.{ended_now}
use Rattle.heap_recorder.proofs.KeptStays.{front_ended}
use Rattle.heap_recorder.proofs.stays.end_from.Goals as goal

pub loop-place-init : goal.loop-place-init
loop-place-init c = front_ended c.args.call c.args.stays.now.items c.args.first c.requires.over

pub loop-place-preserved : goal.loop-place-preserved
loop-place-preserved c = grind (arith, common_steps, map_over_more (ended_now c.args.call))
