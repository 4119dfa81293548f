use Rattle.std.proofs.Common.{refl}
use Rattle.heap_curves.proofs.Loops.{power_begin}
use Rattle.heap_curves.proofs.calls.step_of.Goals as goal

pub loop-times-init : goal.loop-times-init
loop-times-init c = record { grown = power_begin c.args.calls; power = refl }
