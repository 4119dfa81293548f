use Rattle.std.proofs.Common.{arith}
use Rattle.heap_time.proofs.Steps.{grown_begin}
use Rattle.heap_time.proofs.addresses.step_of.Goals as goal

pub loop-times-init : goal.loop-times-init
loop-times-init c = record { grown = grown_begin c.args.bytes; some = omega arith; few = omega arith }
