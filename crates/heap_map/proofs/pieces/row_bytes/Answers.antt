use Rattle.std.proofs.Common.{refl, arith}
use Rattle.heap_map.proofs.Lines.{grown_begin}
use Rattle.heap_map.proofs.pieces.row_bytes.Goals as goal

pub loop-times-init : goal.loop-times-init
loop-times-init c = record { grown = grown_begin 0 512 c.args.extents.now refl refl; least = omega arith; most = omega arith }
