use Rattle.std.proofs.Common.{ℕ, List, ◌++◌, ap, refl, arith, string_bytes}
use Rattle.heap_map.proofs.Heights.{bars_begin}
use Rattle.heap_map.proofs.histogram.push_bars.Goals as goal

pub loop-bar-init : goal.loop-bar-init
loop-bar-init c = record {
  rest = ap (λ (t : List ℕ). string_bytes c.args.out.now ++ t) (bars_begin 0 472 c.args.floor 32 c.args.most c.args.extents.now refl refl refl);
  few = omega arith;
  place = omega arith;
}
