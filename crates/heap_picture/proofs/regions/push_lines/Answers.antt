use Rattle.std.proofs.Common.{◌+◌, ◌++◌, refl, string_bytes, arith}
use Rattle.heap_picture.specs.Regions.{region_lines_text}
use Rattle.heap_picture.proofs.Joins.{none}
use Rattle.heap_picture.proofs.Pictures.{lines_put, lines_end}
use Rattle.heap_picture.proofs.regions.push_lines.Goals as goal

pub loop-line-init : goal.loop-line-init
loop-line-init c = record { rest = λ s at. refl; place = omega arith }

pub loop-line-preserved : goal.loop-line-preserved
loop-line-preserved c = record {
  rest = λ s at.
      lines_put s.large c.args.most c.loop-line.below (c.loop-line.below + 25) c.args.lines.now c.loop-line.line-index none
      (string_bytes c.loop-line.out) (string_bytes c.push_line.new.out)
      (string_bytes c.args.out.now ++ region_lines_text s.large c.args.most c.args.y c.args.lines.now)
      c.loop-line-test.true refl (c.in_ok-push_line.ensures s at) (c.loop-line.invariant.rest s at);
  place = omega (arith, c.loop-line.invariant.place);
}

pub returns : goal.returns
returns c = λ s at.
    lines_end s.large c.args.most c.loop-line.below c.args.lines.now c.loop-line.line-index (string_bytes c.loop-line.out)
    (string_bytes c.args.out.now ++ region_lines_text s.large c.args.most c.args.y c.args.lines.now)
    (omega (arith, c.loop-line-test.false)) (c.loop-line.invariant.rest s at)
