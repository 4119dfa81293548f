use Rattle.std.proofs.Common.{◌-◌, drop, length-drop, subst, sym, ◌∙◌, arith}
use Rattle.std.proofs.lemmas.List.{take_all}
use Rattle.std.specs.Str.{IsUtf8}
use Rattle.heap_program.proofs.Blocks.{block_is_text}
use Rattle.heap_program.proofs.digits.push_block.Goals as goal

pub push_text-requires : goal.push_text-requires
push_text-requires c =
    let start = c.write_block-start.result in
    let row = c.write_block-start.new.row in
    subst IsUtf8 (sym (take_all (128 - start) (drop start row) (omega (
      arith,
      length-drop start row,
      c.write_block-start.array_long,
    )) ∙ c.write_block-start.ensures.written))
    (block_is_text c.args.number c.args.address c.ranges.number.fits)
