use Rattle.std.proofs.Common.{◌∙◌, arith}
use Rattle.heap_program.proofs.Blocks.{glyph_low, glyph_high, lower_glyph}
use Rattle.heap_program.proofs.digits.digit.Goals as goal

pub returns-then-value-lt10 : goal.returns-then-value-lt10
returns-then-value-lt10 c = glyph_low c.args.value c.if-value-lt10.true ∙ lower_glyph c.args.value c.requires

pub returns-else-value-lt10 : goal.returns-else-value-lt10
returns-else-value-lt10 c = glyph_high c.args.value (omega (arith, c.if-value-lt10.false)) ∙ lower_glyph c.args.value c.requires
