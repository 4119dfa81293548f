use Rattle.std.proofs.Common.{length, ap, sym, ◌∙◌}
use Rattle.number_set.specs.Bitmap.{length-flags_of}
use Rattle.number_set.proofs.level.Level.bound.Goals as goal

pub returns : goal.returns
returns c = sym (length-flags_of c.self.inside.bits.words.items c.self.inside.bits.bound) ∙ ap length c.self.view_is
