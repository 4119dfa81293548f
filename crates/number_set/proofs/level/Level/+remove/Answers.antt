use Rattle.std.proofs.Common.{◌≡◌, ◌∙◌, arith}
use Rattle.number_set.specs.Bitmap.{summary_of}
use Rattle.number_set.proofs.Levels.{above_shorter, number_within, word_within}
use Rattle.number_set.proofs.level.Level.+remove.Goals as goal

pub remove-requires : goal.remove-requires
remove-requires t c =
    number_within c.self.inside.bits.words.items c.self.inside.bits.bound c.args.number c.args.self.now c.self.view_is c.requires

pub remove-requires-in-Some : goal.remove-requires-in-Some
remove-requires-in-Some t c =
    let bits = c.self.inside.bits in
    let linked = c.self.invariant.0 c.in-Some.above c.in-Some.is in
    let above_is : c.deref_mut.result.now ≡ summary_of bits.words.items = c.deref_mut.ensures.value ∙ linked.1 in (
      omega (
        arith,
        c.decreases,
        above_shorter bits.words.items bits.bound c.args.self.now c.deref_mut.result.now bits.bitmap c.self.view_is above_is linked.0,
      ),
      word_within bits.words.items bits.bound c.args.number c.deref_mut.result.now bits.bitmap above_is
          (number_within bits.words.items bits.bound c.args.number c.args.self.now c.self.view_is c.requires),
    )
