use Rattle.std.proofs.Common.{◌/◌, ◌%◌, arith, false}
use Rattle.number_set.proofs.Words.{ChangesBit-clear, flags_of-set, IsBitmap-set, cleared_last, cleared_more}
use Rattle.number_set.proofs.bitmap.Bitmap.remove.Goals as goal

pub invariant_of-self : goal.invariant_of-self
invariant_of-self c = record {
  bitmap = IsBitmap-set c.args.self.now.words.items c.args.self.now.bound c.args.number c.index.result.now _ false
      c.args.self.now.bitmap c.requires c.index.ensures (ChangesBit-clear c.index.result.now (c.args.number % 64) (omega arith));
}

pub returns-clause-flags : goal.returns-clause-flags
returns-clause-flags c =
    flags_of-set c.args.self.now.words.items c.args.self.now.bound c.args.number c.index.result.now _ false
    c.args.self.now.bitmap c.requires c.index.ensures (ChangesBit-clear c.index.result.now (c.args.number % 64) (omega arith))

pub returns-clause-last : goal.returns-clause-last
returns-clause-last c = cleared_last c.args.self.now.words.items (c.args.number / 64) _

pub returns-clause-more : goal.returns-clause-more
returns-clause-more c = cleared_more c.args.self.now.words.items (c.args.number / 64) c.index.result.now _ c.index.ensures
