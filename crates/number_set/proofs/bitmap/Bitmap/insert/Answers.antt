use Rattle.std.proofs.Common.{◌∙◌, sym, ◌/◌, ◌%◌, arith, ap, not, true}
use Rattle.std.proofs.lemmas.Bool.{OnTrue_from, OnFalse_from}
use Rattle.number_set.proofs.Words.{ChangesBit-set, flags_of-set, IsBitmap-set, summary_of-set, summary_of-set_same, is_nonzero-by_bit}
use Rattle.number_set.proofs.bitmap.Bitmap.insert.Goals as goal

pub invariant_of-self : goal.invariant_of-self
invariant_of-self c = record {
  bitmap = IsBitmap-set c.args.self.now.words.items c.args.self.now.bound c.args.number c.index-word.result.now _ true
      c.args.self.now.bitmap c.requires c.index-word.ensures (ChangesBit-set c.index-word.result.now (c.args.number % 64) (omega arith));
}

pub returns-clause-flags : goal.returns-clause-flags
returns-clause-flags c =
    flags_of-set c.args.self.now.words.items c.args.self.now.bound c.args.number c.index-word.result.now _ true
    c.args.self.now.bitmap c.requires c.index-word.ensures (ChangesBit-set c.index-word.result.now (c.args.number % 64) (omega arith))

pub returns-clause-first : goal.returns-clause-first
returns-clause-first c =
    OnTrue_from _ _ (λ _. summary_of-set c.args.self.now.words.items (c.args.number / 64) _ true
    (is_nonzero-by_bit _ (c.args.number % 64) (ChangesBit-set c.index-word.result.now (c.args.number % 64) (omega arith)).here))

pub returns-clause-more : goal.returns-clause-more
returns-clause-more c =
    OnFalse_from _ _ (λ had. summary_of-set_same c.args.self.now.words.items (c.args.number / 64) c.index-word.result.now _ c.index-word.ensures
    (is_nonzero-by_bit _ (c.args.number % 64) (ChangesBit-set c.index-word.result.now (c.args.number % 64) (omega arith)).here ∙ sym (ap not had)))
