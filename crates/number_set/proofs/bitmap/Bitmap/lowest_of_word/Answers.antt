use Rattle.std.proofs.Common.{◌∙◌, sym, length, get_or, arith, ap}
use Rattle.number_set.specs.Bitmap.{is_nonzero}
use Rattle.number_set.proofs.Words.{get_or-summary_of, summary_of-past, lowest_flag}
use Rattle.number_set.proofs.bitmap.Bitmap.lowest_of_word.Goals as goal

pub returns-in_err-word-clause-none : goal.returns-in_err-word-clause-none
returns-in_err-word-clause-none c = rw c.from_residual.ensures (summary_of-past c.args.self.now.words.items c.args.index (omega (arith, c.in_err-word.ensures.lookup, ap length c.deref.ensures.value)))

pub returns-then-word-eq0-clause-none : goal.returns-then-word-eq0-clause-none
returns-then-word-eq0-clause-none c =
    get_or-summary_of c.args.self.now.words.items c.args.index
    ∙ ap is_nonzero (ap (λ words. get_or words c.args.index 0) (sym c.deref.ensures.value) ∙ (sym (c.in_ok-word.ensures.lookup.3.1 0) ∙ c.if-word-eq0.true))

pub returns-clause-set : goal.returns-clause-set
returns-clause-set c =
    (lowest_flag c.args.self.now.words.items c.args.self.now.bound c.args.index c.in_ok-word.field-0.now c.args.self.now.bitmap
    (ap (λ words. get_or words c.args.index 0) (sym c.deref.ensures.value) ∙ sym (c.in_ok-word.ensures.lookup.3.1 0)) (omega arith) (omega arith)).0

pub returns-clause-lowest : goal.returns-clause-lowest
returns-clause-lowest c =
    (lowest_flag c.args.self.now.words.items c.args.self.now.bound c.args.index c.in_ok-word.field-0.now c.args.self.now.bitmap
    (ap (λ words. get_or words c.args.index 0) (sym c.deref.ensures.value) ∙ sym (c.in_ok-word.ensures.lookup.3.1 0)) (omega arith) (omega arith)).1
