use Rattle.std.proofs.Common.{◌+◌, ◌/◌, ◌∙◌, ap, arith, replicate, false}
use Rattle.number_set.proofs.Filled.{flags_of-all, summary_of-all, flag_at-replicate_zero, get_or-replicate_zero}
use Rattle.number_set.specs.Bitmap.{is_nonzero, flags_of, summary_of}
use Rattle.std.proofs.lemmas.List.{length-replicate}
use Rattle.number_set.proofs.bitmap.Bitmap.empty.Goals as goal

pub returns-clause-flags : goal.returns-clause-flags
returns-clause-flags c =
    ap (λ words. flags_of words c.args.bound) (c.in_ok-words.ensures.items_if_clones_equal (λ _ e. e))
    ∙ flags_of-all (replicate c.div_ceil.result 0) c.args.bound false (λ n _. flag_at-replicate_zero c.div_ceil.result n)

pub returns-clause-summary : goal.returns-clause-summary
returns-clause-summary c =
    ap summary_of (c.in_ok-words.ensures.items_if_clones_equal (λ _ e. e))
    ∙ summary_of-all (replicate c.div_ceil.result 0) ((c.args.bound + 63) / 64) false (length-replicate c.div_ceil.result 0 ∙ omega (arith, c.div_ceil.ensures))
    (λ i _. ap is_nonzero (get_or-replicate_zero c.div_ceil.result i))
