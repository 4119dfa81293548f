use Rattle.std.proofs.Common.{◌+◌, ◌/◌, true}
use Rattle.number_set.proofs.Filled.{flags_of-all, summary_of-all, flag_at-full, is_nonzero-full, IsBitmap-full}
use Rattle.number_set.proofs.bitmap.Bitmap.full.Goals as goal

pub invariant_of-result : goal.invariant_of-result
invariant_of-result c = record { bitmap = IsBitmap-full c.in_ok-words.words.items c.args.bound c.in_ok-words.ensures }

pub returns-clause-flags : goal.returns-clause-flags
returns-clause-flags c =
    flags_of-all c.in_ok-words.words.items c.args.bound true (λ n lt. flag_at-full c.in_ok-words.words.items c.args.bound n c.in_ok-words.ensures lt)

pub returns-clause-summary : goal.returns-clause-summary
returns-clause-summary c =
    summary_of-all c.in_ok-words.words.items ((c.args.bound + 63) / 64) true c.in_ok-words.ensures.count
    (λ i lt. is_nonzero-full c.in_ok-words.words.items c.args.bound i c.in_ok-words.ensures lt)
