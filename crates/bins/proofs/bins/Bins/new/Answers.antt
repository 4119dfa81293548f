use Rattle.std.proofs.Common.{refl, arith}
use Rattle.std.proofs.lemmas.List.{get_or-replicate}
use Rattle.bins.proofs.EmptyBins.{empty_linked}
use Rattle.bins.proofs.bins.Bins.new.Goals as goal

pub returns : goal.returns
returns c =
    λ regions words. empty_linked regions words _ (λ i h. c.loop-i.invariant.1 i (omega arith))
    (λ i h. c.loop-i.invariant.1 i (omega arith)) refl (λ i h. get_or-replicate 32 i 0 0 h) refl
