use Rattle.std.proofs.Common.{ℕ}
use Rattle.std.proofs.lemmas.List.{get_or-replicate, length-replicate}
use Rattle.run_figures.proofs.classes.small_counts.Goals as goal

pub loop-extent-init : goal.loop-extent-init
loop-extent-init c = record { size = length-replicate {A = ℕ} 256 0; counts = λ size few. get_or-replicate {A = ℕ} 256 size 0 0 few }
