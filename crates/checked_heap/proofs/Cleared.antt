-- Words that are 0 behind a place.
use Rattle.std.specs.Prelude.{◌≡◌, ℕ, ◌-◌, ◌+◌, ◌/◌, List, ◌++◌, length, drop, replicate}
use Rattle.std.proofs.Common.{◌∙◌, ap, sym}
use Rattle.std.proofs.Math.Seq.{drop-append_seam}
use Rattle.checked_heap.specs.Checked.{IsCleared}

-- the words for the marks are what is left behind all others
pub clear_rest : (memory front marks : List ℕ) → IsCleared memory → memory ≡ front ++ marks → length front ≡ length memory - (length memory + 127) / 128 →
    length marks ≡ (length memory + 127) / 128 → marks ≡ replicate (length marks) 0
clear_rest memory front marks cleared parts place count =
    sym (drop-append_seam front marks) ∙ ap (drop (length front)) (sym parts) ∙ ap (λ (k : ℕ). drop k memory) place
    ∙ cleared ∙ ap (λ (k : ℕ). replicate k 0) (sym count)
