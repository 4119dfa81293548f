-- Bars, one after the other.
use Rattle.std.proofs.Common.{◌≡◌, ◌≤◌, ◌<◌, ℕ, ◌+◌, List, ◌∷◌, ◌++◌, length, get_or, drop, nat_eq, sym, ◌∙◌, ap, add-one, drop-cons}
use Rattle.std.specs.Prelude.{if◌then◌else◌}
use Rattle.std.proofs.lemmas.List.{drop_all}
use Rattle.heap_cells.specs.Bars.{bar_of, bars_from}

rest_at : (shades : List ℕ) (i : ℕ) → i < length shades → drop i shades ≡ get_or shades i 0 ∷ drop (i + 1) shades
rest_at shades i within = drop-cons shades i 0 within ∙ ap (λ (n : ℕ). get_or shades i 0 ∷ drop n shades) (sym (add-one i))

-- how the bars go on at the next cell
pub bars_step : (side y start shade : ℕ) (shades : List ℕ) (i : ℕ) → i < length shades →
    bars_from side y start i shade (drop i shades) ≡ (if nat_eq (get_or shades i 0) shade then bars_from side y start (i + 1) shade (drop (i + 1) shades)
    else bar_of side y start i shade ++ bars_from side y i (i + 1) (get_or shades i 0) (drop (i + 1) shades))
bars_step side y start shade shades i within = ap (bars_from side y start i shade) (rest_at shades i within)

-- nothing is after the last cell
pub bars_last : (side y start shade : ℕ) (shades : List ℕ) (i : ℕ) → length shades ≤ i →
    bars_from side y start i shade (drop i shades) ≡ bar_of side y start i shade
bars_last side y start shade shades i all = ap (bars_from side y start i shade) (drop_all i shades all)
