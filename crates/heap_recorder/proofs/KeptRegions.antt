-- The pages of regions, one after another.
use Rattle.std.proofs.Common.{◌≡◌, ◌<◌, ℕ, ◌+◌, false, List, ◌∷◌, length, get_or, drop, sym, ◌∙◌, ap, add-one, drop-cons}
use Rattle.machine_model.specs.declared.region.Region.{Region}
use Rattle.machine_model.specs.State.{total_pages}

-- what is taken for a region where there is none
abbrev pub no_region : Region
no_region = record { start = 0; pages = 0; heap = false; rights = record { write = false; user = false; fetch = false } }

rest_at : (all : List Region) (i : ℕ) (d : Region) → i < length all → drop i all ≡ get_or all i d ∷ drop (i + 1) all
rest_at all i d within = drop-cons all i d within ∙ ap (λ (n : ℕ). get_or all i d ∷ drop n all) (sym (add-one i))

pub pages_more : (regions : List Region) (i : ℕ) (d : Region) → i < length regions →
    total_pages (drop i regions) ≡ (get_or regions i d).pages + total_pages (drop (i + 1) regions)
pages_more regions i d within = ap total_pages (rest_at regions i d within)
