-- Where a walk arrives, by what the function that walks returns.
use Rattle.std.proofs.Common.{◌≡◌, ◌+◌, ◌*◌, ◌%◌, ℕ, Option, Some, None, sym, ◌∙◌, ap, option_map}
use Rattle.paging_core.specs.Walk.{Place, mapped_place}
use Rattle.paging_core.specs.declared.page_walk.Mapped.{Mapped}

abbrev place_at : ℕ → Place → ℕ
place_at at place = place.frame * 4096 + at % 4096

pub walked_none : (o : Option Mapped) (w : Option Place) (at : ℕ) → option_map mapped_place o ≡ w → o ≡ None →
    None ≡ option_map (λ place. place.frame * 4096 + at % 4096) w
walked_none o w at walked is = ap (option_map (place_at at)) (ap (option_map mapped_place) (sym is) ∙ walked)

pub walked_some : (o : Option Mapped) (mapped : Mapped) (w : Option Place) (at value : ℕ) → option_map mapped_place o ≡ w →
    o ≡ Some mapped → value ≡ mapped.frame * 4096 + at % 4096
    → Some value ≡ option_map (λ place. place.frame * 4096 + at % 4096) w
walked_some o mapped w at value walked is same = ap (λ (n : ℕ). Some n) same ∙ ap (option_map (place_at at)) (ap (option_map mapped_place) (sym is) ∙ walked)
