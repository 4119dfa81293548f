-- What is left of regions of which ends were given back.
use Rattle.std.specs.Prelude.{◌≡◌, ◌<◌, ◌⊎◌, List, [], ◌∷◌}
use Rattle.machine_model.specs.declared.region.Region.{Region}

-- a region is the other one, or a nonempty front of it
abbrev pub IsFrontOf : Region → Region → Type 0
IsFrontOf region front = (front ≡ region) ⊎ ((0 < front.pages) × (front.pages < region.pages) × (front ≡ record region { pages = front.pages }))

-- Each region is there, or a nonempty front of it is, or it is dropped; and nothing else is there.
abbrev pub AreCut : List Region → List Region → Type 0
AreCut [] new = new ≡ []
AreCut (region ∷ rest) new =
    AreCut rest new
    ⊎ ((front : Region) × (later : List Region) × IsFrontOf region front × (new ≡ front ∷ later) × AreCut rest later)
