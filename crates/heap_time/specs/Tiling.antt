-- What the bands of an axis come to.
use Rattle.std.specs.Prelude.{◌≡◌, ℕ, ◌≤◌, ◌⊎◌, true, List, [], ◌∷◌}
use Rattle.std.specs.List.{AllByRecursion}
use Rattle.heap_history.specs.declared.band.Band.{Band}
use Rattle.heap_history.specs.declared.history.Stay.{Stay}
use Rattle.heap_history.specs.declared.history.Held.{Held}
use Rattle.heap_time.specs.declared.covers.Cover.{Cover}
use Rattle.heap_time.specs.Axis.{bands_of}
use Rattle.heap_time.specs.Covers.{stay_cover, held_cover}

-- Bands from one address down to another: each ends at the address at which the one before begins.
abbrev pub TileDown : ℕ → List Band → ℕ → Type 0
TileDown high [] low = high ≡ low
TileDown high (band ∷ bands) low = (band.high ≡ high) × TileDown band.low bands low

-- an address is outside of a band, or at one of its ends
abbrev pub IsOutside : ℕ → Band → Type 0
IsOutside address band = (address ≤ band.low) ⊎ (band.high ≤ address)

-- an address is on the axis from one address to another, and in no fold
pub record IsOnAxis (low high : ℕ) (bands : List Band) (address : ℕ) : Type 0 where
  pub from : low ≤ address
  pub to : address ≤ high
  pub shown : AllByRecursion (λ (band : Band). band.folded ≡ true → IsOutside address band) bands

-- so it is with the two ends of what is covered
abbrev pub HasEnds : (ℕ → Type 0) → Cover → Type 0
HasEnds holds cover = holds cover.low × holds cover.high

-- The bands of a run tile an axis. On it every stay and every region of the heap begins and ends, and none does so in a fold.
pub record IsAxis (stays : List Stay) (heap : List Held) : Type 0 where
  pub low : ℕ
  pub high : ℕ
  pub tiled : TileDown high (bands_of stays heap) low
  pub stays_on : AllByRecursion (λ (stay : Stay). HasEnds (IsOnAxis low high (bands_of stays heap)) (stay_cover stay)) stays
  pub heap_on : AllByRecursion (λ (held : Held). HasEnds (IsOnAxis low high (bands_of stays heap)) (held_cover held)) heap

abbrev pub BandsTileTheAxis : Type 0
BandsTileTheAxis = (stays : List Stay) (heap : List Held) → IsAxis stays heap
