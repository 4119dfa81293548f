-- Each end of what is covered is on the axis.
use Rattle.std.proofs.Common.{◌≡◌, ◌≤◌, ℕ, ◌⊎◌, Bool, true, false, nat_le, List, [], ◌∷◌, ◌++◌, arith}
use Rattle.std.specs.Prelude.{if◌then◌else◌}
use Rattle.std.specs.List.{AllByRecursion, flat_map}
use Rattle.heap_history.specs.declared.band.Band.{Band}
use Rattle.heap_history.specs.declared.history.Stay.{Stay}
use Rattle.heap_history.specs.declared.history.Held.{Held}
use Rattle.heap_time.specs.declared.covers.Cover.{Cover}
use Rattle.heap_time.specs.Axis.{with_sorted_number, ascending, ends_of, all_ends, edges_of, first_edge, bands_of}
use Rattle.heap_time.specs.Covers.{stay_cover, held_cover}
use Rattle.heap_time.specs.Tiling.{IsOutside, IsOnAxis, HasEnds, BandsTileTheAxis}
use Rattle.heap_time.proofs.Ascending.{Rises, ascending_rises}
use Rattle.heap_time.proofs.Tiles.{last_edge, FoldsHaveNoEdge, bands_tile}

-- what holds of all sorted numbers holds of all
module _ (P : ℕ → Type 0) where
  with_all : (number : ℕ) (xs : List ℕ) → AllByRecursion P (with_sorted_number number xs) → P number × AllByRecursion P xs
  with_all number [] all = (all.0, tt)
  with_all number (x ∷ xs) all = go (nat_le number x) (λ more. with_all number xs more) all
    where
      go : (b : Bool) → (AllByRecursion P (with_sorted_number number xs) → P number × AllByRecursion P xs) →
          AllByRecursion P (if b then number ∷ (x ∷ xs) else x ∷ with_sorted_number number xs) → P number × AllByRecursion P (x ∷ xs)
      go true rest all = (all.0, all.1)
      go false rest all = let more = rest all.1 in (more.0, (all.0, more.1))

  ascending_all : (xs : List ℕ) → AllByRecursion P (ascending xs) → AllByRecursion P xs
  ascending_all [] all = tt
  ascending_all (x ∷ xs) all = let one = with_all x (ascending xs) all in (one.0, ascending_all xs one.1)

  all_front : (xs ys : List ℕ) → AllByRecursion P (xs ++ ys) → AllByRecursion P xs × AllByRecursion P ys
  all_front [] ys all = (tt, all)
  all_front (x ∷ xs) ys all = let more = all_front xs ys all.1 in ((all.0, more.0), more.1)

  -- and of the ends of each cover
  all_covers : {A : Type 0} (cover : A → Cover) (items : List A) → AllByRecursion P (flat_map (λ (item : A). ends_of (cover item)) items) →
      AllByRecursion (λ (item : A). HasEnds P (cover item)) items
  all_covers cover [] all = tt
  all_covers cover (item ∷ items) all = ((all.0, all.1.0), all_covers cover items all.1.1)

-- ascending numbers are between the first and the last
above_first : (low : ℕ) (xs : List ℕ) → Rises low xs → AllByRecursion (λ (x : ℕ). low ≤ x) xs
above_first low [] rise = tt
above_first low (x ∷ xs) rise = (rise.0, above_first low xs (lowered xs rise.0 rise.1))
  where
    lowered : (ys : List ℕ) → low ≤ x → Rises x ys → Rises low ys
    lowered [] less rise = tt
    lowered (y ∷ ys) less rise = (omega (arith, less, rise.0), rise.1)

from_first : (low : ℕ) (edges : List ℕ) → Rises low edges → AllByRecursion (λ (x : ℕ). first_edge edges ≤ x) edges
from_first low [] rise = tt
from_first low (edge ∷ edges) rise = (omega arith, above_first edge edges rise.1)

to_last : (low : ℕ) (edges : List ℕ) → Rises low edges → AllByRecursion (λ (x : ℕ). x ≤ last_edge edges) edges
to_last low [] rise = tt
to_last low (edge ∷ []) rise = (omega arith, tt)
to_last low (edge ∷ (next ∷ edges)) rise =
    let more = to_last edge (next ∷ edges) rise.1 in
    (let up = more.0 in let step = rise.1.0 in omega (arith, up, step), more)

-- a fold that has no edge inside has none of them
head_out : (edge : ℕ) (edges : List ℕ) (bands : List Band) → FoldsHaveNoEdge (edge ∷ edges) bands → AllByRecursion (λ (band : Band). band.folded ≡ true → IsOutside edge band) bands
head_out edge edges [] none = tt
head_out edge edges (band ∷ bands) none = ((λ is. (none.0 is).0), head_out edge edges bands none.1)

tail_out : (edge : ℕ) (edges : List ℕ) (bands : List Band) → FoldsHaveNoEdge (edge ∷ edges) bands → FoldsHaveNoEdge edges bands
tail_out edge edges [] none = tt
tail_out edge edges (band ∷ bands) none = ((λ is. (none.0 is).1), tail_out edge edges bands none.1)

on_axis : (low high : ℕ) (edges : List ℕ) (bands : List Band) → AllByRecursion (λ (x : ℕ). low ≤ x) edges → AllByRecursion (λ (x : ℕ). x ≤ high) edges →
    FoldsHaveNoEdge edges bands → AllByRecursion (IsOnAxis low high bands) edges
on_axis low high [] bands up down none = tt
on_axis low high (edge ∷ edges) bands up down none = (
  record { from = up.0; to = down.0; shown = head_out edge edges bands none },
  on_axis low high edges bands up.1 down.1 (tail_out edge edges bands none),
)

pub on_the_axis : BandsTileTheAxis
unfolding edges_of all_ends
on_the_axis stays heap =
    let edges = edges_of stays heap in
    let bands = bands_of stays heap in
    let tile = bands_tile stays heap in
    let rise = ascending_rises (all_ends stays heap) in
    let holds = IsOnAxis (first_edge edges) (last_edge edges) bands in
    let all = ascending_all holds (all_ends stays heap) (on_axis (first_edge edges) (last_edge edges) edges bands (from_first 0 edges rise) (to_last 0 edges rise) tile.1) in
    let parts = all_front holds (flat_map (λ (stay : Stay). ends_of (stay_cover stay)) stays) (flat_map (λ (held : Held). ends_of (held_cover held)) heap) all in
    record {
      low = first_edge edges;
      high = last_edge edges;
      tiled = tile.0;
      stays_on = all_covers holds stay_cover stays parts.0;
      heap_on = all_covers holds held_cover heap parts.1;
    }
