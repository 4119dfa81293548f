-- The bands tile the axis.
use Rattle.std.proofs.Common.{◌≡◌, ◌≤◌, ℕ, ◌+◌, ◌⊎◌, inl, inr, Bool, true, false, nat_lt, List, [], ◌∷◌, ◌++◌, refl, sym, ◌∙◌, subst, arith}
use Rattle.std.specs.Prelude.{if◌then◌else◌, reverse}
use Rattle.std.specs.List.{AllByRecursion}
use Rattle.std.proofs.lemmas.Bool.{ltb-false}
use Rattle.std.proofs.lemmas.List.{reverse-append}
use Rattle.heap_time.specs.declared.folding.Range.{Range}
use Rattle.heap_time.specs.declared.folding.Folds.{Folds}
use Rattle.heap_time.specs.declared.axis.Span.{Span}
use Rattle.heap_time.specs.Axis.{all_ends, ascending, edges_of, first_edge, ranges_from, ranges_of, is_folded, scaled_bytes, folds_of, scaled, spans_from, spans_of, span_height, placed, bands_over, bands_of}
use Rattle.heap_history.specs.declared.band.Band.{Band}
use Rattle.heap_history.specs.declared.history.Stay.{Stay}
use Rattle.heap_history.specs.declared.history.Held.{Held}
use Rattle.heap_time.specs.Tiling.{TileDown, IsOutside}
use Rattle.heap_time.proofs.Ascending.{Rises, ascending_rises}

-- the greatest of some edges
abbrev pub last_edge : List ℕ → ℕ
last_edge [] = 0
last_edge (edge ∷ []) = edge
last_edge (edge ∷ (next ∷ edges)) = last_edge (next ∷ edges)

-- no edge lies in a fold
abbrev pub FoldsHaveNoEdge : List ℕ → List Band → Type 0
FoldsHaveNoEdge edges bands = AllByRecursion (λ (band : Band). band.folded ≡ true → AllByRecursion (λ (edge : ℕ). IsOutside edge band) edges) bands

-- The bands tile the axis from the greatest edge to the least, and no edge is in a fold.
abbrev pub BandsTileTheEdges : Type 0
BandsTileTheEdges =
    (stays : List Stay) (heap : List Held) →
    TileDown (last_edge (edges_of stays heap)) (bands_of stays heap) (first_edge (edges_of stays heap)) × FoldsHaveNoEdge (edges_of stays heap) (bands_of stays heap)

-- ranges, one after another
abbrev Follow : ℕ → List Range → ℕ → Type 0
Follow low [] high = low ≡ high
Follow low (range ∷ ranges) high = (range.low ≡ low) × (low ≤ range.high) × Follow range.high ranges high

follow_from : (low : ℕ) (edges : List ℕ) → Rises low edges → Follow low (ranges_from low edges) (last_edge (low ∷ edges))
follow_from low [] rise = refl
follow_from low (high ∷ edges) rise = (refl, rise.0, follow_from high edges rise.1)

-- spans, one after another
abbrev TileUp : ℕ → List Span → ℕ → Type 0
TileUp low [] high = low ≡ high
TileUp low (span ∷ spans) high = (span.low ≡ low) × TileUp span.high spans high

scaled_tiles : (start next high : ℕ) (rest : List Span) → start ≤ next → TileUp next rest high → TileUp start (scaled start next ++ rest) high
scaled_tiles start next high rest before tiles = go (nat_lt start next) refl
  where
    same : (at : ℕ) → next ≡ at → TileUp at rest high
    same at is = subst (λ (n : ℕ). TileUp n rest high) is tiles

    go : (b : Bool) → nat_lt start next ≡ b → TileUp start ((if b then record { low = start; high = next; folded = false } ∷ [] else []) ++ rest) high
    go true is = (refl, tiles)
    go false is = let above = ltb-false start next is in same start (omega (arith, above, before))

scaled_last : (start next : ℕ) → start ≤ next → TileUp start (scaled start next) next
scaled_last start next before = go (nat_lt start next) refl
  where
    go : (b : Bool) → nat_lt start next ≡ b → TileUp start (if b then record { low = start; high = next; folded = false } ∷ [] else []) next
    go true is = (refl, refl)
    go false is = let above = ltb-false start next is in omega (arith, above, before)

spans_tile : (folds : Folds) (start next high : ℕ) (ranges : List Range) → start ≤ next → Follow next ranges high →
    TileUp start (spans_from folds start next ranges) high
spans_tile folds start next high [] before follow = subst (λ (n : ℕ). TileUp start (scaled start next) n) follow (scaled_last start next before)
spans_tile folds start next high (range ∷ ranges) before follow =
    go (is_folded folds range) (spans_tile folds range.high range.high high ranges (omega arith) follow.2)
    (spans_tile folds start range.high high ranges (omega (arith, before, follow.1)) follow.2)
  where
    go : (b : Bool) → TileUp range.high (spans_from folds range.high range.high ranges) high → TileUp start (spans_from folds start range.high ranges) high →
        TileUp start (if b then scaled start next ++ (record {
          low = range.low;
          high = range.high;
          folded =
              true;
        } ∷ spans_from folds range.high range.high ranges) else spans_from folds start range.high ranges) high
    go true folded unfolded = scaled_tiles start next high (record {
      low = range.low;
      high = range.high;
      folded =
          true;
    } ∷ spans_from folds range.high range.high ranges) before (follow.0, folded)
    go false folded unfolded = unfolded

-- the same, from the highest down
abbrev SpansDown : ℕ → List Span → ℕ → Type 0
SpansDown high [] low = high ≡ low
SpansDown high (span ∷ spans) low = (span.high ≡ high) × SpansDown span.low spans low

down_push : (high middle low : ℕ) (spans : List Span) (span : Span) → SpansDown high spans middle → span.high ≡ middle →
    span.low ≡ low → SpansDown high (spans ++ span ∷ []) low
down_push high middle low [] span down top bottom = (top ∙ sym down, bottom)
down_push high middle low (s ∷ ss) span down top bottom = (down.0, down_push s.low middle low ss span down.1 top bottom)

down_reversed : (low high : ℕ) (spans : List Span) → TileUp low spans high → SpansDown high (reverse spans) low
down_reversed low high [] tiles = sym tiles
down_reversed low high (span ∷ spans) tiles =
    subst (λ (ss : List Span). SpansDown high ss low) (sym (reverse-append (span ∷ []) spans))
    (down_push high span.high low (reverse spans) span (down_reversed span.high high spans tiles.1) refl tiles.0)

placed_tile : (left y high low : ℕ) (spans : List Span) → SpansDown high spans low → TileDown high (placed left y spans) low
placed_tile left y high low [] down = down
placed_tile left y high low (span ∷ spans) down = (down.0, placed_tile left (y + span_height left span + 3) span.low low spans down.1)

-- an edge is outside of a range, or at one of its ends
abbrev Outside : List ℕ → ℕ → ℕ → Type 0
Outside edges low high = AllByRecursion (λ (edge : ℕ). (edge ≤ low) ⊎ (high ≤ edge)) edges

above_all : (low high : ℕ) (edges : List ℕ) → Rises high edges → Outside edges low high
above_all low high [] rise = tt
above_all low high (edge ∷ edges) rise = (inr rise.0, above_all low high edges (rises_lower high edge edges rise.0 rise.1))
  where
    rises_lower : (to from : ℕ) (es : List ℕ) → to ≤ from → Rises from es → Rises to es
    rises_lower to from [] less rise' = tt
    rises_lower to from (e ∷ es) less rise' = (omega (arith, less, rise'.0), rise'.1)

-- none of the edges lies in a range that is between two of them
abbrev RangesHaveNone : List ℕ → List Range → Type 0
RangesHaveNone edges ranges = AllByRecursion (λ (range : Range). Outside edges range.low range.high) ranges

ranges_below : (low edge : ℕ) (edges edges' : List ℕ) → edge ≤ low → Rises low edges →
    RangesHaveNone edges' (ranges_from low edges) → RangesHaveNone (edge ∷ edges') (ranges_from low edges)
ranges_below low edge [] edges' less rise none = tt
ranges_below low edge (high ∷ edges) edges' less rise none = (
  (inl less, none.0),
  ranges_below high edge edges edges' (omega (arith, less, rise.0)) rise.1 none.1,
)

ranges_none_in : (low : ℕ) (edges : List ℕ) → Rises low edges → RangesHaveNone (low ∷ edges) (ranges_from low edges)
ranges_none_in low [] rise = tt
ranges_none_in low (high ∷ edges) rise = (
  (inl (omega arith), (inr (omega arith), above_all low high edges rise.1)),
  ranges_below high low edges (high ∷ edges) rise.0 rise.1 (ranges_none_in high edges rise.1),
)

-- nor in a span that is folded
abbrev HasNone : List ℕ → Span → Type 0
HasNone edges span = span.folded ≡ true → Outside edges span.low span.high

scaled_none : (edges : List ℕ) (start next : ℕ) (rest : List Span) → AllByRecursion (HasNone edges) rest →
    AllByRecursion (HasNone edges) (scaled start next ++ rest)
scaled_none edges start next rest all = go (nat_lt start next)
  where
    go : (b : Bool) → AllByRecursion (HasNone edges) ((if b then record { low = start; high = next; folded = false } ∷ [] else []) ++ rest)
    go true = ((λ is. cc), all)
    go false = all

spans_none : (edges : List ℕ) (folds : Folds) (start next : ℕ) (ranges : List Range) → RangesHaveNone edges ranges →
    AllByRecursion (HasNone edges) (spans_from folds start next ranges)
spans_none edges folds start next [] none = go (nat_lt start next)
  where
    go : (b : Bool) → AllByRecursion (HasNone edges) (if b then record { low = start; high = next; folded = false } ∷ [] else [])
    go true = ((λ is. cc), tt)
    go false = tt
spans_none edges folds start next (range ∷ ranges) none =
    go (is_folded folds range) (spans_none edges folds range.high range.high ranges none.1) (spans_none edges folds start range.high ranges none.1)
  where
    go : (b : Bool) → AllByRecursion (HasNone edges) (spans_from folds range.high range.high ranges) →
        AllByRecursion (HasNone edges) (spans_from folds start range.high ranges) →
        AllByRecursion (HasNone edges) (if b then scaled start next ++ (record {
          low = range.low;
          high = range.high;
          folded = true;
        } ∷ spans_from folds range.high range.high ranges) else spans_from folds start range.high ranges)
    go true folded unfolded = scaled_none edges start next (record {
      low = range.low;
      high = range.high;
      folded =
          true;
    } ∷ spans_from folds range.high range.high ranges) ((λ is. none.0), folded)
    go false folded unfolded = unfolded

all_push : (edges : List ℕ) (spans : List Span) (span : Span) → AllByRecursion (HasNone edges) spans → HasNone edges span →
    AllByRecursion (HasNone edges) (spans ++ span ∷ [])
all_push edges [] span all one = (one, tt)
all_push edges (s ∷ ss) span all one = (all.0, all_push edges ss span all.1 one)

all_reversed : (edges : List ℕ) (spans : List Span) → AllByRecursion (HasNone edges) spans → AllByRecursion (HasNone edges) (reverse spans)
all_reversed edges [] all = tt
all_reversed edges (span ∷ spans) all =
    subst (λ (ss : List Span). AllByRecursion (HasNone edges) ss) (sym (reverse-append (span ∷ []) spans))
    (all_push edges (reverse spans) span (all_reversed edges spans all.1) all.0)

placed_none : (edges : List ℕ) (left y : ℕ) (spans : List Span) → AllByRecursion (HasNone edges) spans → FoldsHaveNoEdge edges (placed left y spans)
placed_none edges left y [] all = tt
placed_none edges left y (span ∷ spans) all = (all.0, placed_none edges left (y + span_height left span + 3) spans all.1)

-- the bands over ascending edges
over_tile : (edges : List ℕ) → Rises 0 edges → TileDown (last_edge edges) (bands_over (first_edge edges) (ranges_of edges))
    (first_edge edges) × FoldsHaveNoEdge edges (bands_over (first_edge edges) (ranges_of edges))
unfolding bands_over ranges_of spans_of
over_tile [] rise = (refl, tt)
over_tile (edge ∷ edges) rise =
    let ranges = ranges_from edge edges in
    let folds = folds_of ranges in
    let left = scaled_bytes folds ranges in
    let high = last_edge (edge ∷ edges) in
    let spans = spans_from folds edge edge ranges in (
      placed_tile left 84 high edge (reverse spans) (down_reversed edge high spans
          (spans_tile folds edge edge high ranges (omega arith) (follow_from edge edges rise.1))),
      placed_none (edge ∷ edges) left 84 (reverse spans) (all_reversed (edge ∷ edges) spans
          (spans_none (edge ∷ edges) folds edge edge ranges (ranges_none_in edge edges rise.1))),
    )

pub bands_tile : BandsTileTheEdges
unfolding edges_of bands_of
bands_tile stays heap = over_tile (ascending (all_ends stays heap)) (ascending_rises (all_ends stays heap))
