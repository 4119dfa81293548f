-- Powers of two, one behind the other.
use Rattle.std.proofs.Common.{◌≡◌, ◌≤◌, ◌<◌, ℕ, zero, suc, ◌+◌, ◌-◌, ◌*◌, max, List, [], ◌++◌, refl, ◌∙◌, ap, arith}
use Rattle.dlmalloc_chunks.specs.declared.extent.Extent.{Extent}
use Rattle.heap_map.specs.Histogram.{next_low, chunk_count_from, most_from, most_of_all, bar_text, size_bars_from, bars_text}

pub most_step : (bar low most : ℕ) (extents : List Extent) → bar < 16 →
    most_from (16 - bar) low most extents ≡ most_from (16 - (bar + 1)) (next_low low)
    (max (chunk_count_from low extents) most)
    extents
most_step bar low most extents few =
    let left : 16 - bar ≡ suc (16 - (bar + 1)) = omega (arith, few) in
    ap (λ (n : ℕ). most_from n low most extents) left

pub most_last : (bar low most : ℕ) (extents : List Extent) → 16 ≤ bar → most_from (16 - bar) low most extents ≡ most
most_last bar low most extents all =
    let left : 16 - bar ≡ zero = omega (arith, all) in
    ap (λ (n : ℕ). most_from n low most extents) left

pub most_begin : (bar low most : ℕ) (extents : List Extent) → bar ≡ 0 → low ≡ 32 → most ≡ 0 → most_from (16 - bar) low most extents ≡ most_of_all extents
unfolding most_of_all
most_begin bar low most extents first least none =
    ap (λ (n : ℕ). most_from (16 - n) low most extents) first ∙ ap (λ (n : ℕ). most_from 16 n most extents) least
    ∙ ap (λ (n : ℕ). most_from 16 32 n extents) none

pub bars_begin : (bar x floor low most : ℕ) (extents : List Extent) → bar ≡ 0 → x ≡ 472 → low ≡ 32 →
    size_bars_from (16 - bar) x floor low most extents ≡ bars_text floor most extents
unfolding bars_text
bars_begin bar x floor low most extents first left least =
    ap (λ (n : ℕ). size_bars_from (16 - n) x floor low most extents) first ∙ ap
    (λ (n : ℕ). size_bars_from 16 n floor low most extents) left ∙ ap (λ (n : ℕ).
    size_bars_from 16 472 floor n most extents)
    least

pub bars_step : (bar x floor low most : ℕ) (extents : List Extent) → bar < 16 →
    size_bars_from (16 - bar) x floor low most extents ≡ bar_text x floor low (chunk_count_from low extents)
    most ++ size_bars_from
    (16 - (bar + 1)) (x + 23) floor (next_low low) most extents
bars_step bar x floor low most extents few =
    let left : 16 - bar ≡ suc (16 - (bar + 1)) = omega (arith, few) in
    ap (λ (n : ℕ). size_bars_from n x floor low most extents) left

pub bars_last : (bar x floor low most : ℕ) (extents : List Extent) → 16 ≤ bar → size_bars_from (16 - bar) x floor low most extents ≡ []
bars_last bar x floor low most extents all =
    let left : 16 - bar ≡ zero = omega (arith, all) in
    ap (λ (n : ℕ). size_bars_from n x floor low most extents) left
