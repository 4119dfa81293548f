-- What is put one after another, or counted: with one more, and after the last.
use Rattle.std.proofs.Common.{◌≡◌, ◌≤◌, ◌<◌, ℕ, zero, suc, ◌+◌, ◌-◌, ◌*◌, ◌^◌, min, max, nat_eq, nat_le, List, [], ◌∷◌, ◌++◌, length, get_or, drop, refl, ◌∙◌, ap, arith, add-one}
use Rattle.std.specs.Prelude.{if◌then◌else◌}
use Rattle.std.proofs.lemmas.List.{at_drop_more, at_drop_all}
use Rattle.heap_history.specs.declared.history.Moment.{Moment}
use Rattle.heap_history.specs.declared.history.Mapping.{Mapping}
use Rattle.heap_history.specs.declared.history.RefusedCall.{RefusedCall}
use Rattle.heap_history.specs.Columns.{x_of}
use Rattle.heap_curves.specs.declared.columns.Counted.{Counted}
use Rattle.heap_curves.specs.declared.columns.Column.{Column}
use Rattle.heap_curves.specs.declared.paths.Curve.{Curve}
use Rattle.heap_curves.specs.declared.paths.Scale.{Scale}
use Rattle.heap_curves.specs.Columns.{bytes_counted, greatest, column_of, first_columns}
use Rattle.heap_curves.specs.Paths.{height_of, curve_bytes, step_text, steps_text}
use Rattle.heap_curves.specs.Addresses.{start_from, least_start}
use Rattle.heap_curves.specs.Lanes.{region_right, region_text, is_drawn, lane_regions_text, lanes_from, lane_text, more_addresses_text, lanes_text, lanes_height, height_from}
use Rattle.heap_curves.specs.Refused.{refused_column, refused_column_text, refused_columns_from}
use Rattle.heap_curves.specs.Calls.{call_line_text, call_lines_text, most_letters, step_from, calls_per_tick, call_tick_text, call_ticks_text}

pub greatest_step : (counted : Counted) (moments : List Moment) (i : ℕ) (d : Moment) → i < length moments →
    greatest counted (drop i moments) ≡ max (bytes_counted counted (get_or moments i d)) (greatest counted (drop (i + 1) moments))
greatest_step counted moments i d within = at_drop_more (greatest counted) moments i d within

pub greatest_last : (counted : Counted) (moments : List Moment) (i : ℕ) → length moments ≤ i → greatest counted (drop i moments) ≡ 0
greatest_last counted moments i all = at_drop_all (greatest counted) moments i all

pub columns_step : (moments : List Moment) (number : ℕ) → first_columns moments (number + 1) ≡ first_columns moments number ++ column_of moments number ∷ []
columns_step moments number = ap (first_columns moments) (add-one number)

pub steps_step : (curve : Curve) (scale : Scale) (number place height : ℕ) (columns : List Column) (i : ℕ) (d : Column) → i < length columns →
    steps_text curve scale number place height (drop i columns) ≡ (if nat_eq
    (height_of scale (curve_bytes curve (get_or columns i d))) height then [] else step_text (x_of place number)
    (height_of scale (curve_bytes curve (get_or columns i d))))
    ++ steps_text curve scale number (place + 1) (height_of scale (curve_bytes curve (get_or columns i d))) (drop (i + 1) columns)
steps_step curve scale number place height columns i d within = at_drop_more (steps_text curve scale number place height) columns i d within

pub steps_last : (curve : Curve) (scale : Scale) (number place height : ℕ) (columns : List Column) (i : ℕ) →
    length columns ≤ i → steps_text curve scale number place height (drop i columns) ≡ []
steps_last curve scale number place height columns i all = at_drop_all (steps_text curve scale number place height) columns i all

pub regions_step : (calls y start drawn : ℕ) (users : List Mapping) (i : ℕ) (d : Mapping) → i < length users →
    lane_regions_text calls y start drawn (drop i users) ≡ (if is_drawn calls start drawn (get_or users i d)
    then region_text
    calls y (get_or users i d) ++ lane_regions_text calls y start (region_right calls (get_or users i d))
    (drop (i + 1) users)
    else lane_regions_text calls y start drawn (drop (i + 1) users))
regions_step calls y start drawn users i d within = at_drop_more (lane_regions_text calls y start drawn) users i d within

pub regions_last : (calls y start drawn : ℕ) (users : List Mapping) (i : ℕ) → length users ≤ i → lane_regions_text calls y start drawn (drop i users) ≡ []
regions_last calls y start drawn users i all = at_drop_all (lane_regions_text calls y start drawn) users i all

pub least_step : (low : ℕ) (users : List Mapping) (i : ℕ) (d : Mapping) → i < length users →
    least_start low (drop i users) ≡ min (start_from low (get_or users i d)) (least_start low (drop (i + 1) users))
least_step low users i d within = at_drop_more (least_start low) users i d within

pub least_last : (low : ℕ) (users : List Mapping) (i : ℕ) → length users ≤ i → least_start low (drop i users) ≡ 2 ^ 64
least_last low users i all = at_drop_all (least_start low) users i all

pub lanes_begin : (calls y : ℕ) (users : List Mapping) → lanes_from (6 - 0) calls y 0 users ≡ lanes_text y calls users
unfolding lanes_text
lanes_begin calls y users = refl

after_none : (n : ℕ) → 0 + n ≡ n
after_none n = omega arith

pub height_begin : (users : List Mapping) → 0 + height_from (6 - 0) 0 users ≡ lanes_height users
unfolding lanes_height
height_begin users = after_none (height_from (6 - 0) 0 users)

pub lanes_step : (lane calls y low : ℕ) (users : List Mapping) → lane < 6 →
    lanes_from (6 - lane) calls y low users ≡ (if nat_eq (least_start low users) (2 ^ 64) then []
    else lane_text calls y (least_start low users) users ++ lanes_from (6 - (lane + 1)) calls (y + 19) (least_start low users + 1) users)
lanes_step lane calls y low users few =
    let left : 6 - lane ≡ suc (6 - (lane + 1)) = omega (arith, few) in
    ap (λ (n : ℕ). lanes_from n calls y low users) left

pub lanes_last : (lane calls y low : ℕ) (users : List Mapping) → 6 ≤ lane → lanes_from (6 - lane) calls y low users ≡ more_addresses_text y low users
lanes_last lane calls y low users all =
    let left : 6 - lane ≡ zero = omega (arith, all) in
    ap (λ (n : ℕ). lanes_from n calls y low users) left

pub height_step : (lane low : ℕ) (users : List Mapping) → lane < 6 →
    height_from (6 - lane) low users ≡ (if nat_eq (least_start low users) (2 ^ 64) then 0 else 19 + height_from
    (6 - (lane + 1)) (least_start low users + 1) users)
height_step lane low users few =
    let left : 6 - lane ≡ suc (6 - (lane + 1)) = omega (arith, few) in
    ap (λ (n : ℕ). height_from n low users) left

pub height_last : (lane low : ℕ) (users : List Mapping) → 6 ≤ lane → height_from (6 - lane) low
    users ≡ (if nat_eq (least_start low users) (2 ^ 64) then 0 else 19)
height_last lane low users all =
    let left : 6 - lane ≡ zero = omega (arith, all) in
    ap (λ (n : ℕ). height_from n low users) left

pub bars_step : (calls y : ℕ) (first : RefusedCall) (number : ℕ) (refused : List RefusedCall) (i : ℕ) (d : RefusedCall) → i < length refused →
    refused_columns_from calls y first number (drop i refused) ≡ (if nat_eq (refused_column calls first.call)
    (refused_column calls (get_or refused i d).call) then refused_columns_from calls y first (number + 1)
    (drop (i + 1) refused)
    else refused_column_text calls y first number ++ refused_columns_from calls y (get_or refused i d) 1
    (drop (i + 1) refused))
bars_step calls y first number refused i d within = at_drop_more (refused_columns_from calls y first number) refused i d
    within

pub bars_last : (calls y : ℕ) (first : RefusedCall) (number : ℕ) (refused : List RefusedCall) (i : ℕ) → length refused ≤ i →
    refused_columns_from calls y first number (drop i refused) ≡ refused_column_text calls y first number
bars_last calls y first number refused i all = at_drop_all (refused_columns_from calls y first number) refused i all

pub lines_step : (top y calls call : ℕ) (lines : List (List ℕ)) (i : ℕ) (d : List ℕ) → i < length lines →
    call_lines_text top y calls call (drop i lines) ≡ call_line_text top y calls call (get_or lines i d) ++ call_lines_text
    top y calls (call + 1) (drop (i + 1) lines)
lines_step top y calls call lines i d within = at_drop_more (call_lines_text top y calls call) lines i d within

pub lines_last : (top y calls call : ℕ) (lines : List (List ℕ)) (i : ℕ) → length lines ≤ i → call_lines_text top y calls call (drop i lines) ≡ []
lines_last top y calls call lines i all = at_drop_all (call_lines_text top y calls call) lines i all

pub letters_step : (lines : List (List ℕ)) (i : ℕ) (d : List ℕ) → i < length lines →
    most_letters (drop i lines) ≡ max (min 28 (length (get_or lines i d))) (most_letters (drop (i + 1) lines))
letters_step lines i d within = at_drop_more most_letters lines i d within

pub letters_last : (lines : List (List ℕ)) (i : ℕ) → length lines ≤ i → most_letters (drop i lines) ≡ 0
letters_last lines i all = at_drop_all most_letters lines i all

pub power_begin : (calls : ℕ) → step_from (20 - 0) 1 calls ≡ calls_per_tick calls
unfolding calls_per_tick
power_begin calls = refl

pub power_step : (times power calls : ℕ) → times < 20 →
    step_from (20 - times) power calls ≡ (if nat_le calls (10 * power) then power else if nat_le calls (20 * power)
    then 2 * power else if nat_le calls (50 * power) then 5 * power else step_from (20 - (times + 1)) (power * 10)
    calls)
power_step times power calls few =
    let left : 20 - times ≡ suc (20 - (times + 1)) = omega (arith, few) in
    ap (λ (n : ℕ). step_from n power calls) left
    ∙ ap (λ (n : ℕ). if nat_le calls (10 * power) then power else if nat_le calls (20 * power) then 2 * power else if nat_le
    calls (50 * power) then 5 * power else step_from (20 - (times + 1)) n calls) (omega arith)

pub power_last : (times power calls : ℕ) → 20 ≤ times → step_from (20 - times) power calls ≡ power
power_last times power calls all =
    let left : 20 - times ≡ zero = omega (arith, all) in
    ap (λ (n : ℕ). step_from n power calls) left

pub ticks_step : (top y calls step ticks : ℕ) → call_ticks_text top y calls step (ticks + 1) ≡ call_ticks_text top y calls
    step
    ticks ++ call_tick_text top y calls (step * ticks)
ticks_step top y calls step ticks = ap (call_ticks_text top y calls step) (add-one ticks)
