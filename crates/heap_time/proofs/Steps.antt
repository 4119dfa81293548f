-- Steps of the loops.
use Rattle.std.proofs.Common.{◌≡◌, ◌≤◌, ◌<◌, ℕ, zero, suc, ◌+◌, ◌-◌, ◌*◌, nat_le, List, [], ◌∷◌, length, get_or, drop, drop-cons, add-one, false, refl, sym, ◌∙◌, ap, arith}
use Rattle.std.specs.Prelude.{if◌then◌else◌}
use Rattle.std.proofs.lemmas.List.{drop_all}
use Rattle.heap_history.specs.declared.band.Band.{Band}
use Rattle.heap_history.specs.declared.history.Stay.{Stay}
use Rattle.heap_time.specs.declared.folding.Range.{Range}
use Rattle.heap_time.specs.declared.folding.Folds.{Folds}
use Rattle.heap_time.specs.Axis.{range_size, greatest_range, scaled_bytes, is_too_great, folded_to, folds_from, no_folds, folds_of, ranges_from, ranges_of}
use Rattle.heap_time.specs.Bands.{address_height}
use Rattle.heap_time.specs.Moves.{is_in_band, height_at}
use Rattle.heap_time.specs.Labels.{label_in, has_label_room, stay_label_text}
use Rattle.heap_time.specs.Addresses.{step_grown, step_of}

-- how a step grows
pub grown_step : (times step bytes : ℕ) → times < 62 → step_grown (62 - times) step bytes ≡ step_grown (62 - (times + 1))
    (if nat_le (7 * step) bytes then 2 * step else step) bytes
grown_step times step bytes few =
    let left : 62 - times ≡ suc (62 - (times + 1)) = omega (arith, few) in
    ap (λ (n : ℕ). step_grown n step bytes) left

pub grown_last : (times step bytes : ℕ) → 62 ≤ times → step_grown (62 - times) step bytes ≡ step
grown_last times step bytes all =
    let left : 62 - times ≡ zero = omega (arith, all) in
    ap (λ (n : ℕ). step_grown n step bytes) left

pub grown_begin : (bytes : ℕ) → step_grown (62 - 0) 1 bytes ≡ step_of bytes
unfolding step_of
grown_begin bytes = refl

-- how folds go on
pub folds_step : (times : ℕ) (folds : Folds) (ranges : List Range) → times < 10 →
    folds_from (10 - times) folds ranges ≡ (if is_too_great (scaled_bytes folds ranges)
    (range_size (greatest_range folds ranges))
    then folds_from (10 - (times + 1)) (folded_to (greatest_range folds ranges)) ranges else folds)
folds_step times folds ranges few =
    let left : 10 - times ≡ suc (10 - (times + 1)) = omega (arith, few) in
    ap (λ (n : ℕ). folds_from n folds ranges) left

pub folds_last : (times : ℕ) (folds : Folds) (ranges : List Range) → 10 ≤ times → folds_from (10 - times) folds ranges ≡ folds
folds_last times folds ranges all =
    let left : 10 - times ≡ zero = omega (arith, all) in
    ap (λ (n : ℕ). folds_from n folds ranges) left

pub folds_begin : (ranges : List Range) → folds_from (10 - 0) no_folds ranges ≡ folds_of ranges
unfolding folds_of
folds_begin ranges = refl

-- no edges have no ranges
pub ranges_none : (edges : List ℕ) → length edges ≡ 0 → ranges_of edges ≡ []
unfolding ranges_of
ranges_none [] none = refl
ranges_none (edge ∷ edges) none = absurd (omega (arith, none))

pub ranges_begin : (edges : List ℕ) → 0 < length edges → ranges_from (get_or edges (1 - 1) 0) (drop 1 edges) ≡ ranges_of edges
unfolding ranges_of
ranges_begin [] some = absurd (omega (arith, some))
ranges_begin (edge ∷ edges) some = refl

-- the label of a stay, by the bands from one on
pub label_step : (calls : ℕ) (bands : List Band) (i : ℕ) (stay : Stay) → i < length bands →
    stay_label_text calls (drop i bands) stay ≡ (if has_label_room stay (get_or bands i (record { low = 0; high = 0; folded = false; y = 0; height = 0 }))
    then label_in calls stay (get_or bands i (record { low = 0; high = 0; folded = false; y = 0; height = 0 }))
    else stay_label_text calls (drop (i + 1) bands) stay)
label_step calls bands i stay within =
    ap (λ (bs : List Band). stay_label_text calls bs stay) (drop-cons bands i
    (record { low = 0; high = 0; folded = false; y = 0; height = 0 }) within
    ∙ ap (λ (n : ℕ). get_or bands i (record { low = 0; high = 0; folded = false; y = 0; height = 0 }) ∷ drop n bands)
    (sym (add-one i)))

pub label_last : (calls : ℕ) (bands : List Band) (i : ℕ) (stay : Stay) → length bands ≤ i → stay_label_text calls (drop i bands) stay ≡ []
label_last calls bands i stay all = ap (λ (bs : List Band). stay_label_text calls bs stay) (drop_all i bands all)

-- where an address is, by the bands from one on
pub height_step : (address : ℕ) (bands : List Band) (i : ℕ) → i < length bands →
    height_at address (drop i bands) ≡ (if is_in_band address (get_or bands i (record { low = 0; high = 0; folded = false; y = 0; height = 0 }))
    then address_height (get_or bands i (record { low = 0; high = 0; folded = false; y = 0; height = 0 })) address else height_at address (drop (i + 1) bands))
height_step address bands i within =
    ap (λ (bs : List Band). height_at address bs) (drop-cons bands i (record {
      low = 0;
      high = 0;
      folded = false;
      y = 0;
      height = 0;
    }) within ∙ ap (λ (n : ℕ). get_or bands i (record {
      low = 0;
      high = 0;
      folded = false;
      y = 0;
      height =
          0;
    }) ∷ drop n bands) (sym (add-one i)))

pub height_last : (address : ℕ) (bands : List Band) (i : ℕ) → length bands ≤ i → height_at address (drop i bands) ≡ 84
height_last address bands i all = ap (λ (bs : List Band). height_at address bs) (drop_all i bands all)
