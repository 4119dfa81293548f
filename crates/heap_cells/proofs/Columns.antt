-- In which columns a span shows.
use Rattle.std.proofs.Common.{◌≡◌, ◌≤◌, ◌<◌, ℕ, length, get_or, ◌+◌, ◌-◌, ◌*◌, ◌/◌, ◌&&◌, max, nat_eq, nat_lt, nat_le, Bool, true, false, List, refl, sym, ◌∙◌, ap, arith, le-div_iff_mul-le}
use Rattle.std.specs.Prelude.{if◌then◌else◌}
use Rattle.std.specs.List.{sum_by}
use Rattle.std.proofs.lemmas.Bool.Decides.{nat_tests}
use Rattle.std.proofs.lemmas.List.{get_or_default}
use Rattle.std.proofs.lemmas.Nat.{div_below}
use Rattle.std.proofs.Math.Nat.{div-lt_iff_lt-mul}
use Rattle.heap_cells.specs.declared.spans.Span.{Span}
use Rattle.heap_cells.specs.declared.scale.Scale.{Scale}
use Rattle.heap_cells.specs.declared.scale.Row.{Row}
use Rattle.heap_cells.specs.declared.sums.Change.{Change}
use Rattle.heap_cells.specs.declared.sums.Change.TheVariants.{Comes, Goes}
use Rattle.heap_cells.specs.Spans.{shows, overlap, used_in}
use Rattle.heap_cells.specs.Shades.{cell_columns, calls_at, shade_of, cell_shade}
use Rattle.heap_cells.specs.Changes.{first_column, change_call, changed_bytes}
use Rattle.heap_cells.proofs.Totals.{sums_joined, sums_least, sums_none}

-- the bytes of a row that have come, or gone, in the first so many columns
abbrev pub changed_before : Scale → Change → Row → List Span → ℕ → ℕ
changed_before scale change row spans column = sum_by (λ span. if nat_lt (first_column scale (change_call change span))
    column
    then overlap row.low row.high span else 0) spans

-- in no column nothing has
pub before_none : (scale : Scale) (change : Change) (row : Row) (spans : List Span) → changed_before scale change row spans 0 ≡ 0
before_none scale change row spans =
    sums_none (λ span. if nat_lt (first_column scale (change_call change span)) 0 then overlap row.low row.high span else 0)
    (λ span. grind (arith, nat_tests)) spans

one_more : (f c n : ℕ) → (if nat_lt f c then n else 0) + (if nat_eq c f then n else 0) ≡ (if nat_lt f (c + 1) then n else 0)
one_more f c n = grind (arith, nat_tests)

-- in one column more what changes in it has
pub before_step : (scale : Scale) (change : Change) (row : Row) (spans : List Span) (column : ℕ) →
    changed_before scale change row spans column + changed_bytes scale change row spans column ≡ changed_before scale change row spans (column + 1)
before_step scale change row spans column =
    sums_joined (λ span. if nat_lt (first_column scale (change_call change span)) column then overlap row.low row.high span else 0)
    (λ span. if nat_eq column (first_column scale (change_call change span)) then overlap row.low row.high span else 0)
    (λ span. if nat_lt (first_column scale (change_call change span)) (column + 1) then overlap row.low row.high span
    else 0)
    (λ span. one_more (first_column scale (change_call change span)) column (overlap row.low row.high span)) spans

at_most : (b : Bool) (n : ℕ) → (if b then n else 0) ≤ n
at_most true n = omega arith
at_most false n = omega arith

-- no more comes or goes than there is
pub changed_few : (scale : Scale) (change : Change) (row : Row) (spans : List Span) (column : ℕ) →
    changed_bytes scale change row spans column ≤ sum_by (overlap row.low row.high) spans
changed_few scale change row spans column =
    sums_least (λ span. if nat_eq column (first_column scale (change_call change span)) then overlap row.low row.high span else 0) (overlap row.low row.high)
    (λ span. at_most (nat_eq column (first_column scale (change_call change span))) (overlap row.low row.high span)) spans

pub before_few : (scale : Scale) (change : Change) (row : Row) (spans : List Span) (column : ℕ) →
    changed_before scale change row spans column ≤ sum_by (overlap row.low row.high) spans
before_few scale change row spans column =
    sums_least (λ span. if nat_lt (first_column scale (change_call change span)) column then overlap row.low row.high span else 0) (overlap row.low row.high)
    (λ span. at_most (nat_lt (first_column scale (change_call change span)) column) (overlap row.low row.high span)) spans

same_test : (a b c d : ℕ) → (a < b → c < d) → (c < d → a < b) → nat_lt a b ≡ nat_lt c d
same_test a b c d to from = go (nat_lt a b) (nat_lt c d) refl refl
  where
    go : (s t : Bool) → nat_lt a b ≡ s → nat_lt c d ≡ t → s ≡ t
    go true true one other = refl
    go false false one other = refl
    go true false one other =
        let less : a < b = grind (arith, nat_tests, one) in
        let most : d ≤ c = grind (arith, nat_tests, other) in
        let more = to less in
        absurd (omega (arith, most, more))
    go false true one other =
        let less : c < d = grind (arith, nat_tests, other) in
        let most : b ≤ a = grind (arith, nat_tests, one) in
        let more = from less in
        absurd (omega (arith, most, more))

first_after : (call column calls columns : ℕ) → 0 < calls → 1 ≤ columns → ((call + 1) * columns - 1) / calls < column + 1 →
    call < (column + 1) * calls / columns
first_after call column calls columns some wide less =
    let whole = (div-lt_iff_lt-mul some).0 less in
    let least : (call + 1) * columns ≤ (column + 1) * calls = omega (arith, whole) in
    let more = (le-div_iff_mul-le wide).1 least in
    omega (arith, more)

after_first : (call column calls columns : ℕ) → 0 < calls → 1 ≤ columns → call < (column + 1) * calls / columns →
    ((call + 1) * columns - 1) / calls < column + 1
after_first call column calls columns some wide less =
    let more : call + 1 ≤ (column + 1) * calls / columns = omega (arith, less) in
    let least = (le-div_iff_mul-le wide).0 more in
    let positive : columns ≤ (call + 1) * columns = omega arith in
    div_below ((call + 1) * columns - 1) calls (column + 1) some (omega (arith, least, positive, wide))

-- a column shows the heap after a call if it is the first that does, or right of it
pub shown_from : (scale : Scale) (call column : ℕ) → 0 < scale.calls → 1 ≤ cell_columns scale →
    nat_lt (first_column scale call) (column + 1) ≡ nat_lt call (calls_at scale column)
shown_from scale call column some wide =
    same_test (first_column scale call) (column + 1) call (calls_at scale column)
    (first_after call column scale.calls (cell_columns scale) some wide)
    (after_first call column scale.calls (cell_columns scale) some wide)

one_shown : (born end calls n : ℕ) → (if nat_lt born calls && nat_le calls end then n else 0) + (if nat_lt (max born end)
    calls then n else 0) ≡ (if nat_lt born calls then n else 0)
one_shown born end calls n = grind (arith, nat_tests)

-- what shows in a column, and what has gone, is what has come
pub shown_in : (scale : Scale) (row : Row) (spans : List Span) (column : ℕ) → 0 < scale.calls → 1 ≤ cell_columns scale →
    used_in row.low row.high (calls_at scale column) spans + changed_before scale Goes row spans
    (column + 1) ≡ changed_before scale Comes row spans (column + 1)
shown_in scale row spans column some wide =
    sums_joined (λ span. if shows (calls_at scale column) span then overlap row.low row.high span else 0)
    (λ span. if nat_lt (first_column scale (max span.born span.end)) (column + 1) then overlap row.low row.high span else 0)
    (λ span. if nat_lt (first_column scale span.born) (column + 1) then overlap row.low row.high span else 0)
    each spans
  where
    each : (span : Span) → (if shows (calls_at scale column) span then overlap row.low row.high span else 0) + (if nat_lt
        (first_column scale (max span.born span.end)) (column + 1) then overlap row.low row.high span else 0) ≡ (if nat_lt
        (first_column scale span.born) (column + 1) then overlap row.low row.high span else 0)
    each span =
        let bytes = overlap row.low row.high span in
        let came = shown_from scale span.born column some wide in
        let went = shown_from scale (max span.born span.end) column some wide in
        ap (λ (t : Bool). (if shows (calls_at scale column) span then bytes else 0) + (if t then bytes else 0)) went
        ∙ one_shown span.born span.end (calls_at scale column) bytes
        ∙ ap (λ (t : Bool). if t then bytes else 0) (sym came)

-- the sum so far, with what changes in the next column
pub next_before : (scale : Scale) (change : Change) (row : Row) (spans : List Span) (sums : List ℕ)
    (column before one : ℕ) → before ≡ changed_before scale change row spans column →
    column < length sums → one ≡ get_or sums column one → get_or sums column 0 ≡ changed_bytes scale change row spans column →
    before + one ≡ changed_before scale change row spans (column + 1)
next_before scale change row spans sums column before one so_far within is changes =
    let more = before_step scale change row spans column in
    let same = get_or_default sums column one 0 within in
    omega (arith, so_far, is, same, changes, more)

-- the shade of a cell, by what has come and what has gone
pub shade_is : (scale : Scale) (shades : ℕ) (row : Row) (spans : List Span) (column since until : ℕ) → 0 < scale.calls → 1 ≤ cell_columns scale →
    since ≡ changed_before scale Comes row spans (column + 1) → until ≡ changed_before scale Goes row spans (column + 1) →
    shade_of shades (since - until) (row.high - row.low) ≡ cell_shade scale shades row spans column
shade_is scale shades row spans column since until some wide came went =
    let all = shown_in scale row spans column some wide in
    let left : since - until ≡ used_in row.low row.high (calls_at scale column) spans = omega (arith, all, came, went) in
    ap (λ (used : ℕ). shade_of shades used (row.high - row.low)) left
