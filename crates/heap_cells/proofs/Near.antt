-- The spans that rows meet are all that counts for them.
use Rattle.std.proofs.Common.{◌≡◌, ◌≤◌, ◌<◌, ℕ, zero, suc, ◌+◌, ◌-◌, ◌*◌, ◌/◌, nat_lt, Bool, true, false, cond, List, [], ◌∷◌, ◌++◌, refl, sym, ◌∙◌, ap, arith, append_assoc}
use Rattle.std.specs.Prelude.{if◌then◌else◌}
use Rattle.std.specs.List.{sum_by, filter}
use Rattle.std.proofs.lemmas.Bool.Decides.{nat_tests}
use Rattle.std.proofs.lemmas.List.Sums.{sum_by-cons}
use Rattle.std.proofs.lemmas.List.{append-nil}
use Rattle.std.proofs.lemmas.Nat.{le-div}
use Rattle.std.proofs.Math.Nat.{mul-le-mul_right, div-mul-le_self}
use Rattle.heap_history.specs.declared.band.Band.{Band}
use Rattle.heap_cells.specs.declared.spans.Span.{Span}
use Rattle.heap_cells.specs.declared.scale.Scale.{Scale}
use Rattle.heap_cells.specs.declared.scale.Row.{Row}
use Rattle.heap_cells.specs.declared.bars.Bar.{Bar}
use Rattle.heap_cells.specs.Spans.{shows, overlap, spans_in, used_in}
use Rattle.heap_cells.specs.Shades.{cell_columns, calls_at, shade_of, cell_shade, first_shades, row_shades}
use Rattle.heap_cells.specs.Bars.{bars_of}
use Rattle.heap_cells.specs.Rows.{rows_of, row_start, row_at, row_bars, rows_from}

kept : (p : Span → Bool) (f : Span → ℕ) → ((x : Span) → p x ≡ false → f x ≡ 0) → (xs : List Span) → sum_by f (filter p xs) ≡ sum_by f xs
kept p f out [] = refl
kept p f out (x ∷ xs) = go (p x) refl (kept p f out xs)
  where
    go : (b : Bool) → p x ≡ b → sum_by f (filter p xs) ≡ sum_by f xs → sum_by f (cond b (x ∷ filter p xs) (filter p xs)) ≡ sum_by f (x ∷ xs)
    go true is more = omega (arith, more, sum_by-cons f x (filter p xs), sum_by-cons f x xs)
    go false is more = let none = out x is in omega (arith, more, none, sum_by-cons f x xs)

apart : (low high a b calls : ℕ) (span : Span) → low ≤ a → b ≤ high → nat_lt 0 (overlap low high span) ≡ false →
    (if shows calls span then overlap a b span else 0) ≡ 0
apart low high a b calls span before after none =
    let outside : overlap low high span ≡ 0 = grind (arith, nat_tests, none) in
    let nothing : overlap a b span ≡ 0 = omega (arith, outside, before, after) in
    go (shows calls span) nothing
  where
    go : (t : Bool) → overlap a b span ≡ 0 → (if t then overlap a b span else 0) ≡ 0
    go true is = is
    go false is = refl

used_near : (low high a b calls : ℕ) (spans : List Span) → low ≤ a → b ≤ high → used_in a b calls (spans_in low high spans) ≡ used_in a b calls spans
used_near low high a b calls spans before after =
    kept (λ span. nat_lt 0 (overlap low high span)) (λ span. if shows calls span then overlap a b span else 0)
    (λ span none. apart low high a b calls span before after none) spans

shades_near : (low high : ℕ) (scale : Scale) (shades : ℕ) (row : Row) (spans : List Span) (columns : ℕ) → low ≤ row.low → row.high ≤ high →
    first_shades scale shades row (spans_in low high spans) columns ≡ first_shades scale shades row spans columns
shades_near low high scale shades row spans zero before after = refl
shades_near low high scale shades row spans (suc column) before after =
    ap (λ (ns : List ℕ). ns ++ cell_shade scale shades row (spans_in low high spans) column ∷ [])
    (shades_near low high scale shades row spans column before after)
    ∙ ap (λ (n : ℕ). first_shades scale shades row spans column ++ shade_of shades n (row.high - row.low) ∷ [])
    (used_near low high row.low row.high (calls_at scale column) spans before after)

pub row_near : (low high : ℕ) (scale : Scale) (shades : ℕ) (row : Row) (spans : List Span) → low ≤ row.low → row.high ≤ high →
    row_bars scale shades row (spans_in low high spans) ≡ row_bars scale shades row spans
unfolding row_shades
row_near low high scale shades row spans before after = ap (bars_of scale.side row.y)
    (shades_near low high scale shades row spans (cell_columns scale) before after)

start_least : (scale : Scale) (band : Band) (one other : ℕ) → 0 < rows_of scale band → one ≤ other → row_start scale band one ≤ row_start scale band other
start_least scale band one other some less =
    let rows = rows_of scale band in
    let bytes = band.high - band.low in
    let more : one * bytes ≤ other * bytes = mul-le-mul_right bytes less in
    let whole = div-mul-le_self (one * bytes) rows in
    let least = le-div (one * bytes / rows) (other * bytes) rows some (omega (arith, more, whole)) in
    omega (arith, least)

-- rows that lie from one to another
pub rows_near : (scale : Scale) (shades : ℕ) (spans : List Span) (band : Band) (low high first number : ℕ) →
    0 < rows_of scale band → low ≤ (row_at scale band first).low →
    ((k : ℕ) → k < number → (row_at scale band (first + k)).high ≤ high) →
    rows_from scale shades (spans_in low high spans) band first number ≡ rows_from scale shades spans band first number
rows_near scale shades spans band low high first zero rows before after = refl
rows_near scale shades spans band low high first (suc number) rows before after =
    let least = start_least scale band first (first + number) rows (omega arith) in
    let this = after number (omega arith) in
    ap (λ (bars : List Bar). bars ++ row_bars scale shades (row_at scale band (first + number)) (spans_in low high spans))
    (rows_near scale shades spans band low high first number rows before (λ k few. after k (omega (arith, few))))
    ∙ ap (λ (bars : List Bar). rows_from scale shades spans band first number ++ bars)
    (row_near low high scale shades (row_at scale band (first + number)) spans (omega (arith, before, least)) this)

high_least : (scale : Scale) (band : Band) (one other : ℕ) → 0 < rows_of scale band → one ≤ other →
    (row_at scale band one).high ≤ (row_at scale band other).high
high_least scale band one other rows less =
    let start = start_least scale band one other rows less in
    let end = start_least scale band (one + 1) (other + 1) rows (omega (arith, less)) in
    omega (arith, start, end)

-- the spans that the rows from the first to the last meet are enough for them
pub rows_between : (scale : Scale) (shades : ℕ) (spans : List Span) (band : Band) (first number : ℕ) → 0 < rows_of scale band → 0 < number →
    rows_from scale shades (spans_in (row_at scale band first).low (row_at scale band (first + (number - 1))).high spans)
    band first number ≡ rows_from scale shades spans band first number
rows_between scale shades spans band first number rows some =
    rows_near scale shades spans band (row_at scale band first).low (row_at scale band (first + (number - 1))).high first number rows (omega arith)
    (λ k few. high_least scale band (first + k) (first + (number - 1)) rows (omega (arith, few)))

-- rows are those of one part, and then those of the rest
pub rows_split : (scale : Scale) (shades : ℕ) (spans : List Span) (band : Band) (first one other : ℕ) →
    rows_from scale shades spans band first (one + other) ≡ rows_from scale shades spans band first one ++ rows_from scale shades spans band (first + one) other
rows_split scale shades spans band first one zero =
    let same : one + 0 ≡ one = omega arith in
    ap (rows_from scale shades spans band first) same ∙ sym (append-nil (rows_from scale shades spans band first one))
rows_split scale shades spans band first one (suc other) =
    let more : one + suc other ≡ suc (one + other) = omega arith in
    let place : first + (one + other) ≡ first + one + other = omega arith in
    let last = row_bars scale shades (row_at scale band (first + one + other)) spans in
    ap (rows_from scale shades spans band first) more
    ∙ ap (λ (row : ℕ). rows_from scale shades spans band first (one + other) ++ row_bars scale shades (row_at scale band row) spans) place
    ∙ ap (λ (bars : List Bar). bars ++ last) (rows_split scale shades spans band first one other)
    ∙ append_assoc (rows_from scale shades spans band first one) (rows_from scale shades spans band (first + one) other) last

-- rows that are drawn with the spans that they meet
enough : (scale : Scale) (shades : ℕ) (spans near : List Span) (band : Band) (first number : ℕ) (lowest highest : Row) →
    first + number ≤ rows_of scale band → 0 < number →
    lowest ≡ row_at scale band first → highest ≡ row_at scale band (first + (number - 1)) → near ≡ spans_in lowest.low highest.high spans →
    rows_from scale shades near band first number ≡ rows_from scale shades spans band first number
enough scale shades spans near band first number lowest highest rows some low high is =
    let wide : 0 < rows_of scale band = omega (arith, rows, some) in
    ap (λ (s : List Span). rows_from scale shades s band first number)
    (is ∙ ap (λ (row : Row). spans_in row.low highest.high spans) low ∙ ap (λ (row : Row). spans_in (row_at scale band first).low row.high spans) high)
    ∙ rows_between scale shades spans band first number wide some

-- the text with one row more
pub one_put : (scale : Scale) (shades : ℕ) (spans near : List Span) (band : Band) (first number : ℕ) (lowest highest : Row)
    (old new : List Bar) → first + number ≤ rows_of scale band → number ≡ 1 →
    lowest ≡ row_at scale band first → highest ≡ row_at scale band (first + (number - 1)) → near ≡ spans_in lowest.low highest.high spans →
    new ≡ old ++ row_bars scale shades lowest near → new ≡ old ++ rows_from scale shades spans band first number
one_put scale shades spans near band first number lowest highest old new rows one low high is put =
    let place : first ≡ first + 0 = omega arith in
    put
    ∙ ap (λ (row : Row). old ++ row_bars scale shades row near) low
    ∙ ap (λ (row : ℕ). old ++ row_bars scale shades (row_at scale band row) near) place
    ∙ ap (λ (n : ℕ). old ++ rows_from scale shades near band first n) (sym one)
    ∙ ap (λ (bars : List Bar). old ++ bars) (enough scale shades spans near band first number lowest highest rows (omega (arith, one)) low high is)

-- and with two parts more
pub halves_put : (scale : Scale) (shades : ℕ) (spans near : List Span) (band : Band) (first number half : ℕ)
    (lowest highest : Row) (old middle new : List Bar) → first + number ≤ rows_of scale band → 0 < number → half ≤ number →
    lowest ≡ row_at scale band first → highest ≡ row_at scale band (first + (number - 1)) → near ≡ spans_in lowest.low highest.high spans →
    middle ≡ old ++ rows_from scale shades near band first half → new ≡ middle ++ rows_from scale shades near band (first + half) (number - half) →
    new ≡ old ++ rows_from scale shades spans band first number
halves_put scale shades spans near band first number half lowest highest old middle new rows some less low high is lower upper =
    let all : half + (number - half) ≡ number = omega (arith, less) in
    let one = rows_from scale shades near band first half in
    let other = rows_from scale shades near band (first + half) (number - half) in
    upper
    ∙ ap (λ (bars : List Bar). bars ++ other) lower
    ∙ append_assoc old one other
    ∙ ap (λ (bars : List Bar). old ++ bars) (sym (rows_split scale shades near band first half (number - half))
    ∙ ap (rows_from scale shades near band first) all
    ∙ enough scale shades spans near band first number lowest highest rows some low high is)
