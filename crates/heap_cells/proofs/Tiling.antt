-- The rows of a band, one above the other.
use Rattle.std.proofs.Common.{◌≡◌, ◌≤◌, ◌<◌, ℕ, ◌+◌, ◌-◌, ◌*◌, ◌/◌, ◌∙◌, ap, arith}
use Rattle.std.proofs.lemmas.Nat.{div_below, le-div}
use Rattle.std.proofs.Math.Nat.{div-mul-le_self, mul-div_cancel_left}
use Rattle.heap_history.specs.declared.band.Band.{Band}
use Rattle.heap_cells.specs.declared.scale.Scale.{Scale}
use Rattle.heap_cells.specs.Rows.{rows_of, row_start, RowsAreTheBand}

starts_apart : (scale : Scale) (band : Band) (row : ℕ) → 0 < rows_of scale band → rows_of scale band ≤ band.high - band.low →
    row_start scale band row + 1 ≤ row_start scale band (row + 1)
starts_apart scale band row some enough =
    let rows = rows_of scale band in
    let bytes = band.high - band.low in
    let whole = div-mul-le_self (row * bytes) rows in
    let more = le-div (row * bytes / rows + 1) ((row + 1) * bytes) rows some (omega (arith, whole, enough)) in
    omega (arith, more)

first_start : (scale : Scale) (band : Band) → 0 < rows_of scale band → row_start scale band 0 ≡ band.low
first_start scale band some =
    let none = div_below (0 * (band.high - band.low)) (rows_of scale band) 1 some (omega (arith, some)) in
    omega (arith, none)

last_start : (scale : Scale) (band : Band) (row : ℕ) → 0 < rows_of scale band → rows_of scale band ≤ band.high - band.low →
    row ≡ rows_of scale band → row_start scale band row ≡ band.high
last_start scale band row some enough last =
    let all = mul-div_cancel_left (band.high - band.low) some in
    ap (row_start scale band) last ∙ omega (arith, all, enough, some)

pub tiling : RowsAreTheBand
tiling scale band some enough = record {
  first = first_start scale band some;
  next = λ row. (let apart = starts_apart scale band row some enough in omega (arith, apart));
  last = (let apart = starts_apart scale band (rows_of scale band - 1) some enough in
      let end = last_start scale band (rows_of scale band - 1 + 1) some enough (omega (arith, some)) in
      omega (arith, apart, end));
}
