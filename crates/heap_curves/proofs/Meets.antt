-- The greatest of the columns is the greatest of all moments.
use Rattle.std.proofs.Common.{◌≡◌, ℕ, zero, suc, ◌+◌, ◌*◌, ◌/◌, min, max, List, [], ◌∷◌, ◌++◌, length, take, refl, sym, ◌∙◌, ap, arith, add-one}
use Rattle.std.proofs.Math.Nat.{mul_comm}
use Rattle.std.proofs.lemmas.Nat.{le-div}
use Rattle.std.proofs.lemmas.List.{take_all}
use Rattle.heap_history.specs.declared.history.Moment.{Moment}
use Rattle.heap_curves.specs.declared.columns.Counted.{Counted}
use Rattle.heap_curves.specs.declared.columns.Counted.TheVariants.{Live, Heap}
use Rattle.heap_curves.specs.declared.columns.Column.{Column}
use Rattle.heap_curves.specs.Columns.{greatest, columns_number, column_start, moments_in, column_of, first_columns, column_bytes, most_drawn, ColumnsMeetTheMost}
use Rattle.heap_curves.proofs.Greatest.{greatest_split}
use Rattle.heap_curves.proofs.Starts.{start_within, start_grows}

pushed : (counted : Counted) (columns : List Column) (column : Column) →
    most_drawn counted (columns ++ column ∷ []) ≡ max (column_bytes counted column) (most_drawn counted columns)
pushed counted [] column = refl
pushed counted (c ∷ cs) column = let more = pushed counted cs column in omega (arith, more)

drawn_in : (counted : Counted) (moments : List Moment) (column : ℕ) →
    column_bytes counted (column_of moments column) ≡ greatest counted (moments_in moments column)
drawn_in Live moments column = refl
drawn_in Heap moments column = refl

-- the first column begins at the first call
start_first : (calls : ℕ) → column_start calls 0 ≡ 0
start_first calls = let small = start_zero (max 1 (min calls 1024)) in ap (λ (n : ℕ). n / max 1 (min calls 1024)) (none calls) ∙ small
  where
    none : (n : ℕ) → 0 * n ≡ 0
    none n = omega arith

    start_zero : (k : ℕ) → 0 / k ≡ 0
    start_zero k = omega arith

-- and the last one ends at the last
start_last : (calls : ℕ) → column_start calls (columns_number calls) ≡ calls
start_last zero = let most = start_within 0 (min 0 1024) (omega arith) in omega (arith, most)
start_last (suc n) =
    let calls = suc n in
    let k = min calls 1024 in
    let own : max 1 k ≡ k = omega arith in
    let same : calls * max 1 k ≡ k * calls = ap (λ (m : ℕ). calls * m) own ∙ mul_comm calls k in
    let least = le-div calls (k * calls) (max 1 k) (omega arith) (omega (arith, same)) in
    let most = start_within calls k (omega arith) in
    omega (arith, least, most)

first_most : (counted : Counted) (moments : List Moment) (number : ℕ) →
    most_drawn counted (first_columns moments number) ≡ greatest counted
    (take (column_start (length moments) number) moments)
first_most counted moments zero = ap (λ (n : ℕ). greatest counted (take n moments)) (sym (start_first (length moments)))
first_most counted moments (suc number) =
    let calls = length moments in
    pushed counted (first_columns moments number) (column_of moments number)
    ∙ ap (λ (n : ℕ). max n (most_drawn counted (first_columns moments number))) (drawn_in counted moments number)
    ∙ ap (λ (n : ℕ). max (greatest counted (moments_in moments number)) n) (first_most counted moments number)
    ∙ sym (greatest_split counted moments (column_start calls number) (column_start calls (number + 1)) (start_grows calls number))
    ∙ ap (λ (n : ℕ). greatest counted (take (column_start calls n) moments)) (add-one number)

pub columns_meet : ColumnsMeetTheMost
columns_meet counted moments =
    first_most counted moments (columns_number (length moments))
    ∙ ap (λ (n : ℕ). greatest counted (take n moments)) (start_last (length moments))
    ∙ ap (greatest counted) (take_all (length moments) moments (omega arith))
