-- Rows, one below the other, and the frames below them.
use Rattle.std.proofs.Common.{◌≡◌, ◌≤◌, ◌<◌, ℕ, zero, suc, ◌+◌, ◌-◌, ◌*◌, ◌/◌, List, [], ◌∷◌, ◌++◌, length, get_or, take, drop, refl, sym, ◌∙◌, ap, arith, append_assoc, length-append}
use Rattle.std.proofs.lemmas.List.{append-nil, drop_all}
use Rattle.heap_tables.specs.declared.lines.Line.{Line}
use Rattle.heap_tables.specs.declared.uses.Use.{Use}
use Rattle.heap_tables.specs.Rows.{table_row_text}
use Rattle.heap_tables.specs.Tables.{table_rows_text}
use Rattle.heap_tables.specs.Uses.{use_of, uses_of}
use Rattle.std.proofs.Math.Nat.{mul-le-mul_left, mul-div-le}
use Rattle.heap_tables.proofs.Joins.{rest_at}

rows_more : (y : ℕ) (lines : List Line) (i : ℕ) (d : Line) → i < length lines →
    table_rows_text y (drop i lines) ≡ table_row_text y (get_or lines i d) ++ table_rows_text (y + 22) (drop (i + 1) lines)
rows_more y lines i d within = ap (table_rows_text y) (rest_at lines i d within)

-- the text with one row more, and the rest below it
pub rows_put : (y y' : ℕ) (lines : List Line) (i : ℕ) (d : Line) (out new text : List ℕ) → i < length lines → y' ≡ y + 22 →
    new ≡ out ++ table_row_text y (get_or lines i d) →
    out ++ table_rows_text y (drop i lines) ≡ text → new ++ table_rows_text y' (drop (i + 1) lines) ≡ text
rows_put y y' lines i d out new text within below put whole =
    let row = table_row_text y (get_or lines i d) in
    ap (λ (t : List ℕ). t ++ table_rows_text y' (drop (i + 1) lines)) put
    ∙ ap (λ (n : ℕ). (out ++ row) ++ table_rows_text n (drop (i + 1) lines)) below
    ∙ append_assoc out row (table_rows_text (y + 22) (drop (i + 1) lines))
    ∙ ap (λ (t : List ℕ). out ++ t) (sym (rows_more y lines i d within))
    ∙ whole

-- no row is below the last one
pub rows_end : (y : ℕ) (lines : List Line) (i : ℕ) (out text : List ℕ) → length lines ≤ i → out ++ table_rows_text y (drop i lines) ≡ text → out ≡ text
rows_end y lines i out text all is = sym (ap (λ (ls : List Line). out ++ table_rows_text y ls) (drop_all i lines all) ∙ append-nil out) ∙ is

-- no more than there are
pub take_whole : (n : ℕ) (uses : List Use) → length uses ≤ n → take n uses ≡ uses
take_whole zero [] all = refl
take_whole zero (u ∷ us) all = absurd (omega (arith, all))
take_whole (suc n) [] all = refl
take_whole (suc n) (u ∷ us) all = ap (λ (l : List Use). u ∷ l) (take_whole n us (omega (arith, all)))

-- as many uses as frames
pub uses_number : (lines : List Line) (frames : ℕ) → length (uses_of lines frames) ≡ frames
uses_number lines zero = refl
uses_number lines (suc frames) = length-append (uses_of lines frames) (use_of frames lines ∷ []) ∙ (let more = uses_number lines frames in omega (arith, more))

-- each square has a first frame
pub square_within : (of number frames : ℕ) → 1 ≤ of → number < (frames + (of - 1)) / of → of * number < frames
square_within of number frames some less =
    let more : number + 1 ≤ (frames + (of - 1)) / of = omega (arith, less) in
    let whole = mul-le-mul_left of more in
    let fits = mul-div-le (frames + (of - 1)) of in
    omega (arith, whole, fits, some)
