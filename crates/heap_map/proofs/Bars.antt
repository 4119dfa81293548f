-- Cells and bars, one behind the other.
use Rattle.std.proofs.Common.{◌≡◌, ◌≤◌, ◌<◌, ℕ, zero, suc, ◌+◌, ◌-◌, ◌*◌, Bool, true, false, List, ◌++◌, refl, sym, ◌∙◌, ap, arith, append_assoc}
use Rattle.std.specs.Prelude.{if◌then◌else◌}
use Rattle.heap_map.specs.declared.pieces.Piece.{Piece}
use Rattle.heap_map.specs.declared.cells.Cell.{Cell}
use Rattle.heap_map.specs.Cells.{drawn_cell, look_same, run_text, row_cells, runs_from, row_cells_text}

cells_number : row_cells ≡ 512
unfolding row_cells
cells_number = refl

-- how the cells go on at the next
pub runs_step : (cell base y : ℕ) (line : List Piece) (start next : ℕ) (same : Cell) → next < 512 →
    runs_from cell base y line start next same (row_cells - next) ≡ (if look_same same
    (drawn_cell cell (base + cell * next) line) then runs_from cell base y line start (next + 1) same
    (row_cells - (next + 1))
    else run_text y start next same ++ runs_from cell base y line next (next + 1) (drawn_cell cell (base + cell * next) line) (row_cells - (next + 1)))
runs_step cell base y line start next same few =
    let left : row_cells - next ≡ suc (row_cells - (next + 1)) = omega (arith, few, cells_number) in
    ap (runs_from cell base y line start next same) left

-- and none is left behind the last
pub runs_last : (cell base y : ℕ) (line : List Piece) (start next : ℕ) (same : Cell) → 512 ≤ next →
    runs_from cell base y line start next same (row_cells - next) ≡ run_text y start next same
runs_last cell base y line start next same all =
    let left : row_cells - next ≡ zero = omega (arith, all, cells_number) in
    ap (runs_from cell base y line start next same) left

-- the first begins the row
pub runs_begin : (cell base y : ℕ) (line : List Piece) (same : Cell) → same ≡ drawn_cell cell base line →
    runs_from cell base y line 0 1 same (row_cells - 1) ≡ row_cells_text cell base y line
unfolding row_cells_text
runs_begin cell base y line same is = ap (λ (s : Cell). runs_from cell base y line 0 1 s (row_cells - 1)) is

-- one cell more that looks the same
pub runs_same : (cell base y : ℕ) (line : List Piece) (start next start' : ℕ) (same one same' : Cell)
    (old out text : List ℕ) → next < 512 → one ≡ drawn_cell cell (base + cell * next) line → look_same same one ≡ true →
    out ≡ old → start' ≡ start → same' ≡ same → old ++ runs_from cell base y line start next same (row_cells - next) ≡ text →
    out ++ runs_from cell base y line start' (next + 1) same' (row_cells - (next + 1)) ≡ text
runs_same cell base y line start next start' same one same' old out text few is agrees out_is start_is same_is whole =
    let left = row_cells - (next + 1) in
    let here = drawn_cell cell (base + cell * next) line in
    let alike : look_same same here ≡ true = ap (λ (s : Cell). look_same same s) (sym is) ∙ agrees in
    let on = runs_from cell base y line start (next + 1) same left in
    let other = run_text y start next same ++ runs_from cell base y line next (next + 1) here left in
    ap (λ (t : List ℕ). t ++ runs_from cell base y line start' (next + 1) same' left) out_is
    ∙ ap (λ (k : ℕ). old ++ runs_from cell base y line k (next + 1) same' left) start_is
    ∙ ap (λ (s : Cell). old ++ runs_from cell base y line start (next + 1) s left) same_is
    ∙ ap (λ (t : List ℕ). old ++ t) (sym (runs_step cell base y line start next same few ∙ ap (λ (b : Bool). if b then on else other) alike))
    ∙ whole

-- one that looks other
pub runs_other : (cell base y : ℕ) (line : List Piece) (start next start' : ℕ) (same one same' : Cell)
    (old new out text : List ℕ) → next < 512 → one ≡ drawn_cell cell (base + cell * next) line →
    look_same same one ≡ false →
    new ≡ old ++ run_text y start next same → out ≡ new → start' ≡ next → same' ≡ one →
    old ++ runs_from cell base y line start next same (row_cells - next) ≡ text →
    out ++ runs_from cell base y line start' (next + 1) same' (row_cells - (next + 1)) ≡ text
runs_other cell base y line start next start' same one same' old new out text few is differs put out_is start_is same_is whole =
    let left = row_cells - (next + 1) in
    let here = drawn_cell cell (base + cell * next) line in
    let other : look_same same here ≡ false = ap (λ (s : Cell). look_same same s) (sym is) ∙ differs in
    let on = runs_from cell base y line start (next + 1) same left in
    let run = run_text y start next same in
    let rest = runs_from cell base y line next (next + 1) here left in
    ap (λ (t : List ℕ). t ++ runs_from cell base y line start' (next + 1) same' left) (out_is ∙ put)
    ∙ ap (λ (k : ℕ). (old ++ run) ++ runs_from cell base y line k (next + 1) same' left) start_is
    ∙ ap (λ (s : Cell). (old ++ run) ++ runs_from cell base y line next (next + 1) s left) (same_is ∙ is)
    ∙ append_assoc old run rest
    ∙ ap (λ (t : List ℕ). old ++ t) (sym (runs_step cell base y line start next same few ∙ ap (λ (b : Bool). if b then on else run ++ rest) other))
    ∙ whole
