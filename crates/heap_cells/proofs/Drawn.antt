-- The bars of a row give each cell its shade.
use Rattle.std.proofs.Common.{◌≡◌, ◌≤◌, ◌<◌, ℕ, suc, ◌+◌, ◌-◌, ◌*◌, ◌&&◌, nat_eq, nat_le, nat_lt, Bool, true, false, List, [], ◌∷◌, ◌++◌, get_or, inl, inr, refl, sym, ◌∙◌, ap, subst, arith}
use Rattle.std.specs.Prelude.{if◌then◌else◌}
use Rattle.std.proofs.lemmas.Bool.{cases_lt}
use Rattle.std.proofs.lemmas.Bool.Decides.{nat_tests}
use Rattle.std.proofs.lemmas.List.{append-nil}
use Rattle.std.proofs.lemmas.List.Sums.{sum_by-append}
use Rattle.std.proofs.Math.Nat.{mul-le-mul_left}
use Rattle.heap_cells.specs.declared.bars.Bar.{Bar}
use Rattle.heap_cells.specs.Bars.{bar_of, bars_from, shade_at, IsLeftOf, AreBarsApart, BarsAreCells}

-- whether a pixel of a column is in the pixels of columns is whether the column is one of them
same_tests : (first pixel width start column next shade : ℕ) → (start ≤ column → first ≤ pixel) →
    (column < start → pixel < first) → (column < next → pixel < first + width) → (next ≤ column → first + width ≤ pixel) →
    (if nat_le first pixel && nat_lt pixel (first + width) then shade else 0) ≡ (if nat_le start column && nat_lt column next then shade else 0)
same_tests first pixel width start column next shade from before within after =
    elim (cases_lt column start) [
      | inl left ↦ (let none = before left in grind (arith, nat_tests))
      | inr right ↦ (let some = from right in elim (cases_lt column next) [
        | inl inside ↦ (let covered = within inside in grind (arith, nat_tests))
        | inr outside ↦ (let passed = after outside in grind (arith, nat_tests))
      ])
    ]

scaled_up : (side a b : ℕ) → a ≤ b → side * a ≤ side * b
scaled_up side a b less = mul-le-mul_left side less

scaled_more : (side a b : ℕ) → 0 < side → a < b → side * a < side * b
scaled_more side a b some less =
    let up : a + 1 ≤ b = omega (arith, less) in
    let more : side * (a + 1) ≤ side * b = mul-le-mul_left side up in
    omega (arith, more, some)

bar_covers : (side start column next shade : ℕ) → 0 < side → start ≤ next →
    (if nat_le (144 + side * start) (144 + side * column) && nat_lt (144 + side * column)
    (144 + side * start + side * (next - start)) then shade else 0) ≡ (if nat_le start column && nat_lt column next
    then shade else 0)
bar_covers side start column next shade some order =
    let span : next ≡ start + (next - start) = omega (arith, order) in
    let wide = ap (λ (n : ℕ). side * n) span in
    same_tests (144 + side * start) (144 + side * column) (side * (next - start)) start column next shade
    (λ from. (let less = scaled_up side start column from in omega (arith, less)))
    (λ before. (let less = scaled_more side column start some before in omega (arith, less)))
    (λ within. (let less = scaled_more side column next some within in omega (arith, less, wide)))
    (λ after. (let less = scaled_up side next column after in omega (arith, less, wide)))

no_shade : (b : Bool) (shade : ℕ) → shade ≡ 0 → 0 ≡ (if b then shade else 0)
no_shade true shade none = sym none
no_shade false shade none = refl

-- the shade that the cells from one to another give a column
bar_at : (side y start next shade column : ℕ) → 0 < side → start ≤ next →
    shade_at (144 + side * column) (bar_of side y start next shade) ≡ (if nat_le start column && nat_lt column next then shade else 0)
bar_at side y start next shade column some order = go (nat_eq shade 0) refl
  where
    go : (b : Bool) → nat_eq shade 0 ≡ b →
        shade_at (144 + side * column) (if b then [] else record {
          x = 144 + side * start;
          y = y;
          width =
              side * (next - start);
          shade = shade;
        } ∷ []) ≡ (if nat_le start column && nat_lt column next then shade else 0)
    go true none = no_shade (nat_le start column && nat_lt column next) shade (grind (arith, nat_tests, none))
    go false none = let covers = bar_covers side start column next shade some order in omega (arith, covers)

-- the shade of a column, if the cells from one to another have a shade, and the rest follows
abbrev told : ℕ → ℕ → ℕ → List ℕ → ℕ → ℕ
told start next shade rest column = if nat_lt column start then 0 else if nat_lt column next then shade else get_or rest (column - next) 0

one_more : (next one column : ℕ) (rest : List ℕ) → next ≤ column → get_or (one ∷ rest) (column - next)
    0 ≡ (if nat_lt column (next + 1) then one else get_or rest (column - (next + 1)) 0)
one_more next one column rest after =
    elim (cases_lt column (next + 1)) [
      | inl here ↦ (let none : column - next ≡ 0 = omega (arith, here, after) in
          ap (λ (n : ℕ). get_or (one ∷ rest) n 0) none ∙ grind (arith, nat_tests, here))
      | inr beyond ↦ (let more : column - next ≡ suc (column - (next + 1)) = omega (arith, beyond) in
          ap (λ (n : ℕ). get_or (one ∷ rest) n 0) more ∙ grind (arith, nat_tests, beyond))
    ]

told_same : (start next shade one column : ℕ) (rest : List ℕ) → start ≤ next → one ≡ shade →
    told start (next + 1) shade rest column ≡ told start next shade (one ∷ rest) column
told_same start next shade one column rest order same =
    elim (cases_lt column next) [
      | inl left ↦ grind (arith, nat_tests, left)
      | inr right ↦ (let more = one_more next one column rest right in grind (arith, nat_tests, right, more, same, order))
    ]

told_other : (start next shade one column : ℕ) (rest : List ℕ) → start ≤ next →
    (if nat_le start column && nat_lt column next then shade else 0) + told next (next + 1) one rest column ≡ told start next shade (one ∷ rest) column
told_other start next shade one column rest order =
    elim (cases_lt column next) [
      | inl left ↦ grind (arith, nat_tests, left, order)
      | inr right ↦ (let more = one_more next one column rest right in grind (arith, nat_tests, right, more, order))
    ]

told_last : (start next shade column : ℕ) → (if nat_le start column && nat_lt column next then shade else 0) ≡ told start next shade [] column
told_last start next shade column = grind (arith, nat_tests)

from_at : (side y start next shade column : ℕ) (rest : List ℕ) → 0 < side → start ≤ next →
    shade_at (144 + side * column) (bars_from side y start next shade rest) ≡ told start next shade rest column
from_at side y start next shade column [] some order = bar_at side y start next shade column some order ∙ told_last start next shade column
from_at side y start next shade column (one ∷ rest) some order =
    go (nat_eq one shade) refl (from_at side y start (next + 1) shade column rest some (omega (arith, order)))
    (from_at side y next (next + 1) one column rest some (omega arith))
  where
    go : (b : Bool) → nat_eq one shade ≡ b → shade_at (144 + side * column)
        (bars_from side y start (next + 1) shade rest) ≡ told start (next + 1) shade rest column →
        shade_at (144 + side * column) (bars_from side y next (next + 1) one rest) ≡ told next (next + 1) one rest column →
        shade_at (144 + side * column) (if b then bars_from side y start (next + 1) shade rest else bar_of side y start next
        shade ++ bars_from side y next (next + 1) one rest) ≡ told start next shade (one ∷ rest) column
    go true is on other = on ∙ told_same start next shade one column rest order (grind (arith, nat_tests, is))
    go false is on other =
        let joined = sum_by-append (λ (bar : Bar). if nat_le bar.x (144 + side * column) && nat_lt (144 + side * column)
        (bar.x + bar.width) then bar.shade else 0) (bar_of side y start next shade)
        (bars_from side y next (next + 1) one rest) in
        let here = bar_at side y start next shade column some order in
        let whole = told_other start next shade one column rest order in
        omega (arith, joined, here, other, whole)

told_first : (shades : List ℕ) (column : ℕ) → told 0 0 0 shades column ≡ get_or shades column 0
told_first shades column =
    let same : column - 0 ≡ column = omega arith in
    let place = ap (λ (n : ℕ). get_or shades n 0) same in
    grind (arith, nat_tests, place)

-- the first bar begins with the cells from one on, and then has their shade, or right of them
abbrev Begins : ℕ → ℕ → ℕ → List Bar → Type 0
Begins side start shade [] = Unit {0}
Begins side start shade (bar ∷ bars) = (144 + side * start ≤ bar.x) × (bar.x ≡ 144 + side * start → bar.shade ≡ shade)

begins_later : (side start next shade one : ℕ) (bars : List Bar) → 0 < side → start < next → Begins side next one bars → Begins side start shade bars
begins_later side start next shade one [] some less after = tt
begins_later side start next shade one (bar ∷ bars) some less after =
    let more = scaled_more side start next some less in
    let place = after.0 in
    (omega (arith, more, place), λ same. absurd (omega (arith, more, place, same)))

begins_bar : (side y start next shade : ℕ) (bars : List Bar) → 0 < side → start < next → Begins side start shade bars →
    Begins side start shade (bar_of side y start next shade ++ bars)
begins_bar side y start next shade bars some less after = go (nat_eq shade 0)
  where
    go : (b : Bool) → Begins side start shade ((if b then [] else record {
      x = 144 + side * start;
      y = y;
      width =
          side * (next - start);
      shade = shade;
    } ∷ []) ++ bars)
    go true = after
    go false = (omega arith, λ same. refl)

begins : (side y start next shade : ℕ) (rest : List ℕ) → 0 < side → start < next → Begins side start shade (bars_from side y start next shade rest)
begins side y start next shade [] some less =
    subst (Begins side start shade) (append-nil (bar_of side y start next shade)) (begins_bar side y start next shade [] some less tt)
begins side y start next shade (one ∷ rest) some less =
    go (nat_eq one shade) (begins side y start (next + 1) shade rest some (omega (arith, less))) (begins side y next (next + 1) one rest some (omega arith))
  where
    go : (b : Bool) → Begins side start shade (bars_from side y start (next + 1) shade rest) →
        Begins side next one (bars_from side y next (next + 1) one rest) →
        Begins side start shade (if b then bars_from side y start (next + 1) shade rest else bar_of side y start next
        shade ++ bars_from side y next (next + 1) one rest)
    go true on other = on
    go false on other = begins_bar side y start next shade (bars_from side y next (next + 1) one rest) some less
        (begins_later side start next shade one (bars_from side y next (next + 1) one rest) some less other)

left_of : (side y start next shade one : ℕ) (bars : List Bar) → start ≤ next → (one ≡ shade → ⊥) → Begins side next one bars →
    IsLeftOf (record { x = 144 + side * start; y = y; width = side * (next - start); shade = shade }) bars
left_of side y start next shade one [] order differs after = tt
left_of side y start next shade one (bar ∷ bars) order differs after =
    let span : next ≡ start + (next - start) = omega (arith, order) in
    let wide = ap (λ (n : ℕ). side * n) span in
    let place = after.0 in
    (omega (arith, wide, place), λ touches same. differs (sym (after.1 (omega (arith, wide, touches))) ∙ sym same))

apart_bar : (side y start next shade one : ℕ) (bars : List Bar) → start ≤ next → (one ≡ shade → ⊥) →
    Begins side next one bars → AreBarsApart bars → AreBarsApart (bar_of side y start next shade ++ bars)
apart_bar side y start next shade one bars order differs after rest = go (nat_eq shade 0)
  where
    go : (b : Bool) → AreBarsApart ((if b then [] else record { x = 144 + side * start; y = y; width = side * (next - start); shade = shade } ∷ []) ++ bars)
    go true = rest
    go false = (left_of side y start next shade one bars order differs after, rest)

last_apart : (side y start next shade : ℕ) → AreBarsApart (bar_of side y start next shade)
last_apart side y start next shade = go (nat_eq shade 0)
  where
    go : (b : Bool) → AreBarsApart (if b then [] else record { x = 144 + side * start; y = y; width = side * (next - start); shade = shade } ∷ [])
    go true = tt
    go false = (tt, tt)

apart : (side y start next shade : ℕ) (rest : List ℕ) → 0 < side → start ≤ next → AreBarsApart (bars_from side y start next shade rest)
apart side y start next shade [] some order = last_apart side y start next shade
apart side y start next shade (one ∷ rest) some order =
    go (nat_eq one shade) refl (apart side y start (next + 1) shade rest some (omega (arith, order))) (apart side y next (next + 1) one rest some (omega arith))
  where
    go : (b : Bool) → nat_eq one shade ≡ b → AreBarsApart (bars_from side y start (next + 1) shade rest) →
        AreBarsApart (bars_from side y next (next + 1) one rest) →
        AreBarsApart (if b then bars_from side y start (next + 1) shade rest else bar_of side y start next shade ++ bars_from side y next (next + 1) one rest)
    go true is on other = on
    go false is on other =
        apart_bar side y start next shade one (bars_from side y next (next + 1) one rest) order
        (λ same. grind (arith, nat_tests, is, same)) (begins side y next (next + 1) one rest some (omega arith)) other

pub drawn : BarsAreCells
drawn side y shades some = record {
  each = λ column. from_at side y 0 0 0 column shades some (omega arith) ∙ told_first shades column;
  apart = apart side y 0 0 0 shades some (omega arith);
}
