-- A place, and what is below it.
use Rattle.std.proofs.Common.{◌≡◌, ◌≤◌, ℕ, zero, suc, ◌+◌, ◌-◌, ◌%◌, List, [], ◌∷◌, refl, ◌∙◌, ap, arith}
use Rattle.paging_core.specs.Walk.{Place}
use Rattle.heap_tables.specs.declared.owners.Owned.{Owned}
use Rattle.heap_tables.specs.Lines.{line_of, lowest_page_below, entries_lines, lines_under}

-- a page
pub under_page : (words : List ℕ) (regions : List Owned) (number : ℕ) (place : Place) →
    lines_under words regions 0 number place ≡ line_of regions 4 (number % 512) number (number + 1) place ∷ []
unfolding lines_under
under_page words regions number place = refl

-- a table, and what its entries lead to
pub under_table : (words : List ℕ) (regions : List Owned) (left number : ℕ) (place : Place) → 1 ≤ left →
    lines_under words regions left number place ≡ line_of regions (4 - left) (number % 512) (lowest_page_below left number)
    (lowest_page_below left number) place ∷ entries_lines words regions (lines_under words regions (left - 1)) (4 - left)
    number place 512
unfolding lines_under
under_table words regions zero number place some = absurd (omega (arith, some))
under_table words regions (suc left) number place some =
    let more : 3 - left ≡ 4 - suc left = omega arith in
    let less : left ≡ suc left - 1 = omega arith in
    let first = lowest_page_below (suc left) number in
    ap (λ (n : ℕ). line_of regions n (number % 512) first first place ∷ entries_lines words regions (lines_under words regions left) n number place 512) more
    ∙ ap (λ (m : ℕ). line_of regions (4 - suc left) (number % 512) first first place ∷ entries_lines words regions
    (lines_under words regions m) (4 - suc left) number place 512) less
