-- What lines say is what walks find.
use Rattle.std.proofs.Common.{◌≡◌, ◌<◌, ◌≤◌, ℕ, zero, suc, ◌+◌, ◌-◌, ◌*◌, ◌/◌, ◌%◌, ◌^◌, List, [], ◌∷◌, ◌++◌, Option, Some, None, ◌∙◌, ap, subst, arith}
use Rattle.std.specs.List.{AllByRecursion}
use Rattle.paging_core.specs.Walk.{Place, step, large_step, large_from, large_of, next_from, reach, walk_of, place_with}
use Rattle.paging_core.specs.PageBits.{bits_at}
use Rattle.paging_core.proofs.Reach.{reach_suc, reach_last, reach_in, large_is}
use Rattle.heap_tables.specs.declared.lines.Line.{Line}
use Rattle.heap_tables.specs.declared.owners.Owned.{Owned}
use Rattle.heap_tables.specs.Lines.{line_of, large_lines, lines_below, large_entry_of, entry_lines, entries_lines, lowest_page_below, lines_under}
use Rattle.heap_tables.specs.Walked.{IsWalked}

-- an entry of a table that is met leads where the walk goes on
pub step_met : (words : List ℕ) (root l number index : ℕ) (table : Place) → l ≤ 3 → index < 512 → reach words root (3 - l) number ≡ Some table →
    reach words root (4 - l) (512 * number + index) ≡ step words (3 - l) table index
step_met words root zero number index table low within met =
    let q : (512 * number + index) / 512 ≡ number = omega arith in
    let r : (512 * number + index) % 512 ≡ index = omega arith in
    reach_last words root (512 * number + index) table (ap (reach words root 3) q ∙ met) ∙ ap (step words 3 table) r
step_met words root (suc zero) number index table low within met =
    let q : (512 * number + index) / 512 ≡ number = omega arith in
    let r : (512 * number + index) % 512 ≡ index = omega arith in
    reach_suc words root 2 (512 * number + index) (omega arith)
    ∙ ap (λ (o : Option Place). next_from words 2 o ((512 * number + index) % 512)) (ap (reach words root 2) q ∙ met)
    ∙ ap (step words 2 table) r
step_met words root (suc (suc zero)) number index table low within met =
    let q : (512 * number + index) / 512 ≡ number = omega arith in
    let r : (512 * number + index) % 512 ≡ index = omega arith in
    reach_suc words root 1 (512 * number + index) (omega arith)
    ∙ ap (λ (o : Option Place). next_from words 1 o ((512 * number + index) % 512)) (ap (reach words root 1) q ∙ met)
    ∙ ap (step words 1 table) r
step_met words root (suc (suc (suc zero))) number index table low within met =
    let q : (512 * number + index) / 512 ≡ number = omega arith in
    let r : (512 * number + index) % 512 ≡ index = omega arith in
    reach_suc words root 0 (512 * number + index) (omega arith)
    ∙ ap (λ (o : Option Place). next_from words 0 o ((512 * number + index) % 512)) (ap (reach words root 0) q ∙ met)
    ∙ ap (step words 0 table) r
step_met words root (suc (suc (suc (suc l)))) number index table low within met = absurd (omega arith)

-- and one of the third table maps the large page that the walk finds
pub large_met : (words : List ℕ) (root number index : ℕ) (table : Place) → index < 512 → reach words root 2 number ≡ Some table →
    large_of words root (512 * number + index) ≡ large_step words table index
large_met words root number index table within met =
    let q : (512 * number + index) / 512 ≡ number = omega arith in
    let r : (512 * number + index) % 512 ≡ index = omega arith in
    large_is words root (512 * number + index)
    ∙ ap (λ (o : Option Place). large_from words o ((512 * number + index) % 512)) (ap (reach words root 2) q ∙ met)
    ∙ ap (large_step words table) r

pub all_both : {X : Type 0} (P : X → Type 0) (xs ys : List X) → AllByRecursion P xs → AllByRecursion P ys → AllByRecursion P (xs ++ ys)
all_both P [] ys front back = back
all_both P (x ∷ xs) ys front back = (front.0, all_both P xs ys front.1 back)

-- what holds of what each entry leads to holds of all
pub entries_all : (P : Line → Type 0) (words : List ℕ) (regions : List Owned) (below : ℕ → Place → List Line) (level number : ℕ) (table : Place) (count : ℕ) →
    ((index : ℕ) → index < count → AllByRecursion P (entry_lines words regions below level number table index)) →
    AllByRecursion P (entries_lines words regions below level number table count)
entries_all P words regions below level number table zero each = tt
entries_all P words regions below level number table (suc count) each =
    all_both P (entries_lines words regions below level number table count) (entry_lines words regions below level number table count)
    (entries_all P words regions below level number table count (λ index less. each index (omega (arith, less)))) (each count (omega arith))

-- the lines that a walk from a root can meet: those of tables, of pages, and of large pages
pub record HoldsOfMet (P : Line → Type 0) (words : List ℕ) (regions : List Owned) (root : ℕ) : Type 0 where
  pub tables : (steps index page : ℕ) (place : Place) → P (line_of regions steps index page page place)
  pub pages : (number : ℕ) (place : Place) → number < 2 ^ 36 → reach words root 4 number ≡ Some place →
      P (line_of regions 4 (number % 512) number (number + 1) place)
  pub larges : (number : ℕ) (large : Place) → number < 2 ^ 27 → large_of words root number ≡ Some large →
      P (line_of regions 3 (number % 512) (512 * number) (512 * number + 512) large)

larges_hold : (P : Line → Type 0) (words : List ℕ) (regions : List Owned) (root number : ℕ) (o : Option Place) →
    HoldsOfMet P words regions root → number < 2 ^ 27 → large_of words root number ≡ o →
    AllByRecursion P (large_lines regions number o)
larges_hold P words regions root number None holds low met = tt
larges_hold P words regions root number (Some large) holds low met = (holds.larges number large low met, tt)

-- the large page that an entry maps, if its table is one of the third step
entry_large : (P : Line → Type 0) (words : List ℕ) (regions : List Owned) (root l number index : ℕ) (table : Place) →
    HoldsOfMet P words regions root → l ≤ 3 → index < 512 → number < 512 ^ (3 - l) →
    reach words root (3 - l) number ≡ Some table → AllByRecursion P (large_lines regions (512 * number + index) (large_entry_of words (3 - l) table index))
entry_large P words regions root zero number index table holds low within few met = tt
entry_large P words regions root (suc zero) number index table holds low within few met =
    larges_hold P words regions root (512 * number + index) (large_step words table index) holds
    (omega (arith, within, few)) (large_met words root number index table within met)
entry_large P words regions root (suc (suc zero)) number index table holds low within few met = tt
entry_large P words regions root (suc (suc (suc zero))) number index table holds low within few met = tt
entry_large P words regions root (suc (suc (suc (suc l)))) number index table holds low within few met = absurd (omega arith)

pub few_more : (l number index : ℕ) → l ≤ 3 → index < 512 → number < 512 ^ (3 - l) → 512 * number + index < 512 ^ (4 - l)
few_more zero number index low within few = omega (arith, within, few)
few_more (suc zero) number index low within few = omega (arith, within, few)
few_more (suc (suc zero)) number index low within few = omega (arith, within, few)
few_more (suc (suc (suc zero))) number index low within few = omega (arith, within, few)
few_more (suc (suc (suc (suc l)))) number index low within few = absurd (omega (arith, low))

below_hold : (P : Line → Type 0) (words : List ℕ) (regions : List Owned) (root l number : ℕ) (o : Option Place) → reach words root (4 - l) number ≡ o →
    ((place : Place) → reach words root (4 - l) number ≡ Some place → AllByRecursion P (lines_under words regions l number place)) →
    AllByRecursion P (lines_below (lines_under words regions l) number o)
below_hold P words regions root l number None met each = tt
below_hold P words regions root l number (Some place) met each = each place met

-- what holds of the lines that a walk can meet holds of all that is below a place that is met
pub under_hold : (P : Line → Type 0) (words : List ℕ) (regions : List Owned) (root left number : ℕ) (place : Place) →
    HoldsOfMet P words regions root → left ≤ 4 → number < 512 ^ (4 - left) →
    reach words root (4 - left) number ≡ Some place → AllByRecursion P (lines_under words regions left number place)
unfolding lines_under
under_hold P words regions root zero number place holds low few met = (holds.pages number place (omega (arith, few)) met, tt)
under_hold P words regions root (suc left) number place holds low few met =
    let e : 4 - suc left ≡ 3 - left = omega arith in
    let few' = subst (λ (n : ℕ). number < 512 ^ n) e few in
    let met' = subst (λ (n : ℕ). reach words root n number ≡ Some place) e met in (
      holds.tables (3 - left) (number % 512) (lowest_page_below (suc left) number) place,
      entries_all P words regions (lines_under words regions left) (3 - left) number place 512 (λ index within.
          all_both P (large_lines regions (512 * number + index) (large_entry_of words (3 - left) place index))
          (lines_below (lines_under words regions left) (512 * number + index) (step words (3 - left) place index))
          (entry_large P words regions root left number index place holds (omega (arith, low)) within few' met')
          (below_hold P words regions root left (512 * number + index) (step words (3 - left) place index)
          (step_met words root left number index place (omega (arith, low)) within met')
          (λ next arrived. under_hold P words regions root left (512 * number + index) next holds (omega (arith, low))
          (few_more left number index (omega (arith, low)) within few') arrived))),
    )

-- the walk of a page, by its low 36 bits
pub walk_low : (words : List ℕ) (root page : ℕ) → page < 2 ^ 36 → walk_of words root page ≡ reach words root 4 page
unfolding walk_of
walk_low words root page low = ap (reach words root 4) (let e : page % 2 ^ 36 ≡ page = omega (arith, low) in e)

-- a page that is met is where its line says
page_walked : (words : List ℕ) (regions : List Owned) (root number : ℕ) (place : Place) → number < 2 ^ 36 →
    reach words root 4 number ≡ Some place → IsWalked words root (line_of regions 4 (number % 512) number (number + 1)
    place)
page_walked words regions root number place low met page from to =
    let same : page ≡ number = omega (arith, from, to) in
    let here : place.frame ≡ place.frame + (page - number) = omega (arith, from, to) in
    walk_low words root page (omega (arith, same, low))
    ∙ ap (reach words root 4) same
    ∙ met
    ∙ ap (λ (f : ℕ). Some (place_with f (bits_at place))) here

-- and so is each page of a large page
large_walked : (words : List ℕ) (regions : List Owned) (root number : ℕ) (large : Place) → number < 2 ^ 27 → large_of words root number ≡ Some large →
    IsWalked words root (line_of regions 3 (number % 512) (512 * number) (512 * number + 512) large)
large_walked words regions root number large low met page from to =
    let q : page / 512 ≡ number = omega (arith, from, to) in
    let r : page % 512 ≡ page - 512 * number = omega (arith, from, to) in
    walk_low words root page (omega (arith, to, low))
    ∙ reach_in words root page large (ap (large_of words root) q ∙ met)
    ∙ ap (λ (k : ℕ). Some (place_with (large.frame + k) (bits_at large))) r

pub all_walked : (words : List ℕ) (regions : List Owned) (root : ℕ) → HoldsOfMet (IsWalked words root) words regions root
all_walked words regions root = record {
  tables = λ steps index page place other from to. absurd (omega (arith, from, to));
  pages = page_walked words regions root;
  larges = large_walked words regions root;
}
