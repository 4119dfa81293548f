-- The owner that a line says is that of each of its pages.
use Rattle.std.proofs.Common.{◌≡◌, ◌<◌, ◌^◌, ℕ, ◌+◌, ◌-◌, ◌*◌, ◌%◌, List, Some, is_some, ◌∙◌, ap, arith}
use Rattle.paging_core.specs.Walk.{Place, reach, large_of}
use Rattle.heap_tables.specs.declared.owners.Owned.{Owned}
use Rattle.heap_tables.specs.Lines.{line_of}
use Rattle.heap_tables.specs.Owners.{owner_of}
use Rattle.heap_tables.specs.Walked.{IsOwned, HaveOneOwner}
use Rattle.heap_tables.proofs.Walks.{HoldsOfMet}

-- a page has its own owner
page_owned : (words : List ℕ) (regions : List Owned) (root number : ℕ) (place : Place) → number < 2 ^ 36 →
    reach words root 4 number ≡ Some place → IsOwned regions (line_of regions 4 (number % 512) number (number + 1) place)
page_owned words regions root number place low met page from to =
    let same : page ≡ number = omega (arith, from, to) in
    ap (owner_of regions) same

-- and those of a large page have that of the first one
large_owned : (words : List ℕ) (regions : List Owned) (root number : ℕ) (large : Place) → HaveOneOwner words regions root →
    number < 2 ^ 27 → large_of words root number ≡ Some large →
    IsOwned regions (line_of regions 3 (number % 512) (512 * number) (512 * number + 512) large)
large_owned words regions root number large one low met page from to =
    let within : page - 512 * number < 512 = omega (arith, from, to) in
    let whole : page ≡ 512 * number + (page - 512 * number) = omega (arith, from) in
    ap (owner_of regions) whole ∙ one number (page - 512 * number) low within (ap is_some met)

pub all_owned : (words : List ℕ) (regions : List Owned) (root : ℕ) → HaveOneOwner words regions root → HoldsOfMet (IsOwned regions) words regions root
all_owned words regions root one = record {
  tables = λ steps index page place other from to. absurd (omega (arith, from, to));
  pages = page_owned words regions root;
  larges = λ number large low met. large_owned words regions root number large one low met;
}
