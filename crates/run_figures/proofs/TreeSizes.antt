-- A size is of one tree bin alone.
use Rattle.std.proofs.Common.{◌≡◌, ◌≢◌, ℕ, zero, suc, ◌+◌, ◌-◌, ◌*◌, ◌/◌, ◌%◌, ◌^◌, ◌<◌, ◌≤◌, inl, inr, true, false, ap, ◌∙◌, arith}
use Rattle.std.proofs.lemmas.Bool.Decides.{nat_tests}
use Rattle.std.proofs.lemmas.Nat.{pow-add}
use Rattle.std.proofs.lemmas.Bool.{cases_lt}
use Rattle.dlmalloc_chunks.specs.Bins.{least_size, IsTreeIndex}
use Rattle.run_figures.specs.Classes.{is_tree_size}

-- the least sizes ascend
rising : (i : ℕ) → least_size i ≤ least_size (i + 1)
rising i =
    let double : 2 ^ (i / 2 + 1 + 7) ≡ 2 ^ (i / 2 + 7) * 2 ^ 1 = ap (λ n. 2 ^ n) (omega arith) ∙ pow-add 2 (i / 2 + 7) 1 in
    elim (cases_lt (i % 2) 1) [
      | inl even ↦ (let one : (i + 1) % 2 ≡ 1 = omega arith in let same : (i + 1) / 2 ≡ i / 2 = omega arith in
          rw (one, same) (let none : i % 2 ≡ 0 = omega (arith, even) in rw none (omega arith)))
      | inr odd ↦ (let none : (i + 1) % 2 ≡ 0 = omega (arith, odd) in let next : (i + 1) / 2 ≡ i / 2 + 1 = omega (arith, odd) in
          rw (none, next) (let one : i % 2 ≡ 1 = omega (arith, odd) in rw one (omega (arith, double))))
    ]

pub ascending : (i n : ℕ) → least_size i ≤ least_size (i + n)
ascending i zero = ap-le i
  where
    ap-le : (i : ℕ) → least_size i ≤ least_size (i + 0)
    ap-le i = let same : least_size (i + 0) ≡ least_size i = ap least_size (omega arith) in omega (arith, same)
ascending i (suc n) =
    let before = ascending i n in
    let step = rising (i + n) in
    let same : least_size (i + suc n) ≡ least_size (i + n + 1) = ap least_size (omega arith) in
    omega (arith, before, step, same)

later : (i j : ℕ) → i < j → least_size (i + 1) ≤ least_size j
later i j less =
    let same : least_size (i + 1 + (j - (i + 1))) ≡ least_size j = ap least_size (omega (arith, less)) in
    let up = ascending (i + 1) (j - (i + 1)) in
    omega (arith, same, up)

pub tree_here : (size index : ℕ) → IsTreeIndex size index → is_tree_size index size ≡ true
tree_here size index is = grind (arith, nat_tests, is.within, is.reached, is.last)

pub tree_elsewhere : (size index other : ℕ) → IsTreeIndex size index → other < 32 → other ≢ index → is_tree_size other size ≡ false
tree_elsewhere size index other is few apart =
    elim (cases_lt other index) [
      | inl less ↦ (let up = later other index less in let reached = is.reached in let within = is.within in
          let below : least_size (other + 1) ≤ size = omega (arith, up, reached) in let early : other < 31 =
          omega (arith, less, within) in grind (arith, nat_tests))
      | inr more ↦ (let above : index < other = omega (arith, more, apart) in let up = later index other above in let last =
          is.last (omega (arith, above, few)) in
          let below : size < least_size other = omega (arith, up, last) in grind (arith, nat_tests))
    ]

-- the chunks of the small bins are in none
pub tree_large : (size index : ℕ) → size < 256 → is_tree_size index size ≡ false
tree_large size index small =
    let up = ascending 0 index in
    let same : least_size (0 + index) ≡ least_size index = ap least_size (omega arith) in
    let least : 256 ≤ least_size index = omega (arith, up, same) in
    grind (arith, nat_tests)
