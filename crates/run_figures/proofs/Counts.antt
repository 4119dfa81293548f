-- Counts of classes, as one more extent is counted.
use Rattle.std.proofs.Common.{◌≡◌, ◌≢◌, ℕ, suc, ◌+◌, ◌<◌, ◌⊎◌, inl, inr, List, [], ◌∷◌, length, map, get_or, set, true, false, ◌&&◌, nat_le, refl, ap, sym, ◌∙◌, arith}
use Rattle.std.proofs.lemmas.Bool.{cases_lt, and_left, and_right, and_parts, and_from, and_cases}
use Rattle.std.proofs.lemmas.Bool.Decides.{nat_tests}
use Rattle.std.proofs.lemmas.List.{get_or-set_same, get_or-set_other}
use Rattle.std.specs.Prelude.{if◌then◌else◌}
use Rattle.dlmalloc_chunks.specs.declared.extent.Extent.{Extent}
use Rattle.dlmalloc_chunks.specs.Bins.{IsTreeIndex}
use Rattle.run_figures.specs.Classes.{is_in_bin, is_tree_size, is_large}
use Rattle.run_figures.proofs.TreeSizes.{tree_here, tree_elsewhere, tree_large}

-- a chunk that is in no tree bin is in none of them
pub not_large : (extent : Extent) (index : ℕ) → (is_in_bin extent.kind && nat_le 256 extent.size) ≡ false → is_large index extent ≡ false
not_large extent index none = elim (and_cases (is_in_bin extent.kind) (nat_le 256 extent.size) none) [
  | inl free ↦ and_left (is_in_bin extent.kind) (is_tree_size index extent.size) free
  | inr small ↦ and_right (is_in_bin extent.kind) (is_tree_size index extent.size) (tree_large extent.size index (below extent.size small))
]
  where
    below : (size : ℕ) → nat_le 256 size ≡ false → size < 256
    below size small = grind (arith, nat_tests)

pub counted_none : (counts : List ℕ) (extent : Extent) (index : ℕ) → (is_in_bin extent.kind && nat_le 256
    extent.size) ≡ false → get_or counts index 0 ≡ get_or counts index 0 + (if is_large index extent then 1 else 0)
counted_none counts extent index none = rw (not_large extent index none) (omega arith)

same_or : (m n : ℕ) → (m ≡ n) ⊎ (m ≢ n)
same_or m n = elim (cases_lt m n) [
  | inl less ↦ inr (λ same. absurd (omega (arith, less, same)))
  | inr most ↦ elim (cases_lt n m) [ inl more ↦ inr (λ same. absurd (omega (arith, more, same))) | inr least ↦ inl (omega (arith, most, least)) ]
]

-- and one that is in a tree bin is in that of its size alone
pub counted_one : (counts : List ℕ) (extent : Extent) (bin index : ℕ) → length counts ≡ 32 →
    (is_in_bin extent.kind && nat_le 256 extent.size) ≡ true → IsTreeIndex extent.size bin → index < 32 →
    get_or (set counts bin (get_or counts bin 0 + 1)) index 0 ≡ get_or counts index 0 + (if is_large index extent then 1 else 0)
counted_one counts extent bin index long some in_bin few =
    let free : is_in_bin extent.kind ≡ true = (and_parts (is_in_bin extent.kind) (nat_le 256 extent.size) some).0 in
    elim (same_or index bin) [
      | inl same ↦ (let is : is_large index extent ≡ true = and_from (is_in_bin extent.kind)
          (is_tree_size index extent.size) free (ap (λ (i : ℕ). is_tree_size i extent.size) same
          ∙ tree_here extent.size bin in_bin) in
          let within = in_bin.within in
          rw is (ap (λ (i : ℕ). get_or (set counts bin (get_or counts bin 0 + 1)) i 0) same
          ∙ get_or-set_same counts bin (get_or counts bin 0 + 1) 0 (omega (arith, long, within))
          ∙ ap (λ (i : ℕ). get_or counts i 0 + 1) (sym same)))
      | inr other ↦ (let is : is_large index extent ≡ false = and_right (is_in_bin extent.kind)
          (is_tree_size index extent.size) (tree_elsewhere extent.size bin index in_bin few other) in
          rw is (get_or-set_other counts bin index (get_or counts bin 0 + 1) 0 other ∙ omega arith))
    ]

-- sizes that are all 0
pub all_zero : (xs ys : List ℕ) → length xs ≡ length ys → ((k : ℕ) → k < length xs → get_or xs k 0 ≡ 0) → xs ≡ map (λ (size : ℕ). 0) ys
all_zero [] [] same zero = refl
all_zero [] (y ∷ ys) same zero = absurd (omega (arith, same))
all_zero (x ∷ xs) [] same zero = absurd (omega (arith, same))
all_zero (x ∷ xs) (y ∷ ys) same zero =
    let first : x ≡ 0 = zero 0 (omega arith) in
    let rest = all_zero xs ys (omega (arith, same)) (λ k less. zero (suc k) (omega (arith, less))) in
    (λ i. first i ∷ rest i)
