-- The classes, one after another.
use Rattle.std.proofs.Common.{◌≡◌, ℕ, zero, suc, ◌+◌, List, [], ◌∷◌, ◌++◌, codes, refl, ◌∙◌, ap, arith, add-one}
use Rattle.std.proofs.lemmas.List.{append-nil}
use Rattle.std.proofs.lemmas.Grind.{flat_map-append}
use Rattle.std.specs.List.{flat_map, range_with_len}
use Rattle.dlmalloc_chunks.specs.declared.extent.Extent.{Extent}
use Rattle.run_figures.specs.Classes.{small_count, tree_count}
use Rattle.run_figures.specs.Text.{bin_class_text, small_texts, tree_texts}

range_suc : (a n : ℕ) → range_with_len a (suc n) ≡ range_with_len a n ++ (a + n) ∷ []
range_suc a zero = ap (λ (k : ℕ). k ∷ []) (omega arith)
range_suc a (suc n) = ap (λ (l : List ℕ). a ∷ l) (range_suc (a + 1) n ∙ ap (λ (k : ℕ). range_with_len (a + 1) n ++ k ∷ []) (omega arith))

range_more : (n : ℕ) → range_with_len 0 (n + 1) ≡ range_with_len 0 n ++ n ∷ []
range_more n = ap (range_with_len 0) (add-one n) ∙ range_suc 0 n ∙ ap (λ (k : ℕ). range_with_len 0 n ++ k ∷ []) (omega arith)

each_more : (f : ℕ → List ℕ) (n : ℕ) → flat_map f (range_with_len 0 (n + 1)) ≡ flat_map f (range_with_len 0 n) ++ f n
each_more f n = ap (flat_map f) (range_more n) ∙ flat_map-append f (range_with_len 0 n) (n ∷ [])
    ∙ ap (λ (l : List ℕ). flat_map f (range_with_len 0 n) ++ l) (append-nil (f n))

pub small_none : (before behind : List ℕ) (extents : List Extent) → small_texts before behind extents 0 ≡ []
unfolding small_texts
small_none before behind extents = refl

pub small_more : (before behind : List ℕ) (extents : List Extent) (n : ℕ) →
    small_texts before behind extents (n + 1) ≡ small_texts before behind extents n ++ bin_class_text before behind
    (codes "small") n (small_count n extents)
unfolding small_texts
small_more before behind extents n = each_more (λ (size : ℕ). bin_class_text before behind (codes "small") size (small_count size extents)) n

pub tree_none : (before behind : List ℕ) (extents : List Extent) → tree_texts before behind extents 0 ≡ []
unfolding tree_texts
tree_none before behind extents = refl

pub tree_more : (before behind : List ℕ) (extents : List Extent) (n : ℕ) →
    tree_texts before behind extents (n + 1) ≡ tree_texts before behind extents n ++ bin_class_text before behind
    (codes "tree")
    n (tree_count n extents)
unfolding tree_texts
tree_more before behind extents n = each_more (λ (index : ℕ). bin_class_text before behind (codes "tree") index (tree_count index extents)) n
