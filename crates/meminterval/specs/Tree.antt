-- A plain binary tree of pairs.
use Rattle.std.specs.Prelude.{◌≡◌, ℕ, zero, suc, ◌+◌, ◌≤◌, max, List, [], ◌∷◌, ◌++◌, Option, Some, None, refl, ℤ, pos, negsuc}
use Rattle.std.specs.Coded.{Coded, code_by, coded_list, coded_option}
use Rattle.std.proofs.Common.{◌∙◌, ap, sym, append_assoc, append-nil}

-- a binary tree: nothing, or an element between two trees
pub data Tree (E : Type 0) : Type 0 where
  Leaf : Tree E
  Fork : Tree E → E → Tree E → Tree E

-- neither number is more than this above the other
abbrev pub DifferByAtMost : ℕ → ℕ → ℕ → Type 0
DifferByAtMost by m n = (m ≤ n + by) × (n ≤ m + by)

module _ {E : Type 0} where
  -- the pairs from left to right
  abbrev pub entries : Tree E → List E
  entries Leaf = []
  entries (Fork l e r) = entries l ++ e ∷ entries r

  -- the pairs in the order of a query: the node, the right subtree, the left subtree
  abbrev pub visited : Tree E → List E
  visited Leaf = []
  visited (Fork l e r) = e ∷ (visited r ++ visited l)

  -- the tree with f of each pair
  abbrev pub map_pairs : (E → E) → Tree E → Tree E
  map_pairs f Leaf = Leaf
  map_pairs f (Fork l e r) = Fork (map_pairs f l) (f e) (map_pairs f r)

  -- how many nodes the longest path from the root has: one more than the height
  abbrev pub levels : Tree E → ℕ
  levels Leaf = 0
  levels (Fork l e r) = max (levels l) (levels r) + 1

  -- the heights of the two subtrees of each node differ by at most one
  abbrev pub IsBalanced : Tree E → Type 0
  IsBalanced Leaf = Unit {0}
  IsBalanced (Fork l e r) = IsBalanced l × IsBalanced r × DifferByAtMost 1 (levels l) (levels r)

-- the number of edges on the longest path from the root, and -1 if there is no node
abbrev pub height : {E : Type 0} → Tree E → ℤ
height Leaf = negsuc 0
height (Fork l e r) = pos (max (levels l) (levels r))

-- F(1) = F(2) = 1
abbrev pub fibonacci : ℕ → ℕ
fibonacci zero = 0
fibonacci (suc zero) = 1
fibonacci (suc (suc n)) = fibonacci (suc n) + fibonacci n

-- a tree is stored as its pairs, each after its two subtrees
module _ {E : Type 0} where
  abbrev items_of : Tree E → List (Option E)
  items_of Leaf = None ∷ []
  items_of (Fork l e r) = items_of l ++ (items_of r ++ Some e ∷ [])

  abbrev tree_from : List (Option E) → List (Tree E) → Tree E
  tree_from [] [] = Leaf
  tree_from [] (t ∷ ts) = t
  tree_from (None ∷ xs) ts = tree_from xs (Leaf ∷ ts)
  tree_from (Some e ∷ xs) [] = Leaf
  tree_from (Some e ∷ xs) (r ∷ []) = Leaf
  tree_from (Some e ∷ xs) (r ∷ l ∷ ts) = tree_from xs (Fork l e r ∷ ts)

  tree_from-items_of : (t : Tree E) (xs : List (Option E)) (ts : List (Tree E)) → tree_from (items_of t ++ xs) ts ≡ tree_from xs (t ∷ ts)
  tree_from-items_of Leaf xs ts = refl
  tree_from-items_of (Fork l e r) xs ts =
      ap (λ ys. tree_from ys ts) (append_assoc (items_of l) (items_of r ++ Some e ∷ []) xs)
      ∙ tree_from-items_of l ((items_of r ++ Some e ∷ []) ++ xs) ts
      ∙ ap (λ ys. tree_from ys (l ∷ ts)) (append_assoc (items_of r) (Some e ∷ []) xs)
      ∙ tree_from-items_of r (Some e ∷ xs) (l ∷ ts)

  pub tree_from-whole : (t : Tree E) → tree_from (items_of t) [] ≡ t
  tree_from-whole t = ap (λ ys. tree_from ys []) (sym (append-nil (items_of t))) ∙ tree_from-items_of t [] []

  -- the code of a tree is that of its elements and leaves in order
  abbrev pub tree_code : Coded E → Coded (Tree E)
  tree_code c = code_by (List (Option E)) (coded_list (coded_option c)) items_of (λ xs. tree_from xs []) tree_from-whole
