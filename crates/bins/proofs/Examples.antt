-- Worked values: a ring of two, and a trie of two.
use Rattle.std.proofs.Common.{◌≡◌, ℕ, ◌+◌, ◌≤◌, inl, inr, ◌==◌, Bool, true, false, List, [], ◌∷◌, refl, arith}
use Rattle.std.specs.Prelude.{if◌then◌else◌}
use Rattle.std.proofs.lemmas.Bool.Decides.{nat_tests}
use Rattle.bins.specs.Index.{without_size}
use Rattle.bins.specs.Rings.{IsRing}
use Rattle.bins.specs.Tries.{slot, low_at, IsTrie}
use Rattle.bins.proofs.Opened.{empty}

-- the words of two small chunks
abbrev ring_words : ℕ → ℕ
ring_words at =
    if at == 0x400010 then 68 else if at == 0x400018 then 0x400040 else
    if at == 0x400050 then 0x400000 else if at == 0x400058 then 68 else 0

two_small : IsRing ring_words 68 0x400000 0x400040 (0x400000 ∷ 0x400040 ∷ [])
two_small = record { begins = refl; ends = refl; linked = (refl, refl, (refl, refl, tt)) }

-- in the other order they are none
other_order : IsRing ring_words 68 0x400040 0x400000 (0x400040 ∷ 0x400000 ∷ []) → ⊥
other_order h = let e = h.linked.0 in absurd (omega arith)

-- the words of chunks of 608 and 528 bytes in tree bin 2, whose sizes are 512 up to 767
abbrev trie_words : ℕ → ℕ
trie_words at =
    if at == 0x400008 then 609 else if at == 0x400010 then 0x400000 else if at == 0x400018 then 0x400000 else
    if at == 0x400020 then 0x401000 else if at == 0x400030 then 130 else if at == 0x400038 then 2 else
    if at == 0x401008 then 529 else if at == 0x401010 then 0x401000 else if at == 0x401018 then 0x401000 else
    if at == 0x401030 then 0x400000 else if at == 0x401038 then 2 else 0

abbrev two_sizes : ℕ → List ℕ
two_sizes n = if n == 608 then 0x400000 ∷ [] else if n == 528 then 0x401000 ∷ [] else []

upper_none : (n : ℕ) → 640 ≤ n → without_size 608 two_sizes n ≡ []
upper_none n above = grind (arith, nat_tests)

abbrev by_tests : Bool → Bool → List ℕ
by_tests a b = if a then [] else if b then [] else if b then 0x400000 ∷ [] else if a then 0x401000 ∷ [] else []

none_by_tests : (a b : Bool) → by_tests a b ≡ []
none_by_tests true b = refl
none_by_tests false true = refl
none_by_tests false false = refl

both_none : (n : ℕ) → without_size 528 (without_size 608 two_sizes) n ≡ []
both_none n = none_by_tests (n == 528) (n == 608)

abbrev root_child : Bool → ℕ
root_child false = 0x401000
root_child true = 0

root_slots : (side : Bool) → trie_words (0x400000 + slot side) ≡ root_child side
root_slots false = refl
root_slots true = refl

leaf_slots : (side : Bool) → trie_words (0x401000 + slot side) ≡ 0
leaf_slots false = refl
leaf_slots true = refl

leaf : IsTrie trie_words (without_size 608 two_sizes) 2 0x400000 512 4 0x401000
leaf = inr (
  record {
    size = 528;
    others = [];
    child = λ side. 0;
    some = omega arith;
    above = omega arith;
    below = omega arith;
    chunks = refl;
    head = refl;
    ring = record { begins = refl; ends = refl; linked = tt };
    child_is = leaf_slots;
    parent_is = refl;
    bin_is = refl;
  },
  λ side. empty trie_words (without_size 528 (without_size 608 two_sizes)) 2 0x401000 (low_at side 512 64) 3 (λ n above below. both_none n),
)

children : (side : Bool) → IsTrie trie_words (without_size 608 two_sizes) 2 0x400000 (low_at side 512 128) 4 (root_child side)
children false = leaf
children true = empty trie_words (without_size 608 two_sizes) 2 0x400000 640 4 (λ n above below. upper_none n above)

-- 608 is in the lower half, 512 up to 639, as 528 is, which stands below it
two_large : IsTrie trie_words two_sizes 2 130 512 5 0x400000
two_large = inr (
  record {
    size = 608;
    others = [];
    child = root_child;
    some = omega arith;
    above = omega arith;
    below = omega arith;
    chunks = refl;
    head = refl;
    ring = record { begins = refl; ends = refl; linked = tt };
    child_is = root_slots;
    parent_is = refl;
    bin_is = refl;
  },
  children,
)

-- a chunk of 528 bytes is no node of the upper half
wrong_half : (index : ℕ → List ℕ) → IsTrie trie_words index 2 0x400000 640 4 0x401000 → ⊥
wrong_half index (inl none) = absurd (let e = none.0 in omega arith)
wrong_half index (inr (node, _)) = absurd (let e : 528 ≡ node.size = node.head in omega (arith, e, node.above))
