-- Places in the words of stretches.
use Rattle.std.proofs.Common.{◌≡◌, ◌≢◌, ℕ, ◌+◌, ◌%◌, ◌<◌, ◌≤◌, List, [], ◌∷◌, ◌++◌, IsTrue, length, get_or, set, take, ap, sym, ◌∙◌, zero-add, add-zero, inl, inr, arith}
use Rattle.std.proofs.lemmas.Bool.{cases_lt}
use Rattle.std.proofs.lemmas.Bool.Decides.{nat_tests}
use Rattle.std.proofs.lemmas.List.{get_or-set_other, get_or_past, take_more}
use Rattle.heap_memory.specs.declared.flat_words.Stretch.{Stretch}
use Rattle.heap_memory.specs.FlatWords.{is_held, word_count, place_of, are_aligned}

-- a place is one of the words
pub place_within : (stretches : List Stretch) (at : ℕ) → IsTrue (is_held stretches at) → place_of stretches at < word_count stretches
place_within [] at held = cc
place_within (stretch ∷ stretches) at held = grind (arith, nat_tests, place_within stretches at)

-- two words have two places
pub places_differ : (stretches : List Stretch) (one other : ℕ) → IsTrue (are_aligned stretches) →
    IsTrue (is_held stretches one) → IsTrue (is_held stretches other) → one % 8 ≡ 0 → other % 8 ≡ 0 → one ≢ other →
    place_of stretches one ≢ place_of stretches other
places_differ [] one other aligned held held' whole whole' differ = cc
places_differ (stretch ∷ stretches) one other aligned held held' whole whole' differ = grind (arith, nat_tests, place_within stretches, places_differ stretches one other)

-- the words of joined stretches
pub count_joined : (front back : List Stretch) → word_count (front ++ back) ≡ word_count front + word_count back
count_joined [] back = sym (zero-add (word_count back))
count_joined (stretch ∷ front) back = grind (arith, count_joined front back)

-- with one stretch more
pub counted_more : (stretches : List Stretch) (i : ℕ) (d : Stretch) → i < length stretches →
    word_count (take (i + 1) stretches) ≡ word_count (take i stretches) + (get_or stretches i d).count
counted_more stretches i d less =
    let last : word_count (get_or stretches i d ∷ []) ≡ (get_or stretches i d).count = add-zero (get_or stretches i d).count in
    ap word_count (take_more stretches i d less) ∙ (count_joined (take i stretches) (get_or stretches i d ∷ []) ∙ ap (λ n. word_count (take i stretches) + n) last)

-- a list that is filled up with zeros is zero everywhere if it was
pub filled_zero : (old new : List ℕ) (len n : ℕ) → length new ≡ n → ((k : ℕ) → get_or old k 0 ≡ 0) →
    ((k : ℕ) → k < n → k < len → get_or new k 0 ≡ get_or old k 0) → ((k : ℕ) → len ≤ k → k < n → get_or new k 0 ≡ 0) →
    (k : ℕ) → get_or new k 0 ≡ 0
filled_zero old new len n long zero same fresh k = elim (cases_lt k n) [
  | inl less ↦ elim (cases_lt k len) [ inl in_old ↦ same k less in_old ∙ zero k | inr past ↦ fresh k past less ]
  | inr past ↦ get_or_past new k 0 (omega arith)
]

-- the words elsewhere stay
pub stored_elsewhere : (stretches : List Stretch) (words : List ℕ) (at value other : ℕ) → IsTrue (are_aligned stretches) →
    IsTrue (is_held stretches at) → IsTrue (is_held stretches other) → at % 8 ≡ 0 → other % 8 ≡ 0 → other ≢ at →
    get_or (set words (place_of stretches at) value) (place_of stretches other) 0 ≡ get_or words (place_of stretches other) 0
stored_elsewhere stretches words at value other aligned held held' whole whole' differ =
    get_or-set_other words (place_of stretches at) (place_of stretches other) value 0 (places_differ stretches other at aligned held' held whole' whole differ)
