-- The extent that begins at an address, among others.
use Rattle.dlmalloc.proofs.Names.{◌≡◌, ℕ, ◌+◌, ◌<◌, ◌⊎◌, inl, inr, Bool, true, false, ◌==◌, if◌then◌else◌, List, [], ◌∷◌, ◌++◌, Option, Some, None, refl, sym, ◌∙◌, ap, subst, arith, unwrap_or, option_or, find-append, nat_tests, Extent, Kind, size_of, free_of, extent_at}

-- an extent of this place, size and kind
abbrev pub extent : ℕ → ℕ → Kind → Extent
extent at size kind = record { at = at; size = size; kind = kind }

pub same_extent : {at at' size size' : ℕ} {kind kind' : Kind} → at ≡ at' → size ≡ size' → kind ≡ kind' → extent at size kind ≡ extent at' size' kind'
same_extent a s k = λ i. extent (a i) (s i) (k i)

-- where a chunk at this address ends if it is free
abbrev pub end_of : (ℕ → ℕ) → ℕ → ℕ
end_of words at = if free_of (words (at + 8)) then at + size_of (words (at + 8)) else at

pub nat_is : {m n : ℕ} → (m == n) ≡ true → m ≡ n
nat_is test = grind (arith, nat_tests)

pub nat_same : (n : ℕ) → (n == n) ≡ true
nat_same n = grind (arith, nat_tests)

pub nat_isnt : {m n : ℕ} → (m < n) ⊎ (n < m) → (m == n) ≡ false
nat_isnt apart = grind (arith, nat_tests)

-- an extent that is found is the one there
pub the_extent : {one other : Extent} → Some one ≡ Some other → one ≡ other
the_extent {one} h = ap (λ o. unwrap_or o one) h

-- the one of one
pub at_one : (k : ℕ) (one : Extent) {other : Extent} → extent_at k (one ∷ []) ≡ Some other → (one ≡ other) × (one.at ≡ k)
at_one k one {other} there = go (one.at == k) refl there
  where
    go : (b : Bool) → (one.at == k) ≡ b → (if b then Some one else None) ≡ Some other → (one ≡ other) × (one.at ≡ k)
    go true test is = (the_extent is, nat_is test)
    go false test is = absurd (cc)

pub the_one : (k : ℕ) (one : Extent) {other : Extent} → extent_at k (one ∷ []) ≡ Some other → one ≡ other
the_one k one there = (at_one k one there).0

-- one of two
pub of_two : (k : ℕ) (one two : Extent) {it : Extent} → extent_at k (one ∷ two ∷ []) ≡ Some it → (one ≡ it) ⊎ (two ≡ it)
of_two k one two {it} there = go (one.at == k) (two.at == k) there
  where
    go : (a b : Bool) → (if a then Some one else if b then Some two else None) ≡ Some it → (one ≡ it) ⊎ (two ≡ it)
    go true b found = inl (the_extent found)
    go false true found = inr (the_extent found)
    go false false found = absurd (cc)

-- an extent with those before and after it
pub record Found (at : ℕ) (extent : Extent) (extents : List Extent) : Type 0 where
  pub front : List Extent
  pub back : List Extent
  pub is : extents ≡ front ++ extent ∷ back
  pub place : extent.at ≡ at

pub found : (at : ℕ) (extent : Extent) (extents : List Extent) → extent_at at extents ≡ Some extent → Found at extent extents
found at extent [] h = absurd (cc)
found at extent (first ∷ extents) h =
    at_first (first.at == at) refl h (λ rest. found at extent extents rest)
  where
    at_first : (b : Bool) → (first.at == at) ≡ b → extent_at at (first ∷ extents) ≡ Some extent →
        (extent_at at extents ≡ Some extent → Found at extent extents) → Found at extent (first ∷ extents)
    at_first true test h later =
        let is : first ≡ extent = ap (λ o. unwrap_or o first) (subst (λ b. (if b then Some first else extent_at at extents) ≡ Some extent) test h) in
        record { front = []; back = extents; is = ap (λ e. e ∷ extents) is; place = ap (λ e. e.at) (sym is) ∙ nat_is test }
    at_first false test h later =
        let rest = later (subst (λ b. (if b then Some first else extent_at at extents) ≡ Some extent) test h) in
        record { front = first ∷ rest.front; back = rest.back; is = ap (λ es. first ∷ es) rest.is; place = rest.place }

-- the first of some extents is found where it begins
pub found_here : (extent : Extent) (rest : List Extent) → extent_at extent.at (extent ∷ rest) ≡ Some extent
found_here extent rest = rw (nat_same extent.at) refl

-- an extent that is found is found with more after them
pub found_more : (at : ℕ) (extents more : List Extent) {extent : Extent} → extent_at at extents ≡ Some extent → extent_at at (extents ++ more) ≡ Some extent
found_more at extents more {extent} there = find-append (λ extent. extent.at == at) extents more ∙ ap (λ o. option_or o (extent_at at more)) there

-- an extent that is found in two lists is found in the first, or in the second alone
pub found_either : (at : ℕ) (front back : List Extent) {extent : Extent} → extent_at at (front ++ back) ≡ Some extent →
    (extent_at at front ≡ Some extent) ⊎ ((extent_at at front ≡ None) × (extent_at at back ≡ Some extent))
found_either at front back {extent} there = go (extent_at at front) (sym (find-append (λ extent. extent.at == at) front back) ∙ there)
  where
    go : (first : Option Extent) → option_or first (extent_at at back) ≡ Some extent →
        (first ≡ Some extent) ⊎ ((first ≡ None) × (extent_at at back ≡ Some extent))
    go None later = inr (refl, later)
    go (Some one) is = inl is

-- what is found after a list is found with it, if the list has none
pub found_later : (at : ℕ) (front back : List Extent) → extent_at at front ≡ None → extent_at at (front ++ back) ≡ extent_at at back
found_later at front back none = find-append (λ extent. extent.at == at) front back ∙ ap (λ o. option_or o (extent_at at back)) none
