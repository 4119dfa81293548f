-- What is found among two extents.
use Rattle.dlmalloc.proofs.Names.{◌≡◌, ◌≢◌, ℕ, ◌<◌, ◌⊎◌, inl, inr, false, ◌==◌, List, [], ◌∷◌, Some, sym, refl, ◌∙◌, ap, subst, arith, nat_tests, Extent, Kind, Used, Free, IsIn, extent_at}
use Rattle.dlmalloc.proofs.Extents.Lookup.{extent, nat_isnt, nat_same, found_either, the_one}
use Rattle.dlmalloc.proofs.Moves.OfFreeExtents.{IsThere}

-- numbers that are not the same are distinguished
pub differ : (m n : ℕ) → m ≢ n → (m == n) ≡ false
differ m n other = (let e = other in grind (arith, nat_tests))

-- what is found among two is one of them
pub in_two : (first second : Extent) (k : ℕ) {one : Extent} → extent_at k (first ∷ second ∷ []) ≡ Some one → (first ≡ one) ⊎ (second ≡ one)
in_two first second k found =
    elim (found_either k (first ∷ []) (second ∷ []) found) [
      | inl here ↦ inl (the_one k first here)
      | inr behind ↦ inr (the_one k second behind.1)
    ]

-- none of them is of a kind that they have not
pub no_kind : (first second : Extent) (kind : Kind) → first.kind ≢ kind → second.kind ≢ kind →
    (k : ℕ) {one : Extent} → extent_at k (first ∷ second ∷ []) ≡ Some one → one.kind ≢ kind
no_kind first second kind no_first no_second k found is =
    elim (in_two first second k found) [
      | inl here ↦ no_first (ap (λ e. e.kind) here ∙ is)
      | inr behind ↦ no_second (ap (λ e. e.kind) behind ∙ is)
    ]

-- and but for the first none is in use, if the second is not
pub no_other : (first second : Extent) → second.kind ≢ Used → {used : Extent} → used.kind ≡ Used → used.at ≢ first.at →
    extent_at used.at (first ∷ second ∷ []) ≡ Some used → ⊥
no_other first second free {used} is other found =
    elim (in_two first second used.at found) [
      | inl here ↦ other (ap (λ e. e.at) (sym here))
      | inr behind ↦ free (ap (λ e. e.kind) behind ∙ is)
    ]

-- of a chunk in use and another extent the other alone can be free
pub only_second : (at size : ℕ) (second : Extent) (k bytes : ℕ) →
    extent_at k (extent at size Used ∷ second ∷ []) ≡ Some (extent k bytes Free) → IsIn k (second.at ∷ [])
only_second at size second k bytes found =
    elim (in_two (extent at size Used) second k found) [
      | inl here ↦ absurd (let no : Used ≡ Free = ap (λ e. e.kind) here in cc)
      | inr behind ↦ inl (sym (ap (λ e. e.at) behind))
    ]

-- the second is found, with others after it
pub found_second : (at size : ℕ) (second : Extent) (others : List Extent) → at < second.at →
    extent_at second.at (extent at size Used ∷ second ∷ others) ≡ Some second
found_second at size second others above = rw (nat_isnt (inl above), nat_same second.at) refl

-- so one begins where the second does
pub second_there : (at size : ℕ) (second : Extent) (others : List Extent) → at < second.at → (k : ℕ) → IsIn k (second.at ∷ []) →
    IsThere k (extent at size Used ∷ second ∷ others)
second_there at size second others above k (inl is) = (
  second,
  subst (λ a. extent_at a (extent at size Used ∷ second ∷ others) ≡ Some second) (sym is) (found_second at size second others above),
)
second_there at size second others above k (inr none) = absurd none
