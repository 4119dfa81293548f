-- What a move does to the free extents of a heap.
use Rattle.dlmalloc.proofs.Names.{◌≡◌, ℕ, ◌⊎◌, inl, inr, Bool, true, false, ◌==◌, if◌then◌else◌, List, [], ◌∷◌, ◌++◌, Some, None, refl, sym, ◌∙◌, ap, subst, Grant, Extent, Free, IsIn, extent_at, state_of, IsSound, FreeMoves, Dlmalloc}
use Rattle.dlmalloc.proofs.Extents.Lookup.{extent, nat_is, found_either, found_more}
use Rattle.dlmalloc.proofs.Extents.OneMoreUsed.{AreDistinct, distinct_second, replaced_found}
use Rattle.dlmalloc.proofs.Segments.Among.{distinct_later}
use Rattle.dlmalloc.proofs.Moves.OfHeaps.{IsStep, before, behind, all_old, all_new, distinct_old, distinct_new}

-- some extent begins at an address
abbrev pub IsThere : ℕ → List Extent → Type 0
IsThere k extents = (one : Extent) × (extent_at k extents ≡ Some one)

-- of two lists of distinct extents one alone has an extent at an address
not_both : (front back : List Extent) (k : ℕ) {one other : Extent} → AreDistinct (front ++ back) →
    extent_at k front ≡ Some one → extent_at k back ≡ Some other → ⊥
not_both [] back k apart here there = (let some = here in cc)
not_both (first ∷ front) back k {one} apart here there = go (first.at == k) refl here (λ later. not_both front back k apart.1 later there)
  where
    go : (b : Bool) → (first.at == k) ≡ b → (if b then Some first else extent_at k front) ≡ Some one → (extent_at k front ≡ Some one → ⊥) → ⊥
    go true test is rest = (let none = subst (λ a. extent_at a (front ++ back) ≡ None) (nat_is test) apart.0 in let some =
        distinct_later front back k apart.1 there in cc)
    go false test is rest = rest is

-- Some extents give way to others. A free one that is not of those at the addresses `gone` is found as before, and at no
-- address of those that come.
module _ (front less more back : List Extent) (apart : AreDistinct (front ++ (more ++ back))) (gone come : List ℕ)
    (in_less : (k size : ℕ) → extent_at k less ≡ Some (extent k size Free) → IsIn k gone)
    (come_there : (k : ℕ) → IsIn k come → IsIn k gone ⊎ IsThere k more) where
  pub free_stays : {k size : ℕ} → extent_at k (front ++ (less ++ back)) ≡ Some (extent k size Free) → (IsIn k gone → ⊥) →
      (extent_at k (front ++ (more ++ back)) ≡ Some (extent k size Free)) × (IsIn k come → ⊥)
  free_stays {k} {size} free out = (
    replaced_found k front less more back apart (λ here. absurd (out (in_less k size here))) free,
    λ came. elim (come_there k came) [
      | inl left ↦ out left
      | inr there ↦ elim (found_either k front (less ++ back) free) [
        | inl first ↦ not_both front (more ++ back) k apart first (found_more k more back there.1)
        | inr later ↦ elim (found_either k less back later.1) [
          | inl here ↦ out (in_less k size here)
          | inr last ↦ not_both more back k (distinct_second front (more ++ back) apart) there.1 last.1
        ]
      ]
    ],
  )

-- so the free extents before and after a step are
module _ {A : Type 0} {regions : A → List Grant} {word : A → ℕ → ℕ} {heap new : Dlmalloc A}
    (sound : IsSound regions word heap) {less more : List Extent} (step : IsStep regions word heap new less more) (gone come : List ℕ)
    (in_less : (k size : ℕ) → extent_at k less ≡ Some (extent k size Free) → IsIn k gone)
    (in_more : (k size : ℕ) → extent_at k more ≡ Some (extent k size Free) → IsIn k come)
    (gone_there : (k : ℕ) → IsIn k gone → IsIn k come ⊎ IsThere k less)
    (come_there : (k : ℕ) → IsIn k come → IsIn k gone ⊎ IsThere k more) where
  pub free_moves : FreeMoves (state_of word heap) (state_of word new) gone come
  free_moves = record {
    stays = λ k size free out.
        let found = free_stays (before sound step) less more (behind sound step) (subst AreDistinct (all_new sound step) (distinct_new sound step)) gone come
        in_less come_there (ap (extent_at k) (sym (all_old sound step)) ∙ free) out in
        (ap (extent_at k) (all_new sound step) ∙ found.0, found.1);
    was = λ k size free out.
        let found = free_stays (before sound step) more less (behind sound step) (subst AreDistinct (all_old sound step) (distinct_old sound step)) come gone
        in_more gone_there (ap (extent_at k) (sym (all_new sound step)) ∙ free) out in
        (ap (extent_at k) (all_old sound step) ∙ found.0, found.1);
  }
