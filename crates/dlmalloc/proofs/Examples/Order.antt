-- What order allows and what it refuses.
use Rattle.std.proofs.Common.{◌≡◌, ◌≢◌, ℕ, inl, inr, List, [], ◌∷◌, ◌++◌, refl, sym, ◌∙◌, ap, subst, arith}
use Rattle.bins.specs.Index.{IsIn}
use Rattle.dlmalloc.specs.Order.{IsPart, IsInOrder}

abbrev head_or : ℕ → List ℕ → ℕ
head_or other [] = other
head_or other (chunk ∷ chunks) = chunk

abbrev rest_of : List ℕ → List ℕ
rest_of [] = []
rest_of (chunk ∷ chunks) = chunks

module _ (first second third : ℕ) (apart : first ≢ second) (other : third ≢ first) (another : third ≢ second) where
  -- a chunk came, as the newest
  came : IsInOrder (first ∷ second ∷ []) (first ∷ second ∷ third ∷ [])
  came = record {
    stayed = first ∷ second ∷ [];
    came = third ∷ [];
    are = refl;
    part = inr (second ∷ [], refl, inr ([], refl, refl));
    others = λ k is was. elim is [
      | inl same ↦ elim was [
        | inl a ↦ other (sym same ∙ a)
        | inr later ↦ elim later
            [ inl b ↦ another (sym same ∙ b) | inr none ↦ none ]
      ]
      | inr none ↦ none
    ];
    few = omega arith;
  }

  -- the oldest left
  left : IsInOrder (first ∷ second ∷ []) (second ∷ [])
  left = record { stayed = second ∷ []; came = []; are = refl; part = inl (inr ([], refl, refl)); others = λ k none was. none; few = omega arith }

  -- the oldest did not become the newest
  not_turned : IsInOrder (first ∷ second ∷ []) (second ∷ first ∷ []) → ⊥
  not_turned o = go o.stayed o.came o.are o.part o.others
    where
      go : (stayed came : List ℕ) → second ∷ first ∷ [] ≡ stayed ++ came → IsPart stayed (first ∷ second ∷ []) →
          ((k : ℕ) → IsIn k came → IsIn k (first ∷ second ∷ []) → ⊥) → ⊥
      go [] came are part others = others second (subst (IsIn second) are (inl refl)) (inr (inl refl))
      go (a ∷ []) came are part others = others first (subst (IsIn first) (ap rest_of are) (inl refl)) (inl refl)
      go (a ∷ b ∷ stayed) came are (inl later) others = elim later [
        | inl none ↦ (let no : a ∷ b ∷ stayed ≡ [] = none in cc)
        | inr two ↦ (let no : b ∷ stayed ≡ [] = ap rest_of two.1 ∙ two.2 in cc)
      ]
      go (a ∷ b ∷ stayed) came are (inr two) others = apart (sym (ap (head_or 0) two.1) ∙ sym (ap (head_or 0) are))

  -- what came is not the oldest
  not_before : IsInOrder (first ∷ []) (second ∷ first ∷ []) → ⊥
  not_before o = go o.stayed o.came o.are o.part o.others
    where
      go : (stayed came : List ℕ) → second ∷ first ∷ [] ≡ stayed ++ came → IsPart stayed (first ∷ []) → ((k : ℕ) → IsIn k came → IsIn k (first ∷ []) → ⊥) → ⊥
      go [] came are part others = others first (subst (IsIn first) are (inr (inl refl))) (inl refl)
      go (a ∷ stayed) came are (inl none) others = (let no : a ∷ stayed ≡ [] = none in cc)
      go (a ∷ stayed) came are (inr two) others = apart (sym (ap (head_or 0) two.1) ∙ sym (ap (head_or 0) are))
