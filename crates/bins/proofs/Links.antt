-- Rings whose links change.
use Rattle.std.proofs.Common.{◌≡◌, ◌≢◌, ℕ, ◌+◌, inl, inr, List, [], ◌∷◌, ◌++◌, refl, sym, subst, ◌∙◌}
use Rattle.bins.specs.Index.{IsIn, AreDistinct, first_or, last_or}
use Rattle.bins.specs.Rings.{AreLinked}
use Rattle.bins.proofs.Lists.{last_in, first_append, distinct_front, distinct_back}

pub join : (words : ℕ → ℕ) (before : ℕ) (xs ys : List ℕ) (behind : ℕ) → AreLinked words before xs (first_or behind ys) →
    AreLinked words (last_or before xs) ys behind → AreLinked words before (xs ++ ys) behind
join words before [] ys behind front back = back
join words before (x ∷ xs) ys behind front back = (front.0, front.1 ∙ sym (first_append behind xs ys), join words x xs ys behind front.2 back)

pub front_of : (words : ℕ → ℕ) (before : ℕ) (xs ys : List ℕ) (behind : ℕ) → AreLinked words before (xs ++ ys) behind →
    AreLinked words before xs (first_or behind ys)
front_of words before [] ys behind h = tt
front_of words before (x ∷ xs) ys behind h = (h.0, h.1 ∙ first_append behind xs ys, front_of words x xs ys behind h.2)

pub back_of : (words : ℕ → ℕ) (before : ℕ) (xs ys : List ℕ) (behind : ℕ) → AreLinked words before (xs ++ ys) behind →
    AreLinked words (last_or before xs) ys behind
back_of words before [] ys behind h = h
back_of words before (x ∷ xs) ys behind h = back_of words x xs ys behind h.2

module _ (old new : ℕ → ℕ) where
  -- the last is followed by another
  pub turned_last : (before : ℕ) (chunks : List ℕ) (behind behind' : ℕ) → AreDistinct chunks →
      ((chunk : ℕ) → IsIn chunk chunks → new (chunk + 16) ≡ old (chunk + 16)) →
      ((chunk : ℕ) → IsIn chunk chunks → chunk ≢ last_or before chunks → new (chunk + 24) ≡ old (chunk + 24)) →
      ((chunk : ℕ) → IsIn chunk chunks → chunk ≡ last_or before chunks → new (chunk + 24) ≡ behind') →
      AreLinked old before chunks behind → AreLinked new before chunks behind'
  turned_last before [] behind behind' distinct prevs nexts last h = tt
  turned_last before (chunk ∷ []) behind behind' distinct prevs nexts last h = (prevs chunk (inl refl) ∙ h.0, last chunk (inl refl) refl, tt)
  turned_last before (chunk ∷ next ∷ chunks) behind behind' distinct prevs nexts last h = (
    prevs chunk (inl refl) ∙ h.0,
    nexts chunk (inl refl) (λ is. distinct.0 (subst (λ x. IsIn x (next ∷ chunks)) (sym is) (last_in next chunks))) ∙ h.1,
    turned_last chunk (next ∷ chunks) behind behind' distinct.1 (λ c is. prevs c (inr is)) (λ c is. nexts c (inr is)) (λ c is. last c (inr is)) h.2,
  )

  -- the first follows another
  pub turned_first : (before before' : ℕ) (chunks : List ℕ) (behind : ℕ) → AreDistinct chunks →
      ((chunk : ℕ) → IsIn chunk chunks → new (chunk + 24) ≡ old (chunk + 24)) →
      ((chunk : ℕ) → IsIn chunk chunks → chunk ≢ first_or behind chunks → new (chunk + 16) ≡ old (chunk + 16)) →
      ((chunk : ℕ) → IsIn chunk chunks → chunk ≡ first_or behind chunks → new (chunk + 16) ≡ before') →
      AreLinked old before chunks behind → AreLinked new before' chunks behind
  turned_first before before' [] behind distinct nexts prevs first h = tt
  turned_first before before' (chunk ∷ chunks) behind distinct nexts prevs first h = (
    first chunk (inl refl) refl,
    nexts chunk (inl refl) ∙ h.1,
    links_same chunk chunks behind (λ c is. prevs c (inr is) (λ same. distinct.0 (subst (λ x. IsIn x chunks) same is))) (λ c is. nexts c (inr is)) h.2,
  ) where
    links_same : (before : ℕ) (chunks : List ℕ) (behind : ℕ) → ((chunk : ℕ) → IsIn chunk chunks → new (chunk + 16) ≡ old (chunk + 16)) →
        ((chunk : ℕ) → IsIn chunk chunks → new (chunk + 24) ≡ old (chunk + 24)) → AreLinked old before chunks behind → AreLinked new before chunks behind
    links_same before [] behind prevs nexts h = tt
    links_same before (chunk ∷ chunks) behind prevs nexts h = (
      prevs chunk (inl refl) ∙ h.0,
      nexts chunk (inl refl) ∙ h.1,
      links_same chunk chunks behind (λ c is. prevs c (inr is)) (λ c is. nexts c (inr is)) h.2,
    )

  -- a chunk is put after the last
  pub linked_behind : (mark : ℕ) (chunks : List ℕ) (chunk : ℕ) → AreDistinct chunks →
      ((c : ℕ) → IsIn c chunks → new (c + 16) ≡ old (c + 16)) →
      ((c : ℕ) → IsIn c chunks → c ≢ last_or mark chunks → new (c + 24) ≡ old (c + 24)) →
      ((c : ℕ) → IsIn c chunks → c ≡ last_or mark chunks → new (c + 24) ≡ chunk) →
      new (chunk + 16) ≡ last_or mark chunks → new (chunk + 24) ≡ mark →
      AreLinked old mark chunks mark → AreLinked new mark (chunks ++ chunk ∷ []) mark
  linked_behind mark chunks chunk distinct prevs nexts last prev next h =
      join new mark chunks (chunk ∷ []) mark (turned_last mark chunks mark chunk distinct prevs nexts last h) (prev, next, tt)

  -- a chunk is taken out from between two lists
  pub linked_without : (mark : ℕ) (front : List ℕ) (chunk : ℕ) (back : List ℕ) → AreDistinct (front ++ chunk ∷ back) →
      ((c : ℕ) → IsIn c front → new (c + 16) ≡ old (c + 16)) →
      ((c : ℕ) → IsIn c front → c ≢ last_or mark front → new (c + 24) ≡ old (c + 24)) →
      ((c : ℕ) → IsIn c front → c ≡ last_or mark front → new (c + 24) ≡ first_or mark back) →
      ((c : ℕ) → IsIn c back → new (c + 24) ≡ old (c + 24)) →
      ((c : ℕ) → IsIn c back → c ≢ first_or mark back → new (c + 16) ≡ old (c + 16)) →
      ((c : ℕ) → IsIn c back → c ≡ first_or mark back → new (c + 16) ≡ last_or mark front) →
      AreLinked old mark (front ++ chunk ∷ back) mark → AreLinked new mark (front ++ back) mark
  linked_without mark front chunk back distinct fp fn fl bn bp bf h =
      join new mark front back mark
      (turned_last mark front chunk (first_or mark back) (distinct_front front (chunk ∷ back) distinct) fp fn fl
      (front_of old mark front (chunk ∷ back) mark h))
      (turned_first chunk (last_or mark front) back mark (distinct_back front (chunk ∷ back) distinct).1 bn bp bf
      (back_of old mark front (chunk ∷ back) mark h).2)
