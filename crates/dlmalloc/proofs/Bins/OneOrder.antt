-- A list that is in order after another is determined by its chunks.
use Rattle.dlmalloc.proofs.Names.{◌≡◌, ℕ, ◌≤◌, ◌⊎◌, inl, inr, List, [], ◌∷◌, ◌++◌, refl, sym, ◌∙◌, ap, subst, arith, length, IsIn, AreDistinct, IsPart}
use Rattle.dlmalloc.specs.Order.{IsInOrder}

part_in : (k : ℕ) (part chunks : List ℕ) → IsPart part chunks → IsIn k part → IsIn k chunks
part_in k part [] is here = subst (IsIn k) is here
part_in k part (chunk ∷ chunks) (inl later) here = inr (part_in k part chunks later here)
part_in k part (chunk ∷ chunks) (inr (rest, is, later)) here = go (subst (IsIn k) is here) (λ there. part_in k rest chunks later there)
  where
    go : (k ≡ chunk) ⊎ IsIn k rest → (IsIn k rest → IsIn k chunks) → (k ≡ chunk) ⊎ IsIn k chunks
    go (inl same) on = inl same
    go (inr there) on = inr (on there)

-- of two parts with the same chunks each is the other
part_unique : (one two chunks : List ℕ) → IsPart one chunks → IsPart two chunks → AreDistinct chunks → ((k : ℕ) → IsIn k one → IsIn k two) →
    ((k : ℕ) → IsIn k two → IsIn k one) → one ≡ two
part_unique one two [] a b distinct to from = a ∙ sym b
part_unique one two (chunk ∷ chunks) (inl a) (inl b) distinct to from = part_unique one two chunks a b distinct.1 to from
part_unique one two (chunk ∷ chunks) (inl a) (inr (rest, is, b)) distinct to from =
    absurd (distinct.0 (part_in chunk one chunks a (from chunk (subst (IsIn chunk) (sym is) (inl refl)))))
part_unique one two (chunk ∷ chunks) (inr (rest, is, a)) (inl b) distinct to from =
    absurd (distinct.0 (part_in chunk two chunks b (to chunk (subst (IsIn chunk) (sym is) (inl refl)))))
part_unique one two (chunk ∷ chunks) (inr (rest, is, a)) (inr (others, same, b)) distinct to from =
    is ∙ (ap (λ more. chunk ∷ more) (part_unique rest others chunks a b distinct.1 (λ k here. later k others (λ at. distinct.0 (part_in chunk rest chunks
    a (subst (λ c. IsIn c rest) at here))) (subst (IsIn k) same (to k (subst (IsIn k) (sym is) (inr here))))) (λ k here. later k rest (λ at. distinct.0
    (part_in chunk others chunks b (subst (λ c. IsIn c others) at here))) (subst (IsIn k) is (from k (subst (IsIn k) (sym same) (inr here)))))) ∙ sym same)
  where
    later : (k : ℕ) (more : List ℕ) → (k ≡ chunk → ⊥) → (k ≡ chunk) ⊎ IsIn k more → IsIn k more
    later k more other (inl at) = absurd (other at)
    later k more other (inr there) = there

pub in_front : (k : ℕ) (front back : List ℕ) → IsIn k front → IsIn k (front ++ back)
in_front k [] back here = absurd here
in_front k (first ∷ front) back (inl same) = inl same
in_front k (first ∷ front) back (inr later) = inr (in_front k front back later)

pub in_back : (k : ℕ) (front back : List ℕ) → IsIn k back → IsIn k (front ++ back)
in_back k [] back here = here
in_back k (first ∷ front) back here = inr (in_back k front back here)

pub in_one : (k : ℕ) (front back : List ℕ) → IsIn k (front ++ back) → IsIn k front ⊎ IsIn k back
in_one k [] back here = inr here
in_one k (first ∷ front) back (inl same) = inl (inl same)
in_one k (first ∷ front) back (inr later) = elim (in_one k front back later) [ inl here ↦ inl (inr here) | inr there ↦ inr there ]

-- what came is one chunk at most
came_unique : (one two : List ℕ) → length one ≤ 1 → length two ≤ 1 → ((k : ℕ) → IsIn k one → IsIn k two) → ((k : ℕ) → IsIn k two → IsIn k one) → one ≡ two
came_unique [] [] a b to from = refl
came_unique [] (second ∷ two) a b to from = absurd (from second (inl refl))
came_unique (first ∷ one) [] a b to from = absurd (to first (inl refl))
came_unique (first ∷ []) (second ∷ []) a b to from = elim (to first (inl refl)) [ inl same ↦ ap (λ k. k ∷ []) same | inr none ↦ absurd none ]
came_unique (first ∷ []) (second ∷ third ∷ two) a b to from = absurd (omega arith)
came_unique (first ∷ third ∷ one) (second ∷ two) a b to from = absurd (omega arith)

pub one_order : (old one two : List ℕ) → AreDistinct old → IsInOrder old one → IsInOrder old two →
    ((k : ℕ) → IsIn k one → IsIn k two) → ((k : ℕ) → IsIn k two → IsIn k one) → one ≡ two
one_order old one two distinct a b to from =
    a.are ∙ ((λ i. part_unique a.stayed b.stayed old a.part b.part distinct (stay one two a b to) (stay two one b a from) i
    ++ came_unique a.came b.came a.few b.few (come one two a b to) (come two one b a from) i) ∙ sym b.are)
  where
    stay : (x y : List ℕ) (u : IsInOrder old x) (v : IsInOrder old y) → ((k : ℕ) → IsIn k x → IsIn k y) → (k : ℕ) → IsIn k u.stayed → IsIn k v.stayed
    stay x y u v on k here = elim (in_one k v.stayed v.came (subst (IsIn k) v.are (on k (subst (IsIn k) (sym u.are) (in_front k u.stayed u.came here))))) [
      | inl there ↦ there
      | inr new ↦ absurd (v.others k new (part_in k u.stayed old u.part here))
    ]

    come : (x y : List ℕ) (u : IsInOrder old x) (v : IsInOrder old y) → ((k : ℕ) → IsIn k x → IsIn k y) → (k : ℕ) → IsIn k u.came → IsIn k v.came
    come x y u v on k here = elim (in_one k v.stayed v.came (subst (IsIn k) v.are (on k (subst (IsIn k) (sym u.are) (in_back k u.stayed u.came here))))) [
      | inl there ↦ absurd (u.others k here (part_in k v.stayed old v.part there))
      | inr new ↦ new
    ]
