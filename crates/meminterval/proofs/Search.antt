-- The least place from a place on at which an item passes.
use Rattle.std.proofs.Common.{◌≡◌, ◌==◌, ◌&&◌, ℕ, zero, suc, ◌+◌, ◌-◌, ◌<◌, ◌≤◌, Bool, true, false, cond, List, [], ◌∷◌, ◌++◌, length, drop, Option, Some, None, IfSome, MatchOption, refl, sym, ap, subst, ◌∙◌, arith}
use Rattle.std.specs.List.{filter, slice_get}
use Rattle.std.specs.Option.{option_map}
use Rattle.meminterval.specs.Entries.{AllItems, or_else}
use Rattle.meminterval.specs.Place.{place_from}

module _ {E : Type 0} (p : E → Bool) where
  pub place_past : (xs : List E) (k : ℕ) → length xs ≤ k → place_from p k xs ≡ None
  place_past [] k h = refl
  place_past (x ∷ xs) zero h = absurd (omega (arith, h))
  place_past (x ∷ xs) (suc k) h = ap (λ o. option_map (λ n. n + 1) o) (place_past xs k (omega (arith, h)))

  pub place_nowhere : (xs : List E) (k : ℕ) → AllItems (λ e. p e ≡ false) xs → place_from p k xs ≡ None
  place_nowhere [] k a = refl
  place_nowhere (x ∷ xs) zero a = rw a.0 (ap (λ o. option_map (λ n. n + 1) o) (place_nowhere xs zero a.1))
  place_nowhere (x ∷ xs) (suc k) a = ap (λ o. option_map (λ n. n + 1) o) (place_nowhere xs k a.1)

  -- past an item that is passed already or does not pass
  place_step : (x : E) (xs : List E) (k : ℕ) → (k ≡ 0 → p x ≡ false) → place_from p k (x ∷ xs) ≡ option_map (λ n. n + 1) (place_from p (k - 1) xs)
  place_step x xs zero h = rw (h refl) refl
  place_step x xs (suc k) h = ap (λ n. option_map (λ m. m + 1) (place_from p n xs)) (omega arith)

  map_or_else : (a b : Option ℕ) → option_map (λ n. n + 1) (or_else a b) ≡ or_else (option_map (λ n. n + 1) a) (option_map (λ n. n + 1) b)
  map_or_else None b = refl
  map_or_else (Some x) b = refl

  map_add : (m n : ℕ) (o : Option ℕ) → n ≡ m + 1 → option_map (λ k. k + 1) (option_map (λ k. k + m) o) ≡ option_map (λ k. k + n) o
  map_add m n None h = refl
  map_add m n (Some x) h = ap (λ k. Some k) (omega (arith, h))

  map_zero : (o : Option ℕ) → o ≡ option_map (λ k. k + 0) o
  map_zero None = refl
  map_zero (Some x) = ap (λ k. Some k) (omega arith)

  first_of : (b : Bool) (a c : Option ℕ) → cond b (Some 0) (or_else a c) ≡ or_else (cond b (Some 0) a) c
  first_of true a c = refl
  first_of false a c = refl

  place_append : (xs ys : List E) (k : ℕ) → place_from p k (xs ++ ys) ≡ or_else (place_from p k xs)
      (option_map (λ n. n + length xs) (place_from p (k - length xs) ys))
  place_append [] ys k = map_zero (place_from p k ys) ∙ ap (λ n. option_map (λ m. m + 0) (place_from p n ys)) (omega arith)
  place_append (x ∷ xs) ys zero =
      ap (λ o. cond (p x) (Some 0) (option_map (λ n. n + 1) o)) (place_append xs ys zero)
      ∙ ap (λ o. cond (p x) (Some 0) o) (map_or_else (place_from p zero xs) (option_map (λ n. n + length xs) (place_from p (0 - length xs) ys))
      ∙ ap (λ o. or_else (option_map (λ n. n + 1) (place_from p zero xs)) o)
      (map_add (length xs) (length (x ∷ xs)) (place_from p (0 - length xs) ys) (omega arith)))
      ∙ first_of (p x) (option_map (λ n. n + 1) (place_from p zero xs)) (option_map (λ n. n + length (x ∷ xs)) (place_from p (0 - length xs) ys))
      ∙ ap (λ n. or_else (cond (p x) (Some 0) (option_map (λ m. m + 1) (place_from p zero xs)))
      (option_map (λ m. m + length (x ∷ xs)) (place_from p n ys))) (omega arith)
  place_append (x ∷ xs) ys (suc k) =
      ap (λ o. option_map (λ n. n + 1) o) (place_append xs ys k)
      ∙ map_or_else (place_from p k xs) (option_map (λ n. n + length xs) (place_from p (k - length xs) ys))
      ∙ ap (λ o. or_else (option_map (λ n. n + 1) (place_from p k xs)) o)
      (map_add (length xs) (length (x ∷ xs)) (place_from p (k - length xs) ys) (omega arith))
      ∙ ap (λ n. or_else (option_map (λ m. m + 1) (place_from p k xs)) (option_map (λ m. m + length (x ∷ xs)) (place_from p n ys))) (omega arith)

  module _ (x : E) (xs ys : List E) (k : ℕ) (h : k ≡ 0 → p x ≡ false) where
    -- found in the first part
    pub place_first : (j : ℕ) → Some j ≡ place_from p (k - 1) xs → Some (j + 1) ≡ place_from p k (x ∷ (xs ++ ys))
    place_first j f = sym (place_step x (xs ++ ys) k h ∙ ap (λ o. option_map (λ n. n + 1) o)
        (place_append xs ys (k - 1) ∙ ap (λ o. or_else o (option_map (λ n. n + length xs)
        (place_from p (k - 1 - length xs) ys))) (sym f)))

    -- not found in the first part
    pub place_second : None ≡ place_from p (k - 1) xs → option_map (λ n. n + (length xs + 1))
        (place_from p (k - 1 - length xs) ys) ≡ place_from p k (x ∷ (xs ++ ys))
    place_second f = sym (place_step x (xs ++ ys) k h ∙ ap (λ o. option_map (λ n. n + 1) o)
        (place_append xs ys (k - 1) ∙ ap (λ o. or_else o (option_map (λ n. n + length xs)
        (place_from p (k - 1 - length xs) ys))) (sym f))
        ∙ map_add (length xs) (length xs + 1) (place_from p (k - 1 - length xs) ys) refl)

  mapped : (o : Option ℕ) (j : ℕ) → option_map (λ n. n + 1) o ≡ Some j → (i : ℕ) × (o ≡ Some i) × (j ≡ i + 1)
  mapped None j h = cc
  mapped (Some x) j h = let e : x + 1 ≡ j = cc in (x, refl, sym e)

  within_by : (b : Bool) (xs : List E) (j : ℕ) → cond b (Some 0) (option_map (λ n. n + 1) (place_from p zero xs)) ≡ Some j
      → ((i : ℕ) → place_from p zero xs ≡ Some i → i < length xs) → j < suc (length xs)
  within_by true xs j h f = let e : 0 ≡ j = cc in omega (arith, e)
  within_by false xs j h f =
      let m = mapped (place_from p zero xs) j h in
      let w = f m.0 m.1 in
      omega (arith, w, m.2)

  pub place_within : (xs : List E) (k j : ℕ) → place_from p k xs ≡ Some j → j < length xs
  place_within [] k j h = cc
  place_within (x ∷ xs) zero j h = within_by (p x) xs j h (place_within xs zero)
  place_within (x ∷ xs) (suc k) j h =
      let m = mapped (place_from p k xs) j h in
      let w = place_within xs k m.0 m.1 in
      omega (arith, w, m.2)

  pub places_within : (xs : List E) (k : ℕ) (o : Option ℕ) → o ≡ place_from p k xs → IfSome o (λ j. j < length xs)
  places_within xs k None h = tt
  places_within xs k (Some j) h = place_within xs k j (sym h)

  mapped_none : (o : Option ℕ) → option_map (λ n. n + 1) o ≡ None → o ≡ None
  mapped_none None h = refl
  mapped_none (Some x) h = cc

  none_by : (b : Bool) (x : E) (xs : List E) → cond b (Some 0) (option_map (λ n. n + 1) (place_from p zero xs)) ≡ None
      → (place_from p zero xs ≡ None → filter p xs ≡ []) → cond b (x ∷ filter p xs) (filter p xs) ≡ []
  none_by true x xs h f = cc
  none_by false x xs h f = f (mapped_none (place_from p zero xs) h)

  -- if no place is found, none of the items from there on passes
  pub rest_none : (xs : List E) (k : ℕ) → place_from p k xs ≡ None → filter p (drop k xs) ≡ []
  rest_none [] zero h = refl
  rest_none [] (suc k) h = refl
  rest_none (x ∷ xs) zero h = none_by (p x) x xs h (rest_none xs zero)
  rest_none (x ∷ xs) (suc k) h = rest_none xs k (mapped_none (place_from p k xs) h)

  abbrev IsRest : List E → List E → ℕ → Type 0
  IsRest rest xs j = MatchOption (slice_get xs j) ⊥ (λ y. rest ≡ y ∷ filter p (drop (suc j) xs))

  later : (rest : List E) (x : E) (xs : List E) (i j : ℕ) → j ≡ i + 1 → IsRest rest xs i → IsRest rest (x ∷ xs) j
  later rest x xs i j q h = let e : suc i ≡ j = omega (arith, q) in subst (λ n. IsRest rest (x ∷ xs) n) e h

  some_by : (b : Bool) (x : E) (xs : List E) (j : ℕ) → cond b (Some 0) (option_map (λ n. n + 1) (place_from p zero xs)) ≡ Some j
      → ((i : ℕ) → place_from p zero xs ≡ Some i → IsRest (filter p xs) xs i) → IsRest (cond b (x ∷ filter p xs) (filter p xs)) (x ∷ xs) j
  some_by true x xs j h f = let e : 0 ≡ j = cc in subst (λ n. IsRest (x ∷ filter p xs) (x ∷ xs) n) e refl
  some_by false x xs j h f =
      let m = mapped (place_from p zero xs) j h in
      later (filter p xs) x xs m.0 j m.2 (f m.0 m.1)

  -- if one is found, its item is the first of those from there on that pass
  pub rest_some : (xs : List E) (k j : ℕ) → place_from p k xs ≡ Some j → IsRest (filter p (drop k xs)) xs j
  rest_some [] k j h = cc
  rest_some (x ∷ xs) zero j h = some_by (p x) x xs j h (rest_some xs zero)
  rest_some (x ∷ xs) (suc k) j h =
      let m = mapped (place_from p k xs) j h in
      later (filter p (drop k xs)) x xs m.0 j m.2 (rest_some xs k m.0 m.1)

  pub places_fit : (xs : List E) (k : ℕ) (o : Option ℕ) → o ≡ place_from p k xs → (by most : ℕ) → length xs + by ≤ most → IfSome o (λ j. j + by < most)
  places_fit xs k None h by most l = tt
  places_fit xs k (Some j) h by most l = let w = place_within xs k j (sym h) in omega (arith, w, l)

pub not_here : (k : ℕ) (b : Bool) → ((k == 0) && b) ≡ false → k ≡ 0 → b ≡ false
not_here zero b h q = h
not_here (suc k) b h q = absurd (omega (arith, q))
