-- A finite map as the list of its pairs, in the order of their keys.
use Rattle.std.specs.Prelude.{◌≡◌, Bool, cond, List, [], ◌∷◌, Option, Some, None}
use Rattle.std.specs.declared.cmp.Ordering.{Ordering}
use Rattle.std.specs.declared.cmp.Ordering.TheVariants.{Less, Equal, Greater}
use Rattle.std.specs.Ordering.{is_eq}

-- each item has P
abbrev pub AllItems : {A : Type 0} → (A → Type 0) → List A → Type 0
AllItems P [] = Unit {0}
AllItems P (x ∷ xs) = P x × AllItems P xs

-- the first item that passes
abbrev pub first : {A : Type 0} → (A → Bool) → List A → Option A
first p [] = None
first p (x ∷ xs) = cond (p x) (Some x) (first p xs)

-- the first, if there is one, or else the second
abbrev pub or_else : {A : Type 0} → Option A → Option A → Option A
or_else None b = b
or_else (Some a) b = Some a

-- the last item that passes
abbrev pub last : {A : Type 0} → (A → Bool) → List A → Option A
last p [] = None
last p (x ∷ xs) = or_else (last p xs) (cond (p x) (Some x) None)

-- one of three by an ordering
abbrev pub by_order : {A : Type 0} → Ordering → A → A → A → A
by_order Less a b c = a
by_order Equal a b c = b
by_order Greater a b c = c

module _ {K V : Type 0} (cmp : K → K → Ordering) where
  -- each key is below all later keys
  abbrev pub IsOrdered : List (K × V) → Type 0
  IsOrdered [] = Unit {0}
  IsOrdered (e ∷ es) = AllItems (λ f. cmp e.0 f.0 ≡ Less) es × IsOrdered es

  -- the value at a key
  abbrev pub value_at : K → List (K × V) → Option V
  value_at k [] = None
  value_at k (e ∷ es) = cond (is_eq (cmp k e.0)) (Some e.1) (value_at k es)

  -- the pairs with one more in its place, unless its key is there
  abbrev pub with_entry : K × V → List (K × V) → List (K × V)
  with_entry x [] = x ∷ []
  with_entry x (e ∷ es) = by_order (cmp x.0 e.0) (x ∷ e ∷ es) (e ∷ es) (e ∷ with_entry x es)

  -- the pairs es with those of xs put in, one after the other
  abbrev pub with_entries : List (K × V) → List (K × V) → List (K × V)
  with_entries [] es = es
  with_entries (x ∷ xs) es = with_entries xs (with_entry x es)

  -- the pairs without the one at a key
  abbrev pub without_key : K → List (K × V) → List (K × V)
  without_key k [] = []
  without_key k (e ∷ es) = cond (is_eq (cmp k e.0)) es (e ∷ without_key k es)
