-- Lists of pairs in the order of their keys, and what a search meets on either side of a pair.
use Rattle.std.proofs.Common.{◌≡◌, ◌+◌, ◌≤◌, length, arith, Bool, true, false, not, cond, List, [], ◌∷◌, ◌++◌, Option, Some, None, IsSome, refl, sym, ap, ◌∙◌}
use Rattle.std.specs.declared.cmp.Ordering.{Ordering}
use Rattle.std.specs.declared.cmp.Ordering.TheVariants.{Less, Equal, Greater}
use Rattle.std.specs.Ordering.{is_eq, is_lt, is_gt, ordering_reverse, ordering_then}
use Rattle.std.proofs.lemmas.Bool.{true≢false}
use Rattle.std.specs.Cmp.{IsTotalOrder, then_total, on_total}
use Rattle.meminterval.specs.declared.interval.Interval.{Interval}
use Rattle.meminterval.specs.Interval.{by_ends, starts_below, starts_from}
use Rattle.meminterval.specs.Entries.{AllItems, IsOrdered, by_order, first, last, or_else, value_at, with_entry, without_key}

module _ {A : Type 0} where
  pub all_map : (P Q : A → Type 0) → ((x : A) → P x → Q x) → (xs : List A) → AllItems P xs → AllItems Q xs
  all_map P Q f [] a = tt
  all_map P Q f (x ∷ xs) a = (f x a.0, all_map P Q f xs a.1)

  pub all_front : (P : A → Type 0) (xs ys : List A) → AllItems P (xs ++ ys) → AllItems P xs
  all_front P [] ys a = tt
  all_front P (x ∷ xs) ys a = (a.0, all_front P xs ys a.1)

  pub all_back : (P : A → Type 0) (xs ys : List A) → AllItems P (xs ++ ys) → AllItems P ys
  all_back P [] ys a = a
  all_back P (x ∷ xs) ys a = all_back P xs ys a.1

  pub all_append : (P : A → Type 0) (xs ys : List A) → AllItems P xs → AllItems P ys → AllItems P (xs ++ ys)
  all_append P [] ys a b = b
  all_append P (x ∷ xs) ys a b = (a.0, all_append P xs ys a.1 b)

  pub or_else-none : (a : Option A) → or_else a None ≡ a
  or_else-none None = refl
  or_else-none (Some x) = refl

  pub or_else-assoc : (a b c : Option A) → or_else (or_else a b) c ≡ or_else a (or_else b c)
  or_else-assoc None b c = refl
  or_else-assoc (Some x) b c = refl

  first_cases : (b : Bool) (x : A) (o m : Option A) → cond b (Some x) (or_else o m) ≡ or_else (cond b (Some x) o) m
  first_cases true x o m = refl
  first_cases false x o m = refl

  pub first-append : (p : A → Bool) (xs ys : List A) → first p (xs ++ ys) ≡ or_else (first p xs) (first p ys)
  first-append p [] ys = refl
  first-append p (x ∷ xs) ys = ap (λ o. cond (p x) (Some x) o) (first-append p xs ys) ∙ first_cases (p x) x (first p xs) (first p ys)

  pub last-append : (p : A → Bool) (xs ys : List A) → last p (xs ++ ys) ≡ or_else (last p ys) (last p xs)
  last-append p [] ys = sym (or_else-none (last p ys))
  last-append p (x ∷ xs) ys = ap (λ o. or_else o (cond (p x) (Some x) None)) (last-append p xs ys)
      ∙ or_else-assoc (last p ys) (last p xs) (cond (p x) (Some x) None)

  pub first_none : (p : A → Bool) (xs : List A) → AllItems (λ x. p x ≡ false) xs → first p xs ≡ None
  first_none p [] a = refl
  first_none p (x ∷ xs) a = rw a.0 (first_none p xs a.1)

  pub last_none : (p : A → Bool) (xs : List A) → AllItems (λ x. p x ≡ false) xs → last p xs ≡ None
  last_none p [] a = refl
  last_none p (x ∷ xs) a = rw (last_none p xs a.1, a.0)

module _ {A : Type 0} (p : A → Bool) (l : List A) (e : A) (r : List A) where
  pub first_left : p e ≡ true → first p (l ++ e ∷ r) ≡ or_else (first p l) (Some e)
  first_left h = first-append p l (e ∷ r) ∙ ap (λ b. or_else (first p l) (cond b (Some e) (first p r))) h

  pub first_right : AllItems (λ x. p x ≡ false) l → p e ≡ false → first p (l ++ e ∷ r) ≡ first p r
  first_right a h = first-append p l (e ∷ r) ∙ ap (λ o. or_else o (cond (p e) (Some e) (first p r))) (first_none p l a)
      ∙ ap (λ b. cond b (Some e) (first p r)) h

  pub last_right : p e ≡ true → last p (l ++ e ∷ r) ≡ or_else (last p r) (Some e)
  last_right h = last-append p l (e ∷ r) ∙ ap (λ b. or_else (or_else (last p r) (cond b (Some e) None)) (last p l)) h
      ∙ or_else-assoc (last p r) (Some e) (last p l)

  pub last_left : AllItems (λ x. p x ≡ false) r → p e ≡ false → last p (l ++ e ∷ r) ≡ last p l
  last_left a h = last-append p l (e ∷ r) ∙ ap (λ o. or_else (or_else o (cond (p e) (Some e) None)) (last p l))
      (last_none p r a) ∙ ap (λ b. or_else (cond b (Some e) None) (last p l)) h

-- the order by start and then by end is total if that of the ends is
pub by_ends-total : {T : Type 0} {cmp : T → T → Ordering} → IsTotalOrder cmp → IsTotalOrder (by_ends cmp)
by_ends-total o = then_total (on_total (λ i. i.start) o) (on_total (λ i. i.end) o)

module _ {K : Type 0} (cmp : K → K → Ordering) (o : IsTotalOrder cmp) where
  pub turned : (x y : K) → cmp x y ≡ Less → cmp y x ≡ Greater
  turned x y p = o.antisymm y x ∙ ap ordering_reverse p

  pub turned_back : (x y : K) → cmp x y ≡ Greater → cmp y x ≡ Less
  turned_back x y p = o.antisymm y x ∙ ap ordering_reverse p

  above_by : (k x y : K) (r : Ordering) → cmp k x ≡ r → is_lt r ≡ false → cmp y x ≡ Less → cmp k y ≡ Greater
  above_by k x y Less p h q = absurd (true≢false h)
  above_by k x y Equal p h q = o.congr k x y p ∙ turned y x q
  above_by k x y Greater p h q = turned y k (o.trans y x k q (turned_back k x p))

  below_by : (k x y : K) (r : Ordering) → cmp k x ≡ r → is_gt r ≡ false → cmp x y ≡ Less → cmp k y ≡ Less
  below_by k x y Less p h q = o.trans k x y p q
  below_by k x y Equal p h q = o.congr k x y p ∙ q
  below_by k x y Greater p h q = absurd (true≢false h)

module _ {K V : Type 0} (cmp : K → K → Ordering) where
  pub ordered_front : (l m : List (K × V)) → IsOrdered cmp (l ++ m) → IsOrdered cmp l
  ordered_front [] m s = tt
  ordered_front (x ∷ l) m s = (all_front (λ f. cmp x.0 f.0 ≡ Less) l m s.0, ordered_front l m s.1)

  pub ordered_back : (l m : List (K × V)) → IsOrdered cmp (l ++ m) → IsOrdered cmp m
  ordered_back [] m s = s
  ordered_back (x ∷ l) m s = ordered_back l m s.1

  pub ordered_after : (l : List (K × V)) (e : K × V) (r : List (K × V)) → IsOrdered cmp (l ++ e ∷ r) → IsOrdered cmp r
  ordered_after l e r s = (ordered_back l (e ∷ r) s).1

  -- what stands before a pair is below it
  pub before : (l : List (K × V)) (e : K × V) (r : List (K × V)) → IsOrdered cmp (l ++ e ∷ r) → AllItems (λ f. cmp f.0 e.0 ≡ Less) l
  before [] e r s = tt
  before (x ∷ l) e r s = ((all_back (λ f. cmp x.0 f.0 ≡ Less) l (e ∷ r) s.0).0, before l e r s.1)

  -- and what stands after it is above it
  pub after : (l : List (K × V)) (e : K × V) (r : List (K × V)) → IsOrdered cmp (l ++ e ∷ r) → AllItems (λ f. cmp e.0 f.0 ≡ Less) r
  after l e r s = (ordered_back l (e ∷ r) s).0

  module _ (o : IsTotalOrder cmp) where
    -- a key that is not below a pair is above all that stand before it
    pub above_before : (k : K) (l : List (K × V)) (e : K × V) (r : List (K × V)) → is_lt (cmp k e.0) ≡ false →
        IsOrdered cmp (l ++ e ∷ r) → AllItems (λ f. cmp k f.0 ≡ Greater) l
    above_before k l e r h s = all_map (λ f. cmp f.0 e.0 ≡ Less) (λ f. cmp k f.0 ≡ Greater)
        (λ f q. above_by cmp o k e.0 f.0 (cmp k e.0) refl h q) l (before l e r s)

    -- a key that is not above a pair is below all that stand after it
    pub below_after : (k : K) (l : List (K × V)) (e : K × V) (r : List (K × V)) → is_gt (cmp k e.0) ≡ false →
        IsOrdered cmp (l ++ e ∷ r) → AllItems (λ f. cmp k f.0 ≡ Less) r
    below_after k l e r h s = all_map (λ f. cmp e.0 f.0 ≡ Less) (λ f. cmp k f.0 ≡ Less) (λ f q. below_by cmp o k e.0 f.0 (cmp k e.0) refl h q) r (after l e r s)

  -- past pairs that are all below
  value_past : (k : K) (l m : List (K × V)) → AllItems (λ f. cmp k f.0 ≡ Greater) l → value_at cmp k (l ++ m) ≡ value_at cmp k m
  value_past k [] m a = refl
  value_past k (x ∷ l) m a = rw a.0 (value_past k l m a.1)

  with_past : (x : K × V) (l m : List (K × V)) → AllItems (λ f. cmp x.0 f.0 ≡ Greater) l → with_entry cmp x (l ++ m) ≡ l ++ with_entry cmp x m
  with_past x [] m a = refl
  with_past x (y ∷ l) m a = rw a.0 (ap (λ es. y ∷ es) (with_past x l m a.1))

  without_past : (k : K) (l m : List (K × V)) → AllItems (λ f. cmp k f.0 ≡ Greater) l → without_key cmp k (l ++ m) ≡ l ++ without_key cmp k m
  without_past k [] m a = refl
  without_past k (x ∷ l) m a = rw a.0 (ap (λ es. x ∷ es) (without_past k l m a.1))

  -- before pairs that are all above
  value_none : (k : K) (r : List (K × V)) → AllItems (λ f. cmp k f.0 ≡ Less) r → value_at cmp k r ≡ None
  value_none k [] a = refl
  value_none k (x ∷ r) a = rw a.0 (value_none k r a.1)

  without_none : (k : K) (r : List (K × V)) → AllItems (λ f. cmp k f.0 ≡ Less) r → without_key cmp k r ≡ r
  without_none k [] a = refl
  without_none k (x ∷ r) a = rw a.0 (ap (λ es. x ∷ es) (without_none k r a.1))

  value_before : (k : K) (l m : List (K × V)) → value_at cmp k m ≡ None → value_at cmp k (l ++ m) ≡ value_at cmp k l
  value_before k [] m h = h
  value_before k (x ∷ l) m h = ap (λ o. cond (is_eq (cmp k x.0)) (Some x.1) o) (value_before k l m h)

  without_cases : (b : Bool) (x : K × V) (l m u v : List (K × V)) → v ≡ u ++ m → cond b (l ++ m) (x ∷ v) ≡ cond b l (x ∷ u) ++ m
  without_cases true x l m u v e = refl
  without_cases false x l m u v e = ap (λ es. x ∷ es) e

  without_before : (k : K) (l m : List (K × V)) → without_key cmp k m ≡ m → without_key cmp k (l ++ m) ≡ without_key cmp k l ++ m
  without_before k [] m h = h
  without_before k (x ∷ l) m h = without_cases (is_eq (cmp k x.0)) x l m (without_key cmp k l) (without_key cmp k (l ++ m)) (without_before k l m h)

  with_cases : (r : Ordering) (x y : K × V) (l m u v : List (K × V)) → v ≡ u ++ m →
      by_order r (x ∷ y ∷ (l ++ m)) (y ∷ (l ++ m)) (y ∷ v) ≡ by_order r (x ∷ y ∷ l) (y ∷ l) (y ∷ u) ++ m
  with_cases Less x y l m u v e = refl
  with_cases Equal x y l m u v e = refl
  with_cases Greater x y l m u v e = ap (λ es. y ∷ es) e

  pub with_left : (x : K × V) (l : List (K × V)) (e : K × V) (r : List (K × V)) → cmp x.0 e.0 ≡ Less →
      with_entry cmp x (l ++ e ∷ r) ≡ with_entry cmp x l ++ e ∷ r
  with_left x [] e r h = rw h
  with_left x (y ∷ l) e r h = with_cases (cmp x.0 y.0) x y l (e ∷ r) (with_entry cmp x l) (with_entry cmp x (l ++ e ∷ r)) (with_left x l e r h)

  module _ (o : IsTotalOrder cmp) (l : List (K × V)) (e : K × V) (r : List (K × V)) (s : IsOrdered cmp (l ++ e ∷ r)) where
    pub value_left : (k : K) → cmp k e.0 ≡ Less → value_at cmp k (l ++ e ∷ r) ≡ value_at cmp k l
    value_left k h = value_before k l (e ∷ r) (rw h (value_none k r (below_after o k l e r (ap is_gt h) s)))

    pub value_middle : (k : K) → cmp k e.0 ≡ Equal → value_at cmp k (l ++ e ∷ r) ≡ Some e.1
    value_middle k h = value_past k l (e ∷ r) (above_before o k l e r (ap is_lt h) s) ∙ ap (λ w. cond (is_eq w) (Some e.1) (value_at cmp k r)) h

    pub value_right : (k : K) → cmp k e.0 ≡ Greater → value_at cmp k (l ++ e ∷ r) ≡ value_at cmp k r
    value_right k h = value_past k l (e ∷ r) (above_before o k l e r (ap is_lt h) s) ∙ ap (λ w. cond (is_eq w) (Some e.1) (value_at cmp k r)) h

    pub with_right : (x : K × V) → cmp x.0 e.0 ≡ Greater → with_entry cmp x (l ++ e ∷ r) ≡ l ++ e ∷ with_entry cmp x r
    with_right x h = with_past x l (e ∷ r) (above_before o x.0 l e r (ap is_lt h) s) ∙ ap (λ w. l ++ by_order w (x ∷ e ∷ r) (e ∷ r) (e ∷ with_entry cmp x r)) h

    pub without_left : (k : K) → cmp k e.0 ≡ Less → without_key cmp k (l ++ e ∷ r) ≡ without_key cmp k l ++ e ∷ r
    without_left k h = without_before k l (e ∷ r) (rw h (ap (λ es. e ∷ es) (without_none k r (below_after o k l e r (ap is_gt h) s))))

    pub without_middle : (k : K) → cmp k e.0 ≡ Equal → without_key cmp k (l ++ e ∷ r) ≡ l ++ r
    without_middle k h = without_past k l (e ∷ r) (above_before o k l e r (ap is_lt h) s) ∙ ap (λ w. l ++ cond (is_eq w) r (e ∷ without_key cmp k r)) h

    pub without_right : (k : K) → cmp k e.0 ≡ Greater → without_key cmp k (l ++ e ∷ r) ≡ l ++ e ∷ without_key cmp k r
    without_right k h = without_past k l (e ∷ r) (above_before o k l e r (ap is_lt h) s) ∙ ap (λ w. l ++ cond (is_eq w) r (e ∷ without_key cmp k r)) h

-- if a start is below a key, so are the starts before it
module _ {T : Type 0} (cmp : T → T → Ordering) (o : IsTotalOrder cmp) (key : T) where
  starts_by : (a b : Interval T) (r q : Ordering) → cmp a.start b.start ≡ r → ordering_then r q ≡ Less →
      is_lt (cmp b.start key) ≡ true → is_lt (cmp a.start key) ≡ true
  starts_by a b Less q p h k = lower (cmp b.start key) refl k where
    lower : (s : Ordering) → cmp b.start key ≡ s → is_lt s ≡ true → is_lt (cmp a.start key) ≡ true
    lower Less e f = ap is_lt (o.trans a.start b.start key p e)
    lower Equal e f = absurd (true≢false (sym f))
    lower Greater e f = absurd (true≢false (sym f))
  starts_by a b Equal q p h k = ap is_lt (o.congr a.start b.start key p) ∙ k
  starts_by a b Greater q p h k = absurd (true≢false (sym (ap is_lt h)))

module _ {T V : Type 0} (cmp : T → T → Ordering) (o : IsTotalOrder cmp) (key : T) where
  module _ (l : List (Interval T × V)) (e : Interval T × V) (r : List (Interval T × V)) (s : IsOrdered (by_ends cmp) (l ++ e ∷ r)) where
    pub all_below : starts_below cmp key e ≡ true → AllItems (λ f. starts_below cmp key f ≡ true) l
    all_below h = all_map (λ f. by_ends cmp f.0 e.0 ≡ Less) (λ f. starts_below cmp key f ≡ true)
        (λ f q. starts_by cmp o key f.0 e.0 (cmp f.0.start e.0.start) (cmp f.0.end e.0.end) refl q h) l
        (before (by_ends cmp) l e r s)

    pub none_below : starts_below cmp key e ≡ false → AllItems (λ f. starts_below cmp key f ≡ false) r
    none_below h = all_map (λ f. by_ends cmp e.0 f.0 ≡ Less) (λ f. starts_below cmp key f ≡ false)
        (λ f q. not_below f (starts_below cmp key f) refl q) r (after (by_ends cmp) l e r s) where
          not_below : (f : Interval T × V) (b : Bool) → starts_below cmp key f ≡ b → by_ends cmp e.0 f.0 ≡ Less → starts_below cmp key f ≡ false
          not_below f true p q = absurd (true≢false (sym (starts_by cmp o key e.0 f.0 (cmp e.0.start f.0.start) (cmp e.0.end f.0.end) refl q p) ∙ h))
          not_below f false p q = p

    pub first_below : starts_below cmp key e ≡ true → first (starts_from cmp key) (l ++ e ∷ r) ≡ first (starts_from cmp key) r
    first_below h = first_right (starts_from cmp key) l e r (all_map (λ f. starts_below cmp key f ≡ true)
        (λ f. starts_from cmp key f ≡ false) (λ f q. ap not q) l (all_below h)) (ap not h)

    pub first_above : starts_below cmp key e ≡ false → first (starts_from cmp key) (l ++ e ∷ r) ≡ or_else (first (starts_from cmp key) l) (Some e)
    first_above h = first_left (starts_from cmp key) l e r (ap not h)

    pub last_below : starts_below cmp key e ≡ true → last (starts_below cmp key) (l ++ e ∷ r) ≡ or_else (last (starts_below cmp key) r) (Some e)
    last_below h = last_right (starts_below cmp key) l e r h

    pub last_above : starts_below cmp key e ≡ false → last (starts_below cmp key) (l ++ e ∷ r) ≡ last (starts_below cmp key) l
    last_above h = last_left (starts_below cmp key) l e r (none_below h) h

module _ {K V : Type 0} (cmp : K → K → Ordering) where
  length_by : (r : Ordering) (x e : K × V) (es fs : List (K × V)) → length fs ≤ length es + 1 →
      length (by_order r (x ∷ e ∷ es) (e ∷ es) (e ∷ fs)) ≤ length es + 2
  length_by Less x e es fs h = omega arith
  length_by Equal x e es fs h = omega arith
  length_by Greater x e es fs h = omega arith

  pub with_entry_length : (x : K × V) (es : List (K × V)) → length (with_entry cmp x es) ≤ length es + 1
  with_entry_length x [] = omega arith
  with_entry_length x (e ∷ es) = let h = length_by (cmp x.0 e.0) x e es (with_entry cmp x es) (with_entry_length x es) in omega (arith, h)

  all_by : (P : K × V → Type 0) (r : Ordering) (x e : K × V) (es fs : List (K × V)) → P x → P e × AllItems P es →
      AllItems P fs → AllItems P (by_order r (x ∷ e ∷ es) (e ∷ es) (e ∷ fs))
  all_by P Less x e es fs p a b = (p, a)
  all_by P Equal x e es fs p a b = a
  all_by P Greater x e es fs p a b = (a.0, b)

  pub all_with : (P : K × V → Type 0) (x : K × V) (es : List (K × V)) → P x → AllItems P es → AllItems P (with_entry cmp x es)
  all_with P x [] p a = (p, tt)
  all_with P x (e ∷ es) p a = all_by P (cmp x.0 e.0) x e es (with_entry cmp x es) p a (all_with P x es p a.1)

  module _ (o : IsTotalOrder cmp) where
    ordered_by : (r : Ordering) (x e : K × V) (es : List (K × V)) → cmp x.0 e.0 ≡ r → IsOrdered cmp (e ∷ es) →
        IsOrdered cmp (with_entry cmp x es) → IsOrdered cmp (by_order r (x ∷ e ∷ es) (e ∷ es) (e ∷ with_entry cmp x es))
    ordered_by Less x e es h s t = ((h, all_map (λ f. cmp e.0 f.0 ≡ Less) (λ f. cmp x.0 f.0 ≡ Less) (λ f q. o.trans x.0 e.0 f.0 h q) es s.0), s)
    ordered_by Equal x e es h s t = s
    ordered_by Greater x e es h s t = (all_with (λ f. cmp e.0 f.0 ≡ Less) x es (turned_back cmp o x.0 e.0 h) s.0, t)

    pub ordered_with : (x : K × V) (es : List (K × V)) → IsOrdered cmp es → IsOrdered cmp (with_entry cmp x es)
    ordered_with x [] s = (tt, tt)
    ordered_with x (e ∷ es) s = ordered_by (cmp x.0 e.0) x e es refl s (ordered_with x es s.1)

  all_cond : (P : K × V → Type 0) (b : Bool) (e : K × V) (es fs : List (K × V)) → P e × AllItems P es → AllItems P fs → AllItems P (cond b es (e ∷ fs))
  all_cond P true e es fs a b = a.1
  all_cond P false e es fs a b = (a.0, b)

  pub all_without : (P : K × V → Type 0) (k : K) (es : List (K × V)) → AllItems P es → AllItems P (without_key cmp k es)
  all_without P k [] a = tt
  all_without P k (e ∷ es) a = all_cond P (is_eq (cmp k e.0)) e es (without_key cmp k es) a (all_without P k es a.1)

  ordered_cond : (b : Bool) (e : K × V) (es fs : List (K × V)) → IsOrdered cmp (e ∷ es) →
      AllItems (λ f. cmp e.0 f.0 ≡ Less) fs → IsOrdered cmp fs → IsOrdered cmp (cond b es (e ∷ fs))
  ordered_cond true e es fs s a t = s.1
  ordered_cond false e es fs s a t = (a, t)

  pub ordered_without : (k : K) (es : List (K × V)) → IsOrdered cmp es → IsOrdered cmp (without_key cmp k es)
  ordered_without k [] s = tt
  ordered_without k (e ∷ es) s = ordered_cond (is_eq (cmp k e.0)) e es (without_key cmp k es) s
      (all_without (λ f. cmp e.0 f.0 ≡ Less) k es s.0) (ordered_without k es s.1)

  shorter_cond : (b : Bool) (e : K × V) (es fs : List (K × V)) → length fs ≤ length es → length (cond b es (e ∷ fs)) ≤ length es + 1
  shorter_cond true e es fs h = omega arith
  shorter_cond false e es fs h = omega arith

  pub without_length : (k : K) (es : List (K × V)) → length (without_key cmp k es) ≤ length es
  without_length k [] = omega arith
  without_length k (e ∷ es) = let h = shorter_cond (is_eq (cmp k e.0)) e es (without_key cmp k es) (without_length k es) in omega (arith, h)

module _ {K V : Type 0} (cmp : K → K → Ordering) (o : IsTotalOrder cmp) where
  there_by : (r : Ordering) (x e : K × V) (es : List (K × V)) → cmp x.0 e.0 ≡ r → AllItems (λ f. cmp e.0 f.0 ≡ Less) es
      → (IsSome (value_at cmp x.0 es) → with_entry cmp x es ≡ es) → IsSome
      (cond (is_eq r) (Some e.1) (value_at cmp x.0 es)) → by_order r (x ∷ e ∷ es) (e ∷ es)
      (e ∷ with_entry cmp x es) ≡ e ∷ es
  there_by Less x e es h a f s =
      let none = value_none cmp x.0 es (all_map (λ f. cmp e.0 f.0 ≡ Less) (λ f. cmp x.0 f.0 ≡ Less) (λ f q. o.trans x.0 e.0 f.0 h q) es a) in
      absurd (true≢false (sym (rw none at s)))
  there_by Equal x e es h a f s = refl
  there_by Greater x e es h a f s = ap (λ fs. e ∷ fs) (f s)

  -- a key that is there takes no new pair
  pub with_there : (x : K × V) (es : List (K × V)) → IsOrdered cmp es → IsSome (value_at cmp x.0 es) → with_entry cmp x es ≡ es
  with_there x [] s h = absurd (true≢false (sym h))
  with_there x (e ∷ es) s h = there_by (cmp x.0 e.0) x e es refl s.0 (with_there x es s.1) h
