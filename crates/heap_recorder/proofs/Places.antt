-- Lists by place, and changes at the only place that can have what is looked for.
use Rattle.std.proofs.Common.{◌≡◌, ◌<◌, ◌⊎◌, ℕ, zero, suc, ◌+◌, Bool, true, false, List, [], ◌∷◌, ◌++◌, length, map, inl, inr, Option, None, Some, refl, sym, ◌∙◌, ap, arith}
use Rattle.std.specs.Prelude.{cond, find, slice_get, slice_set}
use Rattle.heap_recorder.specs.Places.{OnlyAt}

pub some_is : {A : Type 0} (x y : A) → Some x ≡ Some y → x ≡ y
some_is x y same = cc

pub none_some : {A : Type 0} (x : A) → None ≡ Some x → ⊥
none_some x same = cc

first_later : (k : ℕ) → Some zero ≡ Some (suc k) → ⊥
first_later k same = let e : zero ≡ suc k = some_is zero (suc k) same in omega (arith, e)

later_first : (k : ℕ) → Some (suc k) ≡ Some zero → ⊥
later_first k same = let e : suc k ≡ zero = some_is (suc k) zero same in omega (arith, e)

both_earlier : (p k : ℕ) → Some (suc p) ≡ Some (suc k) → Some p ≡ Some k
both_earlier p k same = let e : suc p ≡ suc k = some_is (suc p) (suc k) same in let f : p ≡ k = omega (arith, e) in ap (λ (n : ℕ). Some n) f

pub not_true : (b : Bool) → (b ≡ true → ⊥) → b ≡ false
not_true true is = absurd (is refl)
not_true false is = refl

pub not_both : (b : Bool) → b ≡ true → b ≡ false → ⊥
not_both true one other = cc
not_both false one other = cc

pub get_below : {A : Type 0} (xs : List A) (k : ℕ) (x : A) → slice_get xs k ≡ Some x → k < length xs
get_below [] k x is = absurd (none_some x is)
get_below (y ∷ xs) zero x is = omega arith
get_below (y ∷ xs) (suc k) x is = let less = get_below xs k x is in omega (arith, less)

pub get_kept : {A : Type 0} (xs ys : List A) (k : ℕ) (x : A) → slice_get xs k ≡ Some x → slice_get (xs ++ ys) k ≡ Some x
get_kept [] ys k x is = absurd (none_some x is)
get_kept (y ∷ xs) ys zero x is = is
get_kept (y ∷ xs) ys (suc k) x is = get_kept xs ys k x is

pub get_last : {A : Type 0} (xs : List A) (x : A) → slice_get (xs ++ x ∷ []) (length xs) ≡ Some x
get_last [] x = refl
get_last (y ∷ xs) x = get_last xs x

-- an item of a list with one more: an earlier one, or the last
pub get_push : {A : Type 0} (xs : List A) (x : A) (k : ℕ) (y : A) → slice_get (xs ++ x ∷ []) k ≡ Some y →
    (slice_get xs k ≡ Some y) ⊎ ((k ≡ length xs) × (x ≡ y))
get_push [] x zero y is = inr (refl, some_is x y is)
get_push [] x (suc k) y is = absurd (none_some y is)
get_push (z ∷ xs) x zero y is = inl is
get_push (z ∷ xs) x (suc k) y is = elim (get_push xs x k y is) [
  | inl old ↦ inl old
  | inr new ↦ inr (ap suc new.0, new.1)
]

-- an item of a list in which one was put: that one, or another
pub get_set : {A : Type 0} (xs : List A) (i : ℕ) (v : A) (k : ℕ) (y : A) → slice_get (slice_set xs i v) k ≡ Some y →
    ((k ≡ i) × (v ≡ y)) ⊎ ((slice_get xs k ≡ Some y) × (k ≡ i → ⊥))
get_set [] i v k y is = absurd (none_some y is)
get_set (z ∷ xs) zero v zero y is = inl (refl, some_is v y is)
get_set (z ∷ xs) zero v (suc k) y is = inr (is, λ (e : suc k ≡ zero). omega (arith, e))
get_set (z ∷ xs) (suc i) v zero y is = inr (is, λ (e : zero ≡ suc i). omega (arith, e))
get_set (z ∷ xs) (suc i) v (suc k) y is = elim (get_set xs i v k y is) [
  | inl here ↦ inl (ap suc here.0, here.1)
  | inr other ↦ inr (other.0, λ (e : suc k ≡ suc i). other.1 (omega (arith, e)))
]

pub get_set_same : {A : Type 0} (xs : List A) (i : ℕ) (v x : A) → slice_get xs i ≡ Some x → slice_get (slice_set xs i v) i ≡ Some v
get_set_same [] i v x is = absurd (none_some x is)
get_set_same (z ∷ xs) zero v x is = refl
get_set_same (z ∷ xs) (suc i) v x is = get_set_same xs i v x is

pub get_set_other : {A : Type 0} (xs : List A) (i : ℕ) (v : A) (k : ℕ) → (k ≡ i → ⊥) → slice_get (slice_set xs i v) k ≡ slice_get xs k
get_set_other [] i v k other = refl
get_set_other (z ∷ xs) zero v zero other = absurd (other refl)
get_set_other (z ∷ xs) zero v (suc k) other = refl
get_set_other (z ∷ xs) (suc i) v zero other = refl
get_set_other (z ∷ xs) (suc i) v (suc k) other = get_set_other xs i v k (λ e. other (ap suc e))

-- no item passes the test
abbrev pub IsMissed : {A : Type 0} → (A → Bool) → List A → Type 0
IsMissed {A} test items = (k : ℕ) (item : A) → slice_get items k ≡ Some item → test item ≡ true → ⊥

-- what does not pass the test is not changed
abbrev pub Keeps : {A : Type 0} → (A → Bool) → (A → A) → Type 0
Keeps {A} test change = (item : A) → test item ≡ false → change item ≡ item

pub missed_none : {A : Type 0} (test : A → Bool) (items : List A) (place : Option ℕ) → OnlyAt test items place → place ≡ None → IsMissed test items
missed_none test items place only is k item at passes = none_some k (sym is ∙ only k item at passes)

pub missed_past : {A : Type 0} (test : A → Bool) (items : List A) (place : ℕ) → OnlyAt test items (Some place) →
    slice_get items place ≡ None → IsMissed test items
missed_past test items place only is k item at passes =
    let same : place ≡ k = some_is place k (only k item at passes) in
    none_some item (sym is ∙ ap (slice_get items) same ∙ at)

pub missed_at : {A : Type 0} (test : A → Bool) (items : List A) (place : ℕ) (found : A) → OnlyAt test items (Some place) →
    slice_get items place ≡ Some found → test found ≡ false → IsMissed test items
missed_at test items place found only is fails k item at passes =
    let same : place ≡ k = some_is place k (only k item at passes) in
    let one : found ≡ item = some_is found item (sym is ∙ ap (slice_get items) same ∙ at) in
    not_both (test item) passes (ap test (sym one) ∙ fails)

pub map_missed : {A : Type 0} (test : A → Bool) (change : A → A) (items : List A) → Keeps test change → IsMissed test items → map change items ≡ items
map_missed test change [] keeps missed = refl
map_missed test change (x ∷ xs) keeps missed = (λ i. keeps x (not_true (test x) (missed zero x refl)) i ∷ map_missed test
    change xs keeps (λ k. missed (suc k)) i)

pub find_missed : {A : Type 0} (test : A → Bool) (items : List A) → IsMissed test items → find test items ≡ None
find_missed test [] missed = refl
find_missed {A} test (x ∷ xs) missed =
    ap (λ (b : Bool). cond {A = Option A} b (Some x) (find test xs)) (not_true (test x) (missed zero x refl)) ∙ find_missed test xs (λ k. missed (suc k))

pub map_at : {A : Type 0} (test : A → Bool) (change : A → A) (items : List A) (place : ℕ) (item : A) → Keeps test change →
    OnlyAt test items (Some place) → slice_get items place ≡ Some item →
    map change items ≡ slice_set items place (change item)
map_at test change [] place item keeps only is = absurd (none_some item is)
map_at test change (x ∷ xs) zero item keeps only is =
    (λ i. change (some_is x item is i) ∷ map_missed test change xs keeps (λ k y at passes. first_later k (only (suc k) y at passes)) i)
map_at test change (x ∷ xs) (suc place) item keeps only is =
    (λ i. keeps x (not_true (test x) (λ passes. later_first place (only zero x refl passes))) i
    ∷ map_at test change xs place item keeps (λ k y at passes. both_earlier place k (only (suc k) y at passes)) is i)

pub find_at : {A : Type 0} (test : A → Bool) (items : List A) (place : ℕ) (item : A) → OnlyAt test items (Some place) →
    slice_get items place ≡ Some item → test item ≡ true → find test items ≡ Some item
find_at test [] place item only is passes = absurd (none_some item is)
find_at {A} test (x ∷ xs) zero item only is passes =
    ap (λ (b : Bool). cond {A = Option A} b (Some x) (find test xs)) (ap test (some_is x item is) ∙ passes) ∙ is
find_at {A} test (x ∷ xs) (suc place) item only is passes =
    ap (λ (b : Bool). cond {A = Option A} b (Some x) (find test xs)) (not_true (test x) (λ hit. later_first place (only zero x refl hit)))
    ∙ find_at test xs place item (λ k y at hit. both_earlier place k (only (suc k) y at hit)) is passes
