-- The first word of a line, by the first space.
use Rattle.std.proofs.Common.{◌≡◌, ℕ, ◌+◌, ◌<◌, ◌≤◌, ◌&&◌, get_or, List, [], ◌∷◌, length, take, drop, Bool, true, false, None, Some, refl, ◌∙◌, ap, arith}
use Rattle.std.specs.Prelude.{nat_eq}
use Rattle.std.specs.Str.{bytes_eq}
use Rattle.std.proofs.lemmas.List.{drop_more}
use Rattle.std.proofs.lemmas.Bool.Decides.{nat_tests}
use Rattle.std.proofs.lemmas.List.Splits.{slice_split_first, slice_split-cons_no}
use Rattle.std.specs.Prelude.{position}
use Rattle.std.specs.List.{position_or_len, slice_split, onto_first}

-- an element that passes is found at once
found_first : {A : Type 0} (p : A → Bool) (x : A) (xs : List A) → p x ≡ true → length (x ∷ xs) ≤ position_or_len p (x ∷ xs) → ⊥
found_first p x xs is far = grind arith

-- one that does not pass is left out of the search
found_later : {A : Type 0} (p : A → Bool) (x : A) (xs : List A) → p x ≡ false → length (x ∷ xs) ≤ position_or_len p (x ∷ xs) → length xs ≤ position_or_len p xs
found_later p x xs is far = grind arith

far_whole : {A : Type 0} (p : A → Bool) (xs : List A) → length xs ≤ position_or_len p xs → slice_split p xs ≡ xs ∷ []
far_whole p [] far = refl
far_whole {A} p (x ∷ xs) far = go (p x) refl (far_whole p xs)
  where
    go : (b : Bool) → p x ≡ b → (length xs ≤ position_or_len p xs → slice_split p xs ≡ xs ∷ []) → slice_split p (x ∷ xs) ≡ (x ∷ xs) ∷ []
    go true is rest = absurd (found_first p x xs is far)
    go false is rest = slice_split-cons_no p x xs is ∙ ap (onto_first x) (rest (found_later p x xs is far))

pub none_far : {A : Type 0} (p : A → Bool) (xs : List A) → position p xs ≡ None → length xs ≤ position_or_len p xs
none_far p xs none = grind (arith, nat_tests)

pub some_near : {A : Type 0} (p : A → Bool) (xs : List A) (i : ℕ) → position p xs ≡ Some i → (position_or_len p xs < length xs) × (position_or_len p xs ≡ i)
some_near p xs i some = grind (arith, nat_tests)

-- where no element passes, the list is one part
pub split_whole : {A : Type 0} (p : A → Bool) (xs : List A) → position p xs ≡ None → slice_split p xs ≡ xs ∷ []
split_whole p xs none = far_whole p xs (none_far p xs none)

-- the first part ends at the first element that passes
pub split_at : {A : Type 0} (p : A → Bool) (xs : List A) (d : A) (i : ℕ) → position p xs ≡ Some i →
    slice_split p xs ≡ take i xs ∷ slice_split p (drop (i + 1) xs)
split_at p xs d i some =
    let near = some_near p xs i some in
    slice_split_first p xs d near.0 ∙ ap (λ (n : ℕ). take n xs ∷ slice_split p (drop (n + 1) xs)) near.1

-- two words are the same if their first bytes are, and the rest
pub eq_drop : (xs ys : List ℕ) (k : ℕ) → k < length xs → k < length ys →
    bytes_eq (drop k xs) (drop k ys) ≡ (nat_eq (get_or xs k 0) (get_or ys k 0) && bytes_eq (drop (k + 1) xs)
    (drop (k + 1) ys))
eq_drop xs ys k less less' = rw (drop_more xs k 0 less, drop_more ys k 0 less') refl
