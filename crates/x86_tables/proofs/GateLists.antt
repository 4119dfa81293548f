-- A part of a list that gives way to other elements.
use Rattle.std.proofs.Common.{◌≡◌, ℕ, zero, suc, ◌-◌, ◌<◌, ◌≤◌, List, [], ◌∷◌, ◌++◌, length, take, drop, get_or, slice_get, Some, refl, arith}
use Rattle.std.proofs.lemmas.List.{places, same_lists}
use Rattle.x86_tables.specs.Gates.{with_part}

-- an element within the list
pub slice_get_of : {X : Type 0} (xs : List X) (k : ℕ) (any : X) → k < length xs → Some (get_or xs k any) ≡ slice_get xs k
slice_get_of [] k any lt = absurd (omega arith)
slice_get_of (x ∷ xs) zero any lt = refl
slice_get_of (x ∷ xs) (suc k) any lt = slice_get_of xs k any (omega arith)

module _ {X : Type 0} (xs part : List X) (from to : ℕ) (order : from ≤ to) (within : to ≤ length xs) (long : length part ≡ to - from) where
  pub with_part-is : take from xs ++ (part ++ drop (to - from) (drop from xs)) ≡ with_part xs from to part
  with_part-is = same_lists _ _ (grind (arith, places)) (λ k d h. grind (arith, places))

  pub length-with_part : length (with_part xs from to part) ≡ length xs
  length-with_part = grind (arith, places)
