-- What a push and a pop do to rows.
use Rattle.std.proofs.Common.{◌≡◌, ℕ, ◌+◌, ◌*◌, ◌<◌, ◌≤◌, ◌⊎◌, List, length, set, replicate, inl, inr, arith, subst, sym}
use Rattle.std.proofs.lemmas.List.{get_or-set_same, get_or-set_other, get_or-replicate, length-set}
use Rattle.std.proofs.lemmas.Bool.{cases_eq}
use Rattle.heap_cache.specs.Stacks.{height, AreWithin}

-- the rows after a push
abbrev pub pushed : List ℕ → ℕ → ℕ → List ℕ
pushed rows class address = set (set rows (class * 16 + height rows class + 1) address) (class * 16) (height rows class + 1)

pub pushed_within : (rows : List ℕ) (class address : ℕ) → length rows ≡ 1056 → AreWithin rows → class < 66 → height rows class < 15 → AreWithin (pushed rows class address)
pushed_within rows class address len within low room other other_low = go (cases_eq other class)
  where
    place : ℕ
    place = class * 16 + height rows class + 1

    first : List ℕ
    first = set rows place address

    go : (other ≡ class) ⊎ (other ≡ class → ⊥) → height (pushed rows class address) other ≤ 15
    go (inl same) =
        let is = get_or-set_same first (class * 16) (height rows class + 1) 0 (omega (arith, len, length-set rows place address)) in
        subst (λ (k : ℕ). height (pushed rows class address) k ≤ 15) (sym same) (omega (arith, is))
    go (inr differ) =
        let one = get_or-set_other first (class * 16) (other * 16) (height rows class + 1) 0 (λ same. differ (omega (arith, same))) in
        let two = get_or-set_other rows place (other * 16) address 0 (λ same. differ (omega (arith, same))) in
        let few = within other other_low in
        omega (arith, one, two, few)

pub zeros_within : AreWithin (replicate 1056 0)
zeros_within class low = let zero = get_or-replicate {A = ℕ} 1056 (class * 16) 0 0 (omega arith) in omega (arith, zero)
