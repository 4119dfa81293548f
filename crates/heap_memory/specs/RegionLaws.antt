-- What is granted with a further grant.
use Rattle.std.specs.Prelude.{◌≡◌, ℕ, ◌+◌, ◌<◌, ◌≤◌, ◌⊎◌, Bool, true, false, ◌&&◌, ◌||◌, nat_le, nat_lt, if◌then◌else◌, List, [], ◌∷◌, IsTrue}
use Rattle.std.specs.List.{AllByRecursion, list_all}
use Rattle.std.proofs.Common.{refl, sym, subst, inl, inr, arith}
use Rattle.std.proofs.lemmas.Bool.Decides.{nat_tests}
use Rattle.heap_memory.specs.declared.grant.Grant.{Grant}
use Rattle.heap_memory.specs.Regions.{is_granted, IsApart, with_grant, are_ordered, IsWhole, is_whole, are_whole}

-- a byte is granted with a further grant exactly if it is in the grant, or was granted
pub granted_with : (grant : Grant) (regions : List Grant) (at : ℕ) →
    is_granted (with_grant grant regions) at ≡ (is_granted (grant ∷ []) at || is_granted regions at)
granted_with grant [] at = grind (arith, nat_tests)
granted_with grant (region ∷ regions) at = grind (arith, nat_tests, granted_with grant regions at)

pub granted_kept : (grant : Grant) (regions : List Grant) (at : ℕ) → IsTrue (is_granted regions at) → IsTrue (is_granted (with_grant grant regions) at)
granted_kept grant regions at was = grind (arith, nat_tests, granted_with grant regions at)

pub granted_new : (grant : Grant) (regions : List Grant) (at : ℕ) → grant.base ≤ at → at < grant.base + grant.size →
    IsTrue (is_granted (with_grant grant regions) at)
granted_new grant regions at low high = grind (arith, nat_tests, granted_with grant regions at)

pub granted_split : (grant : Grant) (regions : List Grant) (at : ℕ) → IsTrue (is_granted (with_grant grant regions) at) →
    ((grant.base ≤ at) × (at < grant.base + grant.size)) ⊎ IsTrue (is_granted regions at)
granted_split grant regions at granted = split (is_granted regions at) refl
  where
    split : (b : Bool) → is_granted regions at ≡ b → ((grant.base ≤ at) × (at < grant.base + grant.size)) ⊎ IsTrue (is_granted regions at)
    split true was = inr was
    split false fresh = inl (grind (arith, nat_tests, granted_with grant regions at), grind (arith, nat_tests, granted_with grant regions at))

-- ---- the order of the regions

both_true : (a b : Bool) → IsTrue (a && b) → IsTrue a × IsTrue b
both_true true b h = (refl, h)
both_true false b h = absurd (cc)

both : {a b : Bool} → IsTrue a → IsTrue b → IsTrue (a && b)
both {a} {b} h k = subst (λ (c : Bool). IsTrue (c && b)) (sym h) k

-- a test that all regions and a further one pass is passed by all of the regions with that one
tests_with : (test : Grant → Bool) (grant : Grant) (regions : List Grant) → IsTrue (test grant) → IsTrue (list_all test regions) → IsTrue (list_all test (with_grant grant regions))
tests_with test grant [] here all = both here refl
tests_with test grant (region ∷ regions) here all =
    let parts = both_true (test region) (list_all test regions) all in
    go (nat_lt grant.base region.base) parts.0 parts.1 (tests_with test grant regions here parts.1)
  where
    go : (b : Bool) → IsTrue (test region) → IsTrue (list_all test regions) → IsTrue (list_all test (with_grant grant regions)) → IsTrue (list_all test (if b then grant ∷ region ∷ regions else region ∷ with_grant grant regions))
    go true first others rest = both here (both first others)
    go false first others rest = both first rest

-- regions that begin at an address or after it also begin at each lower one or after it
begins_later : (low high : ℕ) (regions : List Grant) → low ≤ high → IsTrue (list_all (λ later. nat_le high later.base) regions) → IsTrue (list_all (λ later. nat_le low later.base) regions)
begins_later low high [] below all = refl
begins_later low high (region ∷ regions) below all =
    let parts = both_true (nat_le high region.base) (list_all (λ later. nat_le high later.base) regions) all in
    both (grind (arith, nat_tests)) (begins_later low high regions below parts.1)

-- the regions stay ordered with a grant that is apart from them
pub ordered_with : (grant : Grant) (regions : List Grant) → 0 < grant.size → AllByRecursion (IsApart grant.base (grant.base + grant.size)) regions → IsTrue (are_ordered regions) → IsTrue (are_ordered (with_grant grant regions))
ordered_with grant [] some apart ordered = refl
ordered_with grant (region ∷ regions) some apart ordered =
    let parts = both_true (list_all (λ later. nat_le (region.base + region.size) later.base) regions) (are_ordered regions) ordered in
    go (nat_lt grant.base region.base) refl parts.0 parts.1 (ordered_with grant regions some apart.1 parts.1)
  where
    go : (b : Bool) → nat_lt grant.base region.base ≡ b → IsTrue (list_all (λ later. nat_le (region.base + region.size) later.base) regions) → IsTrue (are_ordered regions) → IsTrue (are_ordered (with_grant grant regions)) →
        IsTrue (are_ordered (if b then grant ∷ region ∷ regions else region ∷ with_grant grant regions))
    go true before later all rest =
        let first : grant.base < region.base = grind (arith, nat_tests) in
        let ends : grant.base + grant.size ≤ region.base = elim (apart.0) [ inl low ↦ absurd (omega arith) | inr high ↦ omega arith ] in
        both (both (grind (arith, nat_tests)) (begins_later (grant.base + grant.size) (region.base + region.size) regions (omega arith) later)) (both later all)
    go false behind later all rest =
        let second : region.base ≤ grant.base = grind (arith, nat_tests) in
        let ends : region.base + region.size ≤ grant.base = elim (apart.0) [ inl low ↦ omega arith | inr high ↦ absurd (omega arith) ] in
        both (tests_with (λ later. nat_le (region.base + region.size) later.base) grant regions (grind (arith, nat_tests)) later) rest

-- what holds of all regions holds of them with a further one for which it holds
pub all_with : (Is : Grant → Type 0) (grant : Grant) (regions : List Grant) → Is grant → AllByRecursion Is regions → AllByRecursion Is (with_grant grant regions)
all_with Is grant [] here all = (here, tt)
all_with Is grant (region ∷ regions) here all = go (nat_lt grant.base region.base) (all_with Is grant regions here all.1)
  where
    go : (b : Bool) → AllByRecursion Is (with_grant grant regions) → AllByRecursion Is (if b then grant ∷ region ∷ regions else region ∷ with_grant grant regions)
    go true rest = (here, (all.0, all.1))
    go false rest = (all.0, rest)

-- ---- whole regions

pub whole_with : (grant : Grant) (regions : List Grant) → IsTrue (is_whole grant) → IsTrue (are_whole regions) → IsTrue (are_whole (with_grant grant regions))
whole_with grant [] whole all = grind (arith, nat_tests)
whole_with grant (region ∷ regions) whole all = grind (arith, nat_tests, whole_with grant regions whole)

pub whole_is : (region : Grant) → IsTrue (is_whole region) → IsWhole region
whole_is region test = record {
  base_aligned = grind (arith, nat_tests);
  size_aligned = grind (arith, nat_tests);
  some = grind (arith, nat_tests);
  low = grind (arith, nat_tests);
  high = grind (arith, nat_tests);
}

pub whole_each : (regions : List Grant) → IsTrue (are_whole regions) → AllByRecursion IsWhole regions
whole_each [] all = tt
whole_each (region ∷ regions) all =
    let parts = both_true (is_whole region) (are_whole regions) all in
    (whole_is region parts.0, whole_each regions parts.1)
