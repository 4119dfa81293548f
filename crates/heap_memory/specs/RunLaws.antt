-- What is granted after bytes were given back.
use Rattle.std.specs.Prelude.{◌≡◌, ℕ, ◌+◌, ◌-◌, ◌%◌, ◌^◌, ◌<◌, ◌≤◌, ◌⊎◌, true, false, cond, not, ◌&&◌, nat_le, nat_lt, List, [], ◌∷◌, map, IsTrue}
use Rattle.std.specs.List.{AllByRecursion, list_all, filter}
use Rattle.std.proofs.Common.{refl, inl, inr, arith}
use Rattle.std.proofs.lemmas.Bool.Decides.{nat_tests}
use Rattle.heap_memory.specs.declared.grant.Grant.{Grant}
use Rattle.heap_memory.specs.Regions.{is_granted, are_ordered, are_whole, IsApart}
use Rattle.heap_memory.specs.Runs.{IsWithin, IsRun, begins_in, up_to, without_run}

-- nothing is granted that was not
pub granted_before : (low high : ℕ) (regions : List Grant) (at : ℕ) → IsTrue (is_granted (without_run low high regions) at) → IsTrue (is_granted regions at)
granted_before low high [] at granted = cc
granted_before low high (region ∷ regions) at granted = grind (arith, nat_tests, granted_before low high regions at)

-- exactly the bytes that were given back are granted no longer
pub granted_without : (start low high : ℕ) (regions : List Grant) (at : ℕ) → AllByRecursion (λ region. IsApart start high region ⊎ IsWithin start high region) regions →
    start ≤ low → low ≤ high → is_granted (without_run low high regions) at ≡ (is_granted regions at && not (nat_le low at && nat_lt at high))
granted_without start low high [] at whole after before = refl
granted_without start low high (region ∷ regions) at whole after before =
    let rest : is_granted (without_run low high regions) at ≡ (is_granted regions at && not (nat_le low at && nat_lt at high)) = granted_without start low high regions at whole.1 after before in
    elim whole.0 [
      | inl (inl below) ↦ grind (arith, nat_tests)
      | inl (inr above) ↦ grind (arith, nat_tests)
      | inr within ↦ grind (arith, nat_tests)
    ]

-- ---- a run begins with a region and ends with one

pub run_begins : (low high : ℕ) (regions : List Grant) → AllByRecursion (λ region. IsApart low high region ⊎ IsWithin low high region) regions →
    low < high → IsTrue (is_granted regions low) → IsTrue (are_whole regions) → low % 16 ≡ 0
run_begins low high [] whole some granted all = cc
run_begins low high (region ∷ regions) whole some granted all =
    let rest : IsTrue (is_granted regions low) → low % 16 ≡ 0 = λ g. run_begins low high regions whole.1 some g (grind (arith, nat_tests)) in
    elim whole.0 [
      | inl (inl below) ↦ grind (arith, nat_tests)
      | inl (inr above) ↦ grind (arith, nat_tests)
      | inr within ↦ grind (arith, nat_tests)
    ]

pub run_ends : (low high last : ℕ) (regions : List Grant) → AllByRecursion (λ region. IsApart low high region ⊎ IsWithin low high region) regions →
    low ≤ last → last + 1 ≡ high → IsTrue (is_granted regions last) → IsTrue (are_whole regions) → high < 2 ^ 64
run_ends low high last [] whole some is granted all = cc
run_ends low high last (region ∷ regions) whole some is granted all =
    let rest : IsTrue (is_granted regions last) → high < 2 ^ 64 = λ g. run_ends low high last regions whole.1 some is g (grind (arith, nat_tests)) in
    elim whole.0 [
      | inl (inl below) ↦ grind (arith, nat_tests)
      | inl (inr above) ↦ grind (arith, nat_tests)
      | inr within ↦ grind (arith, nat_tests)
    ]

pub run_aligned : (low high : ℕ) (regions : List Grant) → IsRun regions low high → IsTrue (are_whole regions) → low % 16 ≡ 0
run_aligned low high regions run all = run_begins low high regions run.whole run.some (run.granted low (omega arith) run.some) all

pub run_bounded : (low high : ℕ) (regions : List Grant) → IsRun regions low high → IsTrue (are_whole regions) → high < 2 ^ 64
run_bounded low high regions run all =
    let some : low < high = run.some in
    run_ends low high (high - 1) regions run.whole (omega arith) (omega arith) (run.granted (high - 1) (omega arith) (omega arith)) all

-- ---- what stays of each region

pub whole_without : (low high : ℕ) (regions : List Grant) → low % 16 ≡ 0 → IsTrue (are_whole regions) → IsTrue (are_whole (without_run low high regions))
whole_without low high [] aligned all = refl
whole_without low high (region ∷ regions) aligned all = grind (arith, nat_tests, whole_without low high regions aligned)

pub later_without : (end less low high : ℕ) (regions : List Grant) → less ≤ end → IsTrue (list_all (λ later. nat_le end later.base) regions) →
    IsTrue (list_all (λ later. nat_le less later.base) (without_run low high regions))
later_without end less low high [] below all = refl
later_without end less low high (region ∷ regions) below all = grind (arith, nat_tests, later_without end less low high regions below)

shorter : (place : ℕ) (region : Grant) → (up_to place region).base + (up_to place region).size ≤ region.base + region.size
shorter place region = grind (arith, nat_tests)

pub ordered_without : (low high : ℕ) (regions : List Grant) → IsTrue (are_ordered regions) → IsTrue (are_ordered (without_run low high regions))
ordered_without low high [] ordered = refl
ordered_without low high (region ∷ regions) ordered =
    let behind : IsTrue (list_all (λ later. nat_le (region.base + region.size) later.base) regions) = grind (arith, nat_tests) in
    let here : IsTrue (list_all (λ later. nat_le ((up_to low region).base + (up_to low region).size) later.base) (without_run low high regions)) =
    later_without (region.base + region.size) ((up_to low region).base + (up_to low region).size) low high regions (shorter low region) behind in
    let rest : IsTrue (are_ordered (without_run low high regions)) = ordered_without low high regions (grind (arith, nat_tests)) in
    elim (begins_in low high region) as (λ b. IsTrue (are_ordered (map (λ r. up_to low r) (cond (not b) (region ∷ filter (λ r. not (begins_in low high r)) regions) (filter (λ r. not (begins_in low high r)) regions))))) [
      | true ↦ rest
      | false ↦ grind (arith, nat_tests)
    ]
