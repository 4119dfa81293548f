-- Bytes of granted regions, and the words in which they lie.
use Rattle.std.proofs.Common.{◌≡◌, ℕ, ◌+◌, ◌-◌, ◌%◌, ◌^◌, ◌<◌, ◌≤◌, Bool, true, false, List, [], ◌∷◌, refl, arith, IsTrue}
use Rattle.std.specs.List.{AllByRecursion}
use Rattle.std.proofs.lemmas.Bool.Decides.{nat_tests}
use Rattle.heap_memory.specs.declared.grant.Grant.{Grant}
use Rattle.heap_memory.specs.Regions.{is_granted, are_whole, IsWhole, IsWordOf}
use Rattle.heap_memory.specs.RegionLaws.{whole_each}
use Rattle.object_pool.specs.Bytes.{AreGranted}

granted_word : (regions : List Grant) (at : ℕ) → AllByRecursion IsWhole regions → IsTrue (is_granted regions at) → IsTrue (is_granted regions (at - at % 8))
granted_word [] at whole granted = cc
granted_word (region ∷ regions) at whole granted = go (is_granted regions at) refl (granted_word regions at whole.1)
  where
    go : (b : Bool) → is_granted regions at ≡ b → (IsTrue (is_granted regions at) →
        IsTrue (is_granted regions (at - at % 8))) → IsTrue (is_granted (region ∷ regions) (at - at % 8))
    go true later rest = let there : IsTrue (is_granted regions (at - at % 8)) = rest later in grind (arith, nat_tests)
    go false none rest =
        let low : region.base ≤ at = grind (arith, nat_tests) in
        let high : at < region.base + region.size = grind (arith, nat_tests) in
        let aligned = whole.0.base_aligned in
        let low' : region.base ≤ at - at % 8 = omega arith in
        let high' : at - at % 8 < region.base + region.size = omega arith in
        grind (arith, nat_tests)

granted_small : (regions : List Grant) (at : ℕ) → AllByRecursion IsWhole regions → IsTrue (is_granted regions at) → at < 2 ^ 64
granted_small [] at whole granted = cc
granted_small (region ∷ regions) at whole granted = go (is_granted regions at) refl (granted_small regions at whole.1)
  where
    go : (b : Bool) → is_granted regions at ≡ b → (IsTrue (is_granted regions at) → at < 2 ^ 64) → at < 2 ^ 64
    go true later rest = rest later
    go false none rest =
        let high : at < region.base + region.size = grind (arith, nat_tests) in
        let end = whole.0.high in
        omega arith

-- the word of a granted byte is granted
pub word_of : (regions : List Grant) (at : ℕ) → IsTrue (are_whole regions) → IsTrue (is_granted regions at) → IsWordOf regions (at - at % 8)
word_of regions at whole granted = record { granted = granted_word regions at (whole_each regions whole) granted; aligned = omega arith }

-- the address of a granted byte is one
pub below : (regions : List Grant) (at : ℕ) → IsTrue (are_whole regions) → IsTrue (is_granted regions at) → at < 2 ^ 64
below regions at whole granted = granted_small regions at (whole_each regions whole) granted

-- a word stands at a granted multiple of 8
pub word_there : (regions : List Grant) (at : ℕ) → IsTrue (are_whole regions) → IsTrue (is_granted regions at) → at % 8 ≡ 0 → IsWordOf regions at
word_there regions at whole granted aligned = record { granted = granted; aligned = aligned }

pub granted_part : (regions : List Grant) (address count at n : ℕ) → AreGranted regions address count → address ≤ at →
    at + n ≤ address + count → AreGranted regions at n
granted_part regions address count at n there from to k above below = there k (omega arith) (omega arith)
