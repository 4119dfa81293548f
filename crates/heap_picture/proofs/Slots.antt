-- Which slots are large.
use Rattle.std.proofs.Common.{◌≡◌, ℕ, ◌-◌, ◌/◌, ◌%◌, ◌^◌, ◌≤◌, ◌↔◌, List, [], ◌∷◌, Bool, true, false, ◌==◌, ◌||◌, Option, Some, None, is_some, refl, sym, ◌∙◌, ap, subst, arith}
use Rattle.std.specs.Prelude.{IsTrue, IsSome}
use Rattle.std.specs.List.{AllByRecursion}
use Rattle.std.proofs.lemmas.Bool.Decides.{nat_tests}
use Rattle.paging_core.specs.Address.{is_canonical}
use Rattle.paging_core.specs.Walk.{Place, large_of}
use Rattle.machine_model.specs.State.{State}
use Rattle.machine_model.specs.Slots.{IsSlot, has_slot, slot_number}
use Rattle.paged_systems.specs.System.{paged}
use Rattle.kernel_heap.specs.Machine.{system_of}
use Rattle.kernel_heap.specs.declared.machine.Machine.{Machine}
use Rattle.paged_systems.specs.declared.paged_system.PagedSystem.{PagedSystem}
use Rattle.heap_program.specs.Progress.{IsAt}

same_number : (m n : ℕ) → (m == n) ≡ true → m ≡ n
same_number m n same = grind (arith, nat_tests, same)

-- what is no slot is none of the slots
pub no_slot : (slots : List ℕ) (slot : ℕ) → AllByRecursion IsSlot slots → (IsSlot slot → ⊥) → has_slot slots slot ≡ false
no_slot [] slot all none = refl
no_slot (one ∷ slots) slot all none = go (one == slot) refl (no_slot slots slot all.1 none)
  where
    go : (b : Bool) → (one == slot) ≡ b → has_slot slots slot ≡ false → (b || has_slot slots slot) ≡ false
    go true same rest = absurd (none (subst IsSlot (same_number one slot same) all.0))
    go false other rest = rest

-- so what is not canonical is none
pub none_met : (slots : List ℕ) (slot : ℕ) → AllByRecursion IsSlot slots → is_canonical slot ≡ false → false ≡ has_slot slots slot
none_met slots slot all other = sym (no_slot slots slot all (λ is. absurd (let wrong : false ≡ true = sym other ∙ is.canonical in cc)))

beyond_halves : (q : ℕ) → 2 ^ 17 ≤ q → (q == 0 || q == 2 ^ 17 - 1) ≡ false
beyond_halves q high = grind (arith, nat_tests)

-- an address of more than 64 bits is not canonical
pub not_canonical : (slot : ℕ) → 2 ^ 64 ≤ slot → is_canonical slot ≡ false
not_canonical slot above = beyond_halves (slot / 2 ^ 47) (omega (arith, above))

same_test : (o : Option Place) (b : Bool) → (IsSome o ↔ IsTrue b) → is_some o ≡ b
same_test None true both = absurd (let wrong : false ≡ true = both.1 refl in cc)
same_test None false both = refl
same_test (Some place) true both = refl
same_test (Some place) false both = absurd (let wrong : false ≡ true = both.0 refl in cc)

-- the walk ends at the third entry of a slot exactly if it is one of the slots
pub large_met : (words : List ℕ) (root slot : ℕ) (slots : List ℕ) → slot % 2097152 ≡ 0 → is_canonical slot ≡ true →
    ((slot : ℕ) → IsSlot slot → IsSome (large_of words root (slot_number slot)) ↔ IsTrue (has_slot slots slot)) →
    is_some (large_of words root (slot_number slot)) ≡ has_slot slots slot
large_met words root slot slots aligned canonical met =
    same_test (large_of words root (slot_number slot)) (has_slot slots slot) (met slot (record { aligned = aligned; canonical = canonical }))

pub neither : (b : Bool) → b ≡ false → (false ≡ true) ↔ (b ≡ true)
neither false is = ((λ some. some), (λ some. some))
neither true is = absurd (let wrong : true ≡ false = is in cc)

pub not_true : (b : Bool) → (b ≡ true → false ≡ true) → b ≡ false
not_true false never = refl
not_true true never = absurd (let wrong : false ≡ true = never refl in cc)

-- the same, of the system that a machine runs over
pub large_seen : (system : PagedSystem) (machine : Machine) (s : State) (address slot : ℕ) →
    system ≡ system_of machine.heap → IsAt machine s → address ≡ slot → slot % 2097152 ≡ 0 →
    is_canonical slot ≡ true → is_some (large_of (paged system).words (paged system).root (slot_number address)) ≡ has_slot s.large slot
large_seen system machine s address slot is at same aligned canonical =
    let here = system_of machine.heap in
    ap (λ (y : PagedSystem). is_some (large_of (paged y).words (paged y).root (slot_number address))) is
    ∙ ap (λ (a : ℕ). is_some (large_of (paged here).words (paged here).root (slot_number a))) same
    ∙ large_met (paged here).words (paged here).root slot s.large aligned canonical at.stands.larges_met
