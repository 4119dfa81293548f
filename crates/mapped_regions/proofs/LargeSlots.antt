-- The slots of a range that are mapped by one entry, listed one by one.
use Rattle.std.proofs.Common.{◌≡◌, ℕ, ◌+◌, ◌*◌, ◌<◌, ◌⊎◌, inl, inr, ◌||◌, nat_eq, Bool, true, false, List, [], ◌∷◌, ◌++◌, None, refl, sym, ap, subst, ◌∙◌, arith}
use Rattle.std.specs.Prelude.{IsSome, IsTrue, ◌↔◌}
use Rattle.std.specs.List.{AllByRecursion}
use Rattle.std.proofs.lemmas.Bool.{cases_eq}
use Rattle.std.proofs.lemmas.Bool.Decides.{nat_tests}
use Rattle.paging_core.specs.Walk.{large_of}
use Rattle.paging_core.proofs.Reached.{some_not_none}
use Rattle.machine_model.specs.Slots.{IsSlot, IsSlotOf, slot_number, has_slot, AreAscending}
use Rattle.machine_model.specs.Machine.{AreLargeSlots}
use Rattle.machine_model.proofs.Booleans.{or_left, or_right}
use Rattle.machine_model.proofs.Slots.{all_append, slot_all, has_slot-append}

all_are : (P Q : ℕ → Type 0) (slots : List ℕ) → ((slot : ℕ) → P slot → Q slot) → AllByRecursion P slots → AllByRecursion Q slots
all_are P Q [] each all = tt
all_are P Q (slot ∷ rest) each all = (each slot all.0, all_are P Q rest each all.1)

ascending_append : (slots : List ℕ) (slot : ℕ) → AreAscending slots → AllByRecursion (λ one. one < slot) slots → AreAscending (slots ++ slot ∷ [])
ascending_append [] slot up below = (tt, tt)
ascending_append (first ∷ rest) slot up below = (
  all_append (λ later. first < later) rest (slot ∷ []) up.0 (below.0, tt),
  ascending_append rest slot up.1 below.1,
)

-- there is none if no slot is whole
pub slots_none : (words : List ℕ) (root address pages : ℕ) → ((slot : ℕ) → IsSlotOf address pages slot → ⊥) → AreLargeSlots words root address pages []
slots_none words root address pages none = record { ascending = tt; within = tt; exactly = λ slot of. absurd (none slot of) }

-- the next slot after the pages that were looked at
module _ (words : List ℕ) (root address pages slot : ℕ) (slots : List ℕ)
    (next : slot ≡ address + 4096 * pages)
    (is_slot : IsSlot slot)
    (are : AreLargeSlots words root address pages slots) where
  longer : (other : ℕ) → IsSlotOf address pages other → IsSlotOf address (pages + 512) other
  longer other of = record { is_slot = of.is_slot; from = of.from; within = let to = of.within in omega arith }

  before : (other : ℕ) → IsSlotOf address (pages + 512) other → (other ≡ slot → ⊥) → IsSlotOf address pages other
  before other of ne =
      let whole = of.is_slot.aligned in
      let at = is_slot.aligned in
      let to = of.within in
      record { is_slot = of.is_slot; from = of.from; within = omega arith }

  has_it : has_slot (slots ++ slot ∷ []) slot ≡ true
  has_it =
      let same : nat_eq slot slot ≡ true = grind (arith, nat_tests) in
      has_slot-append slots (slot ∷ []) slot ∙ or_right (has_slot slots slot) (nat_eq slot slot || false) (or_left (nat_eq slot slot) false same)

  has_other : (other : ℕ) → (other ≡ slot → ⊥) → has_slot (slots ++ slot ∷ []) other ≡ has_slot slots other
  has_other other ne =
      let apart : nat_eq slot other ≡ false = grind (arith, nat_tests) in
      has_slot-append slots (slot ∷ []) other ∙ rw apart (none (has_slot slots other))
    where
      none : (b : Bool) → (b || (false || false)) ≡ b
      none true = refl
      none false = refl

  pub slots_more : IsSome (large_of words root (slot_number slot)) → AreLargeSlots words root address (pages + 512) (slots ++ slot ∷ [])
  slots_more some = record {
    ascending = ascending_append slots slot are.ascending (all_are (IsSlotOf address pages) (λ one. one < slot) slots
        (λ one of. (let to = of.within in omega arith)) are.within);
    within = all_append (IsSlotOf address (pages + 512)) slots (slot ∷ [])
        (all_are (IsSlotOf address pages) (IsSlotOf address (pages + 512)) slots longer are.within)
        (record { is_slot = is_slot; from = omega arith; within = omega arith }, tt);
    exactly = λ other of. go other of (cases_eq other slot);
  }
    where
      go : (other : ℕ) → IsSlotOf address (pages + 512) other → (other ≡ slot) ⊎ (other ≡ slot → ⊥) →
          IsSome (large_of words root (slot_number other)) ↔ IsTrue (has_slot (slots ++ slot ∷ []) other)
      go other of (inl e) =
          (λ large. ap (has_slot (slots ++ slot ∷ [])) e ∙ has_it, λ has. subst (λ s. IsSome (large_of words root (slot_number s))) (sym e) some)
      go other of (inr ne) =
          let was = are.exactly other (before other of ne) in
          (λ large. has_other other ne ∙ was.0 large, λ has. was.1 (sym (has_other other ne) ∙ has))

  pub slots_skip : large_of words root (slot_number slot) ≡ None → AreLargeSlots words root address (pages + 512) slots
  slots_skip none = record {
    ascending = are.ascending;
    within = all_are (IsSlotOf address pages) (IsSlotOf address (pages + 512)) slots longer are.within;
    exactly = λ other of. go other of (cases_eq other slot);
  }
    where
      go : (other : ℕ) → IsSlotOf address (pages + 512) other → (other ≡ slot) ⊎ (other ≡ slot → ⊥) →
          IsSome (large_of words root (slot_number other)) ↔ IsTrue (has_slot slots other)
      go other of (inl e) = (
        λ large. absurd (some_not_none (large_of words root (slot_number other)) large (ap (λ s. large_of words root (slot_number s)) e ∙ none)),
        λ has. absurd (let in_it = slot_all (IsSlotOf address pages) slots other are.within has in let to = in_it.within in omega arith),
      )
      go other of (inr ne) = are.exactly other (before other of ne)

-- the same slots are listed of another range, if all that are large are in both
pub slots_of : (words : List ℕ) (root address pages more : ℕ) (slots : List ℕ) → AreLargeSlots words root address pages slots →
    ((slot : ℕ) → IsSlotOf address more slot → IsSlotOf address pages slot ⊎ (large_of words root (slot_number slot) ≡ None)) →
    ((slot : ℕ) → IsSlotOf address pages slot → IsSlotOf address more slot) → AreLargeSlots words root address more slots
slots_of words root address pages more slots are either all = record {
  ascending = are.ascending;
  within = all_are (IsSlotOf address pages) (IsSlotOf address more) slots all are.within;
  exactly = λ slot of. go slot (either slot of);
}
  where
    go : (slot : ℕ) → IsSlotOf address pages slot ⊎ (large_of words root (slot_number slot) ≡ None) →
        IsSome (large_of words root (slot_number slot)) ↔ IsTrue (has_slot slots slot)
    go slot (inl of) = are.exactly slot of
    go slot (inr none) = (
      λ large. absurd (some_not_none (large_of words root (slot_number slot)) large none),
      λ has. (are.exactly slot (slot_all (IsSlotOf address pages) slots slot are.within has)).1 has,
    )
