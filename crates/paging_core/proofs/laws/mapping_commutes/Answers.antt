use Rattle.std.proofs.Common.{◌≡◌, ℕ, ◌%◌, ◌^◌, List, ◌∙◌, ◌⊎◌, inl, inr, sym, ap}
use Rattle.std.proofs.lemmas.Bool.{cases_eq}
use Rattle.paging_core.specs.Walk.{reach, walk_of}
use Rattle.paging_core.proofs.laws.mapping_commutes.Goals as goal

-- a walk goes by the low 36 bits of the page's number
walk_low : (words : List ℕ) (root page other : ℕ) → page % 2 ^ 36 ≡ other % 2 ^ 36 → walk_of words root page ≡ walk_of words root other
unfolding walk_of
walk_low words root page other e = ap (reach words root 4) e

pub returns : goal.returns
returns c = λ words first second first' second' free free1 free2 free1' free2' root page other frame frame' rights rights' ne a b a' b' any.
    let page_first = b.pages page ne ∙ a.there in
    let other_second = b'.pages other (λ e. ne (sym e)) ∙ a'.there in
    let go : (any % 2 ^ 36 ≡ page % 2 ^ 36) ⊎ (any % 2 ^ 36 ≡ page % 2 ^ 36 → ⊥) → (any % 2 ^ 36 ≡ other % 2 ^ 36) ⊎ (any % 2 ^ 36 ≡ other % 2 ^ 36 → ⊥) →
    walk_of second root any ≡ walk_of second' root any =
    λ p q. elim p [
      | inl e ↦ walk_low second root any page e ∙ (page_first ∙ sym (walk_low second' root any page e ∙ b'.there))
      | inr x ↦ elim q [
        | inl e ↦ walk_low second root any other e ∙ (b.there ∙ sym (walk_low second' root any other e ∙ other_second))
        | inr y ↦ b.pages any y ∙ (a.pages any x ∙ sym (b'.pages any x ∙ a'.pages any y))
      ]
    ] in
    go (cases_eq (any % 2 ^ 36) (page % 2 ^ 36)) (cases_eq (any % 2 ^ 36) (other % 2 ^ 36))
