-- Which chunk of the bins a block is cut from.
use Rattle.dlmalloc.proofs.Names.{◌≡◌, ℕ, ◌+◌, ◌-◌, ◌%◌, ◌<◌, ◌≤◌, true, ◌==◌, List, None, Some, Result, Ok, Err, IfOk, refl, sym, ◌∙◌, ap, subst, arith, nat_tests, Grant, padded, enlarged, OfBins, chosen, aligned_place, state_of, IsMember, asked, IsMemberServed, Dlmalloc}
use Rattle.dlmalloc.specs.Binned.{IsMemberChosen}
use Rattle.dlmalloc.proofs.Blocks.HandedOut.{asked_low, asked_high}

-- what follows from two clauses of a call, if it has an answer
pub on_both : {T E : Type 0} (r : Result T E) {P Q R : T → Type 0} → ((x : T) → P x → Q x → R x) → IfOk r P → IfOk r Q → IfOk r R
on_both (Ok x) each one two = each x one two
on_both (Err e) each one two = tt

module _ {A : Type 0} (regions : A → List Grant) (word : A → ℕ → ℕ) (heap : Dlmalloc A) where
  -- if nothing is chosen, there is nothing to say
  pub none_member : {E : Type 0} (n : ℕ) → chosen (state_of word heap) n ≡ None → (r : Result ℕ E) → IfOk r (λ at. IsMemberChosen regions word heap n at)
  none_member n none (Ok at) = λ size is. absurd (let no = sym none ∙ is in cc)
  none_member n none (Err e) = tt

  -- a block after its chunk's head
  pub member_behind : {n : ℕ} (size chunk : ℕ) → n ≡ padded size → IsMemberChosen regions word heap n chunk →
      IsMemberChosen regions word heap (padded size) (chunk + 16 - 16)
  member_behind size chunk is member fit chosen_is =
      let back : chunk ≡ chunk + 16 - 16 = omega arith in
      subst (λ a. IsMember regions word heap (padded size) a) back
      (subst (λ m. IsMember regions word heap m chunk) is (member fit (subst (λ m. chosen (state_of word heap) m ≡ Some (OfBins fit)) (sym is) chosen_is)))

  -- up to alignment 16 the block is where the chunk is
  pub member_low : (size align address : ℕ) → align ≤ 16 → 16 ≤ address → address % align ≡ 0 →
      IsMemberChosen regions word heap (padded size) (address - 16) → IsMemberServed regions word heap size align address
  member_low size align address few low multiple member fit is =
      let same = sym (asked_low size align few) in
      let here : (address - 16 + 16) % align ≡ 0 = (let back : address - 16 + 16 ≡ address = omega arith in ap (λ a. a % align) back ∙ multiple) in
      let place : aligned_place (address - 16)
      align ≡ address - 16 = (let test : ((address - 16 + 16) % align == 0) ≡ true = (let h = here in grind (arith, nat_tests)) in rw test refl) in (
        address - 16,
        subst (λ m. IsMember regions word heap (padded m) (address - 16)) (sym same)
            (member fit (subst (λ m. chosen (state_of word heap) (padded m) ≡ Some (OfBins fit)) same is)),
        (let p = place in omega arith),
      )

  -- above it, at the aligned place in it
  pub member_high : (size align : ℕ) {n : ℕ} (block : ℕ) {place : ℕ} → 16 < align → n ≡ enlarged size align → place ≡ aligned_place
      (block - 16) align → IsMemberChosen regions word heap (padded n) (block - 16) → IsMemberServed regions word heap size align (place + 16)
  member_high size align block many is aligned_is member fit chosen_is =
      let same = sym (asked_high size align many) ∙ sym is in (
        block - 16,
        subst (λ m. IsMember regions word heap (padded m) (block - 16)) (sym same)
            (member fit (subst (λ m. chosen (state_of word heap) (padded m) ≡ Some (OfBins fit)) same chosen_is)),
        ap (λ p. p + 16) aligned_is,
      )

  -- what is chosen for a request
  pub chosen_low : (size align : ℕ) → align ≤ 16 → chosen (state_of word heap) (padded size) ≡ None →
      chosen (state_of word heap) (padded (asked size align)) ≡ None
  chosen_low size align few none = ap (λ m. chosen (state_of word heap) (padded m)) (sym (asked_low size align few)) ∙ none

  pub chosen_high : (size align : ℕ) → 16 < align → chosen (state_of word heap) (padded (enlarged size align)) ≡ None →
      chosen (state_of word heap) (padded (asked size align)) ≡ None
  chosen_high size align many none = ap (λ m. chosen (state_of word heap) (padded m)) (sym (asked_high size align many)) ∙ none
