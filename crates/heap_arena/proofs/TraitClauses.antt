-- What a grant of an arena or of several says in the words of the trait, and what does not come up: no grant is zero, and all
-- is taken back.
use Rattle.std.specs.Prelude.{◌≡◌, ℕ, ◌+◌, ◌/◌, ◌-◌, ◌%◌, ◌<◌, ◌≤◌, Bool, true, false, List, [], ◌∷◌, Result, Ok, Err, IfOk, OnErr, slice_index}
use Rattle.std.specs.List.{AllByRecursion}
use Rattle.std.proofs.Common.{◌∙◌, ap, arith}
use Rattle.std.proofs.lemmas.Bool.Decides.{nat_tests}
use Rattle.std.proofs.lemmas.Result.{IfOk-weaker}
use Rattle.heap_memory.specs.declared.grant.Grant.{Grant}
use Rattle.heap_memory.specs.declared.grant.GrantFault.{GrantFault}
use Rattle.heap_memory.specs.Events.{Granted}
use Rattle.heap_memory.specs.Regions.{IsApart, IsGoodGrant, with_grant}
use Rattle.heap_memory.specs.Runs.{is_in_units}
use Rattle.heap_arena.specs.declared.arena.Arena.{Arena}
use Rattle.heap_arena.specs.Arena.{regions_of, word_of, IsGrantedAtTop, IsTakenBack, IsUnwritten}
use Rattle.heap_arena.specs.Arenas.{regions_of_all, AreAfter, IsGrantedAmong}

-- of a grant
module _ (size : ℕ) (old new : Arena) (answer : Result Grant GrantFault) (ok : IfOk answer (λ grant. IsGrantedAtTop size old grant new)) where
  pub told_good : IfOk answer (λ grant. IsGoodGrant size grant)
  told_good = IfOk-weaker answer _ _ (λ grant is. is.good) ok

  pub told_apart : IfOk answer (λ grant. AllByRecursion (IsApart grant.base (grant.base + grant.size)) (regions_of old))
  told_apart = IfOk-weaker answer _ _ (λ grant is. is.apart) ok

  pub told_regions : IfOk answer (λ grant. regions_of new ≡ with_grant grant (regions_of old))
  told_regions = IfOk-weaker answer _ _ (λ grant is. is.regions) ok

module _ (size : ℕ) (old new : List Arena) (answer : Result Grant GrantFault) (ok : IfOk answer (λ grant. IsGrantedAmong size old grant new)) where
  pub told_good_among : IfOk answer (λ grant. IsGoodGrant size grant)
  told_good_among = IfOk-weaker answer _ _ (λ grant is. is.good) ok

  pub told_apart_among : IfOk answer (λ grant. AllByRecursion (IsApart grant.base (grant.base + grant.size)) (regions_of_all old))
  told_apart_among = IfOk-weaker answer _ _ (λ grant is. is.apart) ok

  pub told_regions_among : IfOk answer (λ grant. regions_of_all new ≡ with_grant grant (regions_of_all old))
  told_regions_among = IfOk-weaker answer _ _ (λ grant is. is.regions) ok

  pub told_follows_among : IfOk answer (λ grant. AreAfter old (Granted size grant ∷ []) new)
  told_follows_among = IfOk-weaker answer _ _ (λ grant is. is.follows) ok

-- of a refusal
pub told_same : (old new : Arena) (answer : Result Grant GrantFault) → OnErr answer (new ≡ old) → OnErr answer (regions_of new ≡ regions_of old)
told_same old new (Ok grant) same = tt
told_same old new (Err fault) same = ap regions_of same

pub told_same_among : (old new : List Arena) (answer : Result Grant GrantFault) → OnErr answer (new ≡ old) → OnErr answer (regions_of_all new ≡ regions_of_all old)
told_same_among old new (Ok grant) same = tt
told_same_among old new (Err fault) same = ap regions_of_all same

-- no grant is zero
pub told_zeros : (words : ℕ → ℕ) (answer : Result Grant GrantFault) →
    IfOk answer (λ grant. false ≡ true → (at : ℕ) → grant.base ≤ at → at < grant.base + grant.size → at % 8 ≡ 0 → words at ≡ 0)
told_zeros words (Ok grant) = λ is. absurd (cc)
told_zeros words (Err fault) = tt

-- all is taken back
pub told_units : (size : ℕ) (answer : Bool) → answer ≡ true → answer ≡ is_in_units 1 size
told_units size answer is = grind (arith, nat_tests, is)

pub told_taken : {A : Type 0} (old new : A) (answer : Bool) → answer ≡ true → answer ≡ false → new ≡ old
told_taken old new answer is not_so = absurd (cc)

-- words stay
pub told_words : (old new : Arena) → IsUnwritten old new → (at : ℕ) → word_of new at ≡ word_of old at
told_words old new is at =
    ap (λ (n : ℕ). slice_index new.words.now ((at - n) / 8)) is.same.base ∙ ap (λ (ws : List ℕ). slice_index ws ((at - old.base) / 8)) is.words

pub told_kept : (low high : ℕ) (old new : Arena) → IsTakenBack low high old new → (at : ℕ) → word_of new at ≡ word_of old at
told_kept low high old new is at =
    ap (λ (n : ℕ). slice_index new.words.now ((at - n) / 8)) is.base ∙ ap (λ (ws : List ℕ). slice_index ws ((at - old.base) / 8)) is.words
