-- The script of a flat system: what each step of it grants or denies (own).
use Rattle.std.specs.Prelude.{◌≡◌, ℕ, ◌+◌, ◌%◌, ◌^◌, Bool, false, not, ◌&&◌, ◌||◌, ◌==◌, nat_le, nat_lt, if◌then◌else◌, List, [], ◌∷◌, ◌++◌, take, drop, Result, Ok, Err, refl}
use Rattle.std.specs.List.{list_any}
use Rattle.std.proofs.Common.{subst}
use Rattle.heap_memory.specs.declared.grant.Grant.{Grant}
use Rattle.heap_memory.specs.declared.grant.GrantFault.{GrantFault}
use Rattle.heap_memory.specs.declared.grant.GrantFault.TheVariants.{NoSpace}
use Rattle.heap_memory.specs.declared.flat_script.FlatStep.{FlatStep}
use Rattle.heap_memory.specs.declared.flat_script.FlatStep.TheVariants.{Give, Refuse}
use Rattle.heap_memory.specs.Events.{Event, Granted, Refused, Released}

-- whether a step gives the byte at an address
abbrev pub gives : ℕ → FlatStep → Bool
gives at (Give base size flags) = nat_le base at && nat_lt at (base + size)
gives at (Refuse fault) = false

-- whether a step gives a byte that is also one of the grant
abbrev pub overlaps : Grant → FlatStep → Bool
overlaps grant (Give base size flags) =
    nat_lt 0 size && nat_lt 0 grant.size && nat_lt base (grant.base + grant.size) && nat_lt grant.base (base + size)
overlaps grant (Refuse fault) = false

-- whether a grant is made of units of 16 bytes, from 4096 on and below 2 ^ 64
abbrev pub is_in_bounds : Grant → Bool
is_in_bounds grant =
    grant.base % 16 == 0 && grant.size % 16 == 0 && nat_le 4096 grant.base && nat_lt (grant.base + grant.size) (2 ^ 64)

-- whether a grant has a place of its own: in bounds, and with no byte of a Give before it, granted or not
abbrev pub has_place : List FlatStep → Grant → Bool
has_place before grant = is_in_bounds grant && not (list_any (λ step. overlaps grant step) before)

-- whether a Give is granted to a request for a number of bytes, after these steps, whatever its flags
abbrev pub is_given : List FlatStep → ℕ → Grant → Bool
is_given before asked grant = nat_le asked grant.size && has_place before grant

-- what the next of the steps that are left answers to a request for a number of bytes: past the end, that there is no
-- space
abbrev pub next_answer : List FlatStep → List FlatStep → ℕ → Result Grant GrantFault
next_answer before [] asked = Err NoSpace
next_answer before (Refuse fault ∷ left) asked = Err fault
next_answer before (Give base size flags ∷ left) asked =
    if is_given before asked (record { base = base; size = size; flags = flags })
    then Ok (record { base = base; size = size; flags = flags }) else Err NoSpace

-- whether a step is a Give that has a place of its own after these steps, and the byte at an address
abbrev pub promises : List FlatStep → FlatStep → ℕ → Bool
promises before (Refuse fault) at = false
promises before (Give base size flags) at =
    has_place before (record { base = base; size = size; flags = flags }) && gives at (Give base size flags)

-- whether one of the steps that are left is
abbrev pub is_promised : List FlatStep → List FlatStep → ℕ → Bool
is_promised before [] at = false
is_promised before (step ∷ left) at = promises before step at || is_promised (before ++ step ∷ []) left at

-- The steps that were taken and those that are left, before and after some events: each request takes the next step and gets
-- its answer, and what is given back takes none.
abbrev pub IsAnswered : List FlatStep → List FlatStep → List Event → List FlatStep → List FlatStep → Type 0
IsAnswered before left [] before' left' = (before' ≡ before) × (left' ≡ left)
IsAnswered before left (Granted asked grant ∷ events) before' left' =
    (next_answer before left asked ≡ Ok grant) × IsAnswered (before ++ take 1 left) (drop 1 left) events before' left'
IsAnswered before left (Refused asked fault ∷ events) before' left' =
    (next_answer before left asked ≡ Err fault) × IsAnswered (before ++ take 1 left) (drop 1 left) events before' left'
IsAnswered before left (Released at size new_size ∷ events) before' left' = IsAnswered before left events before' left'

pub answered_on : (b l b' l' end rest : List FlatStep) (first second events : List Event) → IsAnswered b l first b' l' → IsAnswered b' l' second end rest →
    first ++ second ≡ events → IsAnswered b l events end rest
answered_on b l b' l' end rest [] second events one two is =
    let at_left : IsAnswered b' l second end rest = subst (λ (s : List FlatStep). IsAnswered b' s second end rest) one.1 two in
    subst (λ (es : List Event). IsAnswered b l es end rest) is (subst (λ (s : List FlatStep). IsAnswered s l second end rest) one.0 at_left)
answered_on b l b' l' end rest (Granted asked grant ∷ first) second events one two is =
    subst (λ (es : List Event). IsAnswered b l es end rest) is (one.0, answered_on (b ++ take 1 l) (drop 1 l) b' l' end rest first second (first ++ second) one.1 two refl)
answered_on b l b' l' end rest (Refused asked fault ∷ first) second events one two is =
    subst (λ (es : List Event). IsAnswered b l es end rest) is (one.0, answered_on (b ++ take 1 l) (drop 1 l) b' l' end rest first second (first ++ second) one.1 two refl)
answered_on b l b' l' end rest (Released at size new_size ∷ first) second events one two is =
    subst (λ (es : List Event). IsAnswered b l es end rest) is (answered_on b l b' l' end rest first second (first ++ second) one two refl)
