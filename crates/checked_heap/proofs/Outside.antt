-- What a call leaves as it was: the words that nobody had while it ran.
use Rattle.std.specs.Prelude.{◌≡◌, ◌≢◌, ℕ, ◌+◌, ◌-◌, ◌*◌, Bool, true, false, ◌||◌, if◌then◌else◌, List, [], ◌∷◌, slice_index}
use Rattle.std.proofs.Common.{◌∙◌, ap, sym, subst, refl, inl, inr, ◌⊎◌}
use Rattle.std.proofs.lemmas.Bool.{cases_eq}
use Rattle.heap_memory.specs.declared.grant.Grant.{Grant}
use Rattle.heap_memory.specs.Events.{Event, Granted}
use Rattle.heap_memory.specs.Regions.{is_granted, with_grant}
use Rattle.heap_memory.specs.RegionLaws.{granted_kept, granted_with}
use Rattle.heap_memory.specs.Runs.{begins_in}
use Rattle.dlmalloc_chunks.specs.Request.{padded}
use Rattle.dlmalloc.specs.Requested.{asked, IsFound, IsHandedOut}
use Rattle.dlmalloc.specs.AfterFree.{IsFreed, free_releases}
use Rattle.dlmalloc.specs.Freed.{freed}
use Rattle.dlmalloc.specs.Heap.{state_of}
use Rattle.dlmalloc.specs.Moved.{IsGivenSize}
use Rattle.dlmalloc.specs.Shortened.{IsTrimmed}
use Rattle.dlmalloc.specs.State.{HeapState}
use Rattle.dlmalloc.specs.Trimmed.{trim_releases}
use Rattle.dlmalloc.specs.declared.heap.Dlmalloc.{Dlmalloc}
use Rattle.heap_arena.specs.Arena.{regions_of, word_of, end_of, grants_in, IsArenaAfter}
use Rattle.heap_arena.specs.ArenaLaws.{not_so}
use Rattle.heap_arena.specs.declared.arena.Arena.{Arena}
use Rattle.sound_heap.specs.Heap.{IsRequestRefused}
use Rattle.sound_heap.specs.declared.heap_error.HeapError.{HeapError}
use Rattle.sound_heap.specs.declared.heap_error.HeapError.TheVariants.{BadAlign, NoBlock, Refused}
use Rattle.checked_heap.specs.Checked.{arena_follows, arena_refuses, arena_denies, KeepsWordsOutside}
use Rattle.checked_heap.specs.Library.{IsResizeRefused}
use Rattle.checked_heap.proofs.GivenBack.{trim_back, free_back}

-- ---- the words that stay

-- what was granted at no moment
none_of : (a b : Bool) → a ≡ false → b ≡ false → (a || b) ≡ false
none_of true b first second = first
none_of false b first second = second

-- Where nothing was granted, the words outside of what was granted stay.
back_outside : (old new : Arena) (events : List Event) → IsArenaAfter old events new → grants_in old.base (end_of old) events ≡ [] →
    KeepsWordsOutside (regions_of old) old new
back_outside old new events after none = λ i free.
    after.untouched i (none_of (is_granted (regions_of old) (old.base + 8 * i)) (is_granted (grants_in old.base (end_of old) events) (old.base + 8 * i)) free
    (ap (λ (grants : List Grant). is_granted grants (old.base + 8 * i)) none))

pub asked_outside : (old new : Arena) → IsArenaAfter old [] new → KeepsWordsOutside (regions_of old) old new
asked_outside old new after = back_outside old new [] after refl

pub freed_outside : (old new : Dlmalloc Arena) (address : ℕ) → IsFreed regions_of word_of arena_follows true true 1 old address new →
    KeepsWordsOutside (regions_of old.system) old.system new.system
freed_outside old new address is =
    let heap = freed (state_of word_of old) (address - 16) in
    back_outside old.system new.system (free_releases true true 1 heap (address - 16)) is.followed
    (free_back old.system.base (end_of old.system) true true 1 heap (address - 16))

pub trimmed_outside : (old new : Dlmalloc Arena) (pad : ℕ) (answer : Bool) → IsTrimmed regions_of word_of arena_follows true true 1 old pad answer new →
    KeepsWordsOutside (regions_of old.system) old.system new.system
trimmed_outside old new pad answer is =
    back_outside old.system new.system (trim_releases true true 1 pad (state_of word_of old)) is.followed
    (trim_back old.system.base (end_of old.system) true true 1 pad (state_of word_of old))

-- ---- requests

-- Where one grant was made, the words outside of what is granted then stay.
grant_outside : (old new : Arena) (size : ℕ) (grant : Grant) → IsArenaAfter old (Granted size grant ∷ []) new →
    regions_of new ≡ with_grant grant (regions_of old) → KeepsWordsOutside (regions_of new) old new
grant_outside old new size grant after regions = λ i free.
    let at : ℕ = old.base + 8 * i in
    let all : is_granted (with_grant grant (regions_of old)) at ≡ false = subst (λ (rs : List Grant). is_granted rs at ≡ false) regions free in
    let before : is_granted (regions_of old) at ≡ false =
    not_so (is_granted (regions_of old) at) (is_granted (with_grant grant (regions_of old)) at) (granted_kept grant (regions_of old) at) all in
    let here : is_granted (grant ∷ []) at ≡ false = go_here (is_granted (grant ∷ []) at) (is_granted (regions_of old) at) (sym (granted_with grant (regions_of old) at) ∙ all) in
    after.untouched i (none_of (is_granted (regions_of old) at) (is_granted (grants_in old.base (end_of old) (Granted size grant ∷ [])) at) before
    (own (begins_in old.base (end_of old) grant) at here))
  where
    go_here : (a b : Bool) → (a || b) ≡ false → a ≡ false
    go_here true b is = is
    go_here false b is = refl

    own : (is : Bool) (at : ℕ) → is_granted (grant ∷ []) at ≡ false → is_granted (if is then grant ∷ [] else []) at ≡ false
    own true at here = here
    own false at here = refl

found_in : (old new : Arena) (state later : HeapState) (n : ℕ) → IsFound arena_follows regions_of old state n new later → KeepsWordsOutside (regions_of new) old new
found_in old new state later n found = elim found [
  | inl same ↦ subst (λ (rs : List Grant). KeepsWordsOutside rs old new) (sym same.2) (asked_outside old new same.1)
  | inr fresh ↦ grant_outside old new _ fresh.0 fresh.4 fresh.5
]

pub found_outside : (old new : Dlmalloc Arena) (size align address : ℕ) → IsHandedOut regions_of word_of arena_follows old size align address new →
    KeepsWordsOutside (regions_of new.system) old.system new.system
found_outside old new size align address handed =
    found_in old.system new.system (state_of word_of old) (state_of word_of new) (padded (asked size align)) handed.found

pub refused_outside : (old new : Dlmalloc Arena) (size align : ℕ) (error : HeapError) →
    IsRequestRefused regions_of word_of arena_follows arena_refuses arena_denies old size align error new →
    KeepsWordsOutside (regions_of new.system) old.system new.system
refused_outside old new size align BadAlign is = λ i free. ap (λ (heap : Dlmalloc Arena). slice_index heap.system.words.now i) is.1
refused_outside old new size align NoBlock is = absurd is
refused_outside old new size align (Refused error) is = λ i free. ap (λ (system : Arena). slice_index system.words.now i) is.1.same.refused

-- ---- another size

-- a block that moves: words outside of what is granted with its new place stay, also when its old one is given back
pub resized_outside : (old new : Dlmalloc Arena) (from held size to : ℕ) (given : IsGivenSize regions_of word_of arena_follows true true 1 old from held 16 size to new) →
    KeepsWordsOutside (regions_of given.middle.system) old.system new.system
resized_outside old new from held size to given = go (cases_eq to from)
  where
    before : KeepsWordsOutside (regions_of given.middle.system) old.system given.middle.system
    before = found_in old.system given.middle.system (state_of word_of old) (state_of word_of given.middle) (padded (asked size 16)) given.found

    base : given.middle.system.base ≡ old.system.base
    base = elim given.found [ inl same ↦ same.1.same.base | inr fresh ↦ fresh.4.same.base ]

    go : (to ≡ from) ⊎ (to ≡ from → ⊥) → KeepsWordsOutside (regions_of given.middle.system) old.system new.system
    go (inl same) = subst (λ (heap : Dlmalloc Arena). KeepsWordsOutside (regions_of given.middle.system) old.system heap.system) (sym (given.here same).0) before
    go (inr differ) = λ i free.
        freed_outside given.middle new from (given.elsewhere differ) i
        (subst (λ (n : ℕ). is_granted (regions_of given.middle.system) (n + 8 * i) ≡ false) (sym base) free) ∙ before i free

pub unresized_same : (old new : Dlmalloc Arena) (address size : ℕ) (error : HeapError) →
    IsResizeRefused regions_of word_of arena_follows arena_refuses arena_denies old address size error new → new.system ≡ old.system
unresized_same old new address size BadAlign is = absurd is
unresized_same old new address size NoBlock is = ap (λ (heap : Dlmalloc Arena). heap.system) is.1
unresized_same old new address size (Refused error) is = is.1.same.refused
