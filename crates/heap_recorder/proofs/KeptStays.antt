-- Stays, and the places that are kept of them.
use Rattle.std.proofs.Common.{◌≡◌, ◌<◌, ℕ, zero, suc, ◌+◌, Bool, true, false, ◌&&◌, nat_eq, List, [], ◌∷◌, ◌++◌, length, length-append, map, take, drop, inl, inr, Option, None, Some, refl, sym, ◌∙◌, ap, arith}
use Rattle.std.specs.Prelude.{if◌then◌else◌, find, slice_get, slice_set}
use Rattle.std.proofs.lemmas.Bool.Decides.{nat_tests}
use Rattle.std.proofs.Math.ListN.{length-set}
use Rattle.heap_history.specs.declared.history.Ending.{Ending}
use Rattle.heap_history.specs.declared.history.Ending.TheVariants.{Freed, Reset as AllEnded, Moved, Resized}
use Rattle.heap_history.specs.declared.history.Stay.{Stay}
use Rattle.heap_recorder.specs.Places.{ArePlaces, OnlyAt}
use Rattle.heap_recorder.specs.Stays.{StayNotes, is_live, has_not_ended, is_stay_of, is_stay_at, why, new_stay, ended, ended_of, ended_now, begun, with_block_freed, resized, resized_from}
use Rattle.heap_recorder.proofs.Places.{some_is, none_some, not_both, get_kept, get_last, get_push, get_set, get_set_same, get_set_other, IsMissed, Keeps, missed_none, missed_past, missed_at, map_missed, find_missed, map_at, find_at}

same_number : (m n : ℕ) → nat_eq m n ≡ true → m ≡ n
same_number m n same = grind (arith, nat_tests, same)

left_true : (a b : Bool) → (a && b) ≡ true → a ≡ true
left_true true b both = refl
left_true false b both = both

right_true : (a b : Bool) → (a && b) ≡ true → b ≡ true
right_true true b both = both
right_true false b both = absurd (let wrong : false ≡ true = both in cc)

-- what is of a block goes on, and has its number
of_goes : (number : ℕ) (stay : Stay) → is_stay_of number stay ≡ true → has_not_ended stay ≡ true
of_goes number stay is = left_true (has_not_ended stay) (nat_eq stay.block number) is

of_block : (number : ℕ) (stay : Stay) → is_stay_of number stay ≡ true → stay.block ≡ number
of_block number stay is = same_number stay.block number (right_true (has_not_ended stay) (nat_eq stay.block number) is)

-- a block's stay that goes on is at the place that is kept of it
pub only_of : (stays : List Stay) (places : List ℕ) (first number : ℕ) → ArePlaces stays places first →
    OnlyAt (is_stay_of number) stays (slice_get places number)
only_of stays places first number are k stay at is =
    ap (slice_get places) (sym (of_block number stay is)) ∙ are.found k stay at (of_goes number stay is)

only_at : (stays : List Stay) (places : List ℕ) (first number place : ℕ) → ArePlaces stays places first →
    slice_get places number ≡ Some place → OnlyAt (is_stay_of number) stays (Some place)
only_at stays places first number place are is k stay at of = sym is ∙ only_of stays places first number are k stay at of

keeps_of : (number call : ℕ) (ending : Ending) → Keeps (is_stay_of number) (ended_of number call ending)
keeps_of number call ending stay fails = ap (λ (b : Bool). if b then ended call ending stay else stay) fails

changed_of : (number call : ℕ) (ending : Ending) (stay : Stay) → is_stay_of number stay ≡ true → ended_of number call ending stay ≡ ended call ending stay
changed_of number call ending stay is = ap (λ (b : Bool). if b then ended call ending stay else stay) is

-- no stay goes on of a block for which no place is kept, or whose stay there does not
pub missed_begun : (stays : List Stay) (places : List ℕ) (first number : ℕ) → ArePlaces stays places first →
    slice_get places number ≡ None → IsMissed (is_stay_of number) stays
missed_begun stays places first number are is = missed_none (is_stay_of number) stays (slice_get places number) (only_of stays places first number are) is

pub missed_stay : (stays : List Stay) (places : List ℕ) (first number place : ℕ) → ArePlaces stays places first →
    slice_get places number ≡ Some place → slice_get stays place ≡ None → IsMissed (is_stay_of number) stays
missed_stay stays places first number place are is none = missed_past (is_stay_of number) stays place (only_at stays places first number place are is) none

pub missed_other : (stays : List Stay) (places : List ℕ) (first number place : ℕ) (stay : Stay) →
    ArePlaces stays places first → slice_get places number ≡ Some place → slice_get stays place ≡ Some stay →
    is_stay_of number stay ≡ false → IsMissed (is_stay_of number) stays
missed_other stays places first number place stay are is at fails = missed_at (is_stay_of number) stays place stay
    (only_at stays places first number place are is) at fails

-- then nothing is freed, and nothing has another size
pub freed_none : (call number : ℕ) (notes : StayNotes) → IsMissed (is_stay_of number) notes.stays → notes ≡ with_block_freed call number notes
freed_none call number notes missed = ap (λ (l : List Stay). record { begun = notes.begun; stays = l })
    (sym (map_missed (is_stay_of number) (ended_of number call Freed) notes.stays (keeps_of number call Freed) missed))

pub resized_none : (call number address size : ℕ) (notes : StayNotes) → IsMissed (is_stay_of number) notes.stays →
    notes ≡ resized call number address size notes
resized_none call number address size notes missed = ap (λ (o : Option Stay). resized_from call number address size o notes)
    (sym (find_missed (is_stay_of number) notes.stays missed))

-- the block's stay ends at its place
pub ended_at : (stays : List Stay) (places : List ℕ) (first call number place : ℕ) (ending : Ending) (stay : Stay) →
    ArePlaces stays places first → slice_get places number ≡ Some place → slice_get stays place ≡ Some stay →
    is_stay_of number stay ≡ true →
    map (ended_of number call ending) stays ≡ slice_set stays place (ended call ending stay)
ended_at stays places first call number place ending stay are is at of =
    map_at (is_stay_of number) (ended_of number call ending) stays place stay (keeps_of number call ending) (only_at stays places first number place are is) at
    ∙ ap (slice_set stays place) (changed_of number call ending stay of)

-- so it does if it is freed
pub freed_at : (stays : List Stay) (places : List ℕ) (first call number place begun : ℕ) (stay end : Stay) →
    ArePlaces stays places first → slice_get places number ≡ Some place → slice_get stays place ≡ Some stay →
    end ≡ ended_of number call Freed stay →
    record { begun = begun; stays = slice_set stays place end } ≡ with_block_freed call number (record { begun = begun; stays = stays })
freed_at stays places first call number place begun stay end are is at ends =
    ap (λ (l : List Stay). record { begun = begun; stays = l })
    (ap (slice_set stays place) ends ∙ sym (map_at (is_stay_of number) (ended_of number call Freed) stays place stay
    (keeps_of number call Freed) (only_at stays places first number place are is) at))

-- one that has the address and the size already stays
pub resized_same : (stays : List Stay) (places : List ℕ) (first call number place address size : ℕ) (stay : Stay)
    (notes : StayNotes) → notes.stays ≡ stays → ArePlaces stays places first → slice_get places number ≡ Some place →
    slice_get stays place ≡ Some stay → is_stay_of number stay ≡ true → is_stay_at address size stay ≡ true →
    notes ≡ resized call number address size notes
resized_same stays places first call number place address size stay notes same are is at of here =
    let found : find (is_stay_of number) notes.stays ≡ Some stay = ap (find (is_stay_of number)) same
    ∙ find_at (is_stay_of number) stays place stay (only_at stays places first number place are is) at of in
    sym (ap (λ (o : Option Stay). resized_from call number address size o notes) found
    ∙ ap (λ (b : Bool). if b then notes else record {
      begun = notes.begun;
      stays =
          map (ended_of number call (why address stay)) notes.stays ++ new_stay call number address size ∷ [];
    }) here)

-- a list with one item put, and one more
set_push : (xs : List Stay) (i : ℕ) (x y z : Stay) → slice_get xs i ≡ Some z → slice_set (xs ++ x ∷ []) i y ≡ slice_set xs i y ++ x ∷ []
set_push [] i x y z is = absurd (none_some z is)
set_push (w ∷ xs) zero x y z is = refl
set_push (w ∷ xs) (suc i) x y z is = ap (λ (l : List Stay). w ∷ l) (set_push xs i x y z is)

pub resized_at : (stays : List Stay) (places : List ℕ) (first call number place address size begun : ℕ)
    (stay end new : Stay) → ArePlaces stays places first → slice_get places number ≡ Some place →
    slice_get stays place ≡ Some stay → is_stay_of number stay ≡ true → is_stay_at address size stay ≡ false →
    end ≡ ended call (why address stay) stay → new ≡ new_stay call number address size →
    record { begun = begun; stays = slice_set (stays ++ new ∷ []) place end } ≡ resized call number address size (record { begun = begun; stays = stays })
resized_at stays places first call number place address size begun stay end new are is at of other ends news =
    let notes : StayNotes = record { begun = begun; stays = stays } in
    let found : find (is_stay_of number) stays ≡ Some stay = find_at (is_stay_of number) stays place stay
    (only_at stays places first number place are is) at of in
    ap (λ (l : List Stay). record { begun = begun; stays = l })
    (set_push stays place new end stay at
    ∙ (λ i. slice_set stays place (ends i) ++ news i ∷ [])
    ∙ ap (λ (l : List Stay). l ++ new_stay call number address size ∷ [])
    (sym (ended_at stays places first call number place (why address stay) stay are is at of)))
    ∙ sym (ap (λ (o : Option Stay). resized_from call number address size o notes) found
    ∙ ap (λ (b : Bool). if b then notes else record {
      begun = begun;
      stays =
          map (ended_of number call (why address stay)) stays ++ new_stay call number address size ∷ [];
    }) other)

-- the places, after a block began
pub places_begun : (stays : List Stay) (places : List ℕ) (first place : ℕ) (new : Stay) → ArePlaces stays places first →
    place ≡ length stays → new.block ≡ length places → ArePlaces (stays ++ new ∷ []) (places ++ place ∷ []) first
places_begun stays places first place new are is block = record {
  found = λ k stay at goes. elim (get_push stays new k stay at) [
    | inl old ↦ get_kept places (place ∷ []) stay.block k (are.found k stay old goes)
    | inr last ↦ ap (slice_get (places ++ place ∷ [])) (ap (λ (s : Stay). s.block) (sym last.1) ∙ block)
        ∙ get_last places place ∙ ap (λ (n : ℕ). Some n) (is ∙ sym last.0)
  ];
  ended = λ k stay at less. elim (get_push stays new k stay at) [
    | inl old ↦ are.ended k stay old less
    | inr last ↦ absurd (let e = last.0 in let within = are.within in omega (arith, e, within, less))
  ];
  within = let more = length-append stays (new ∷ []) in let within = are.within in omega (arith, more, within);
}

-- or was about to
pub places_more : (stays : List Stay) (places : List ℕ) (first place : ℕ) → ArePlaces stays places first → ArePlaces stays (places ++ place ∷ []) first
places_more stays places first place are = record {
  found = λ k stay at goes. get_kept places (place ∷ []) stay.block k (are.found k stay at goes);
  ended = are.ended;
  within = are.within;
}

-- what goes on after the block's stay has ended went on before, with its number
ended_goes : (number call : ℕ) (ending : Ending) (stay : Stay) → is_live ending ≡ false →
    has_not_ended (ended_of number call ending stay) ≡ true → (has_not_ended stay ≡ true) × ((ended_of number call ending
    stay).block ≡ stay.block)
ended_goes number call ending stay over goes = go (is_stay_of number stay) refl goes
  where
    go : (b : Bool) → is_stay_of number stay ≡ b → has_not_ended (if b then ended call ending stay else stay) ≡ true →
        (has_not_ended stay ≡ true) × ((if b then ended call ending stay else stay).block ≡ stay.block)
    go true is goes = absurd (not_both (is_live ending) goes over)
    go false is goes = (goes, refl)

ended_stays : (number call : ℕ) (ending : Ending) (stay : Stay) → is_live ending ≡ false → has_not_ended stay ≡ false →
    has_not_ended (ended_of number call ending stay) ≡ false
ended_stays number call ending stay over gone = go (is_stay_of number stay)
  where
    go : (b : Bool) → has_not_ended (if b then ended call ending stay else stay) ≡ false
    go true = over
    go false = gone

-- after one ended if it was the block's
pub places_freed : (stays : List Stay) (places : List ℕ) (first number call place : ℕ) (stay end : Stay) →
    ArePlaces stays places first → slice_get stays place ≡ Some stay → end ≡ ended_of number call Freed stay →
    ArePlaces (slice_set stays place end) places first
places_freed stays places first number call place stay end are is ends = record {
  found = λ k one at goes. elim (get_set stays place end k one at) [
    | inl here ↦
        (let same : one ≡ ended_of number call Freed stay = sym here.1 ∙ ends in
        let both = ended_goes number call Freed stay refl (ap has_not_ended (sym same) ∙ goes) in
        ap (slice_get places) (ap (λ (s : Stay). s.block) same ∙ both.1) ∙ are.found place stay is both.0 ∙ ap (λ (n : ℕ). Some n) (sym here.0))
    | inr other ↦ are.found k one other.0 goes
  ];
  ended = λ k one at less. elim (get_set stays place end k one at) [
    | inl here ↦ ap has_not_ended (sym here.1 ∙ ends) ∙ ended_stays number call Freed stay refl
        (are.ended place stay is (let e = here.0 in omega (arith, e, less)))
    | inr other ↦ are.ended k one other.0 less
  ];
  within = let same = length-set stays place end in let within = are.within in omega (arith, same, within);
}

-- after one ended and another of the block began
pub places_resized : (stays : List Stay) (places : List ℕ) (first number place next : ℕ) (end new : Stay) →
    ArePlaces stays places first → slice_get places number ≡ Some place → next ≡ length stays → has_not_ended end ≡ false →
    new.block ≡ number →
    ArePlaces (slice_set (stays ++ new ∷ []) place end) (slice_set places number next) first
places_resized stays places first number place next end new are is last over block = record {
  found = λ k stay at goes. elim (get_set (stays ++ new ∷ []) place end k stay at) [
    | inl here ↦ absurd (not_both (has_not_ended stay) goes (ap has_not_ended (sym here.1) ∙ over))
    | inr other ↦ elim (get_push stays new k stay other.0) [
      | inl old ↦
          get_set_other places number next stay.block (λ same. other.1 (some_is k place (sym (are.found k stay old goes) ∙ ap (slice_get places) same ∙ is)))
          ∙ are.found k stay old goes
      | inr added ↦
          ap (slice_get (slice_set places number next)) (ap (λ (s : Stay). s.block) (sym added.1) ∙ block)
          ∙ get_set_same places number next place is ∙ ap (λ (n : ℕ). Some n) (last ∙ sym added.0)
    ]
  ];
  ended = λ k stay at less. elim (get_set (stays ++ new ∷ []) place end k stay at) [
    | inl here ↦ ap has_not_ended (sym here.1) ∙ over
    | inr other ↦ elim (get_push stays new k stay other.0) [
      | inl old ↦ are.ended k stay old less
      | inr added ↦ absurd (let e = added.0 in let within = are.within in omega (arith, e, within, less))
    ]
  ];
  within = let same = length-set (stays ++ new ∷ []) place end in let more = length-append stays (new ∷ []) in let within =
      are.within in omega (arith, same, more, within);
}

-- a stay that ended since the block has another place or size
pub ended_gone : (call address : ℕ) (stay : Stay) (ending : Ending) (end : Stay) → ending ≡ why address stay →
    end ≡ ended call ending stay → has_not_ended end ≡ false
ended_gone call address stay ending end is ends = ap has_not_ended ends ∙ ap is_live is ∙ go (nat_eq stay.address address)
  where
    go : (b : Bool) → is_live (if b then Resized else Moved) ≡ false
    go true = refl
    go false = refl

ended_over : (call : ℕ) (stay : Stay) → has_not_ended (ended_now call stay) ≡ false
ended_over call stay = go (has_not_ended stay) refl
  where
    go : (b : Bool) → has_not_ended stay ≡ b → has_not_ended (if b then ended call AllEnded stay else stay) ≡ false
    go true is = refl
    go false is = is

keeps_ended : (call : ℕ) → Keeps has_not_ended (ended_now call)
keeps_ended call stay over = ap (λ (b : Bool). if b then ended call AllEnded stay else stay) over

get_map : (f : Stay → Stay) (xs : List Stay) (k : ℕ) (y : Stay) → slice_get (map f xs) k ≡ Some y → (x : Stay) × (f x ≡ y)
get_map f [] k y is = absurd (none_some y is)
get_map f (x ∷ xs) zero y is = (x, some_is (f x) y is)
get_map f (x ∷ xs) (suc k) y is = get_map f xs k y is

length-mapped : (f : Stay → Stay) (xs : List Stay) → length (map f xs) ≡ length xs
length-mapped f [] = refl
length-mapped f (x ∷ xs) = ap suc (length-mapped f xs)

-- those before the first that goes on stay
pub front_ended : (call : ℕ) (stays : List Stay) (first : ℕ) → ((k : ℕ) (stay : Stay) → slice_get stays k ≡ Some stay →
    k < first → has_not_ended stay ≡ false) → stays ≡ map (ended_now call) (take first stays) ++ drop first stays
front_ended call [] zero over = refl
front_ended call [] (suc first) over = refl
front_ended call (x ∷ xs) zero over = refl
front_ended call (x ∷ xs) (suc first) over =
    (λ i. sym (keeps_ended call x (over zero x refl (omega arith))) i ∷ front_ended call xs first
    (λ k stay at less. over (suc k) stay at (omega (arith, less))) i)

-- all ended
pub places_reset : (call : ℕ) (stays new : List Stay) (places : List ℕ) (now : ℕ) → new ≡ map (ended_now call) stays →
    now ≡ length new → ArePlaces new places now
places_reset call stays new places now all last =
    let over : (k : ℕ) (stay : Stay) → slice_get new k ≡ Some stay → has_not_ended stay ≡ false = λ k stay at.
    (let made = get_map (ended_now call) stays k stay (ap (λ (l : List Stay). slice_get l k) (sym all) ∙ at) in
    ap has_not_ended (sym made.1) ∙ ended_over call made.0) in
    record {
      found = λ k stay at goes. absurd (not_both (has_not_ended stay) goes (over k stay at));
      ended = λ k stay at less. over k stay at;
      within = omega (arith, last);
    }
