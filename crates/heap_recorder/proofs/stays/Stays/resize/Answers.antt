use Rattle.std.proofs.Common.{rules, ◌≡◌, ◌++◌, ◌∷◌, [], length, Some, None, true, false, refl, ◌∙◌, subst, ap}
use Rattle.std.specs.Prelude.{slice_get, slice_set}
use Rattle.std.proofs.Math.ListN.{length-set}
use Rattle.heap_history.specs.declared.history.Ending.{Ending}
use Rattle.heap_recorder.specs.Stays.{StayNotes, is_stay_of, is_stay_at, ended, resized}
use Rattle.heap_recorder.proofs.Places.{get_below}
use Rattle.heap_recorder.proofs.KeptStays.{missed_begun, missed_stay, missed_other, resized_none, resized_same, resized_at, places_resized, ended_gone}
use Rattle.heap_recorder.proofs.stays.Stays.resize.Goals as goal

pub returns-in_default : goal.returns-in_default
returns-in_default c =
    let none : slice_get c.self.inside.places.items c.args.number ≡ None = search rules in
    subst (λ (notes : StayNotes). notes ≡ resized c.args.call c.args.number c.args.address c.args.size notes) c.self.view_is
    (resized_none c.args.call c.args.number c.args.address c.args.size _
    (missed_begun c.self.inside.stays.items c.self.inside.places.items c.self.inside.first c.args.number
    c.self.invariant none))

pub returns-in_default-stay_at : goal.returns-in_default-stay_at
returns-in_default-stay_at c =
    let place : slice_get c.self.inside.places.items c.args.number ≡ Some c.in-Some.place = search rules in
    let none : slice_get c.self.inside.stays.items c.in-Some.place ≡ None = search rules in
    subst (λ (notes : StayNotes). notes ≡ resized c.args.call c.args.number c.args.address c.args.size notes) c.self.view_is
    (resized_none c.args.call c.args.number c.args.address c.args.size _
    (missed_stay c.self.inside.stays.items c.self.inside.places.items c.self.inside.first c.args.number c.in-Some.place
    c.self.invariant place none))

pub returns-then-not-is_of : goal.returns-then-not-is_of
returns-then-not-is_of c =
    let place : slice_get c.self.inside.places.items c.args.number ≡ Some c.in-Some.place = search rules in
    let stay : slice_get c.self.inside.stays.items c.in-Some.place ≡ Some c.in-Some-stay_at.stay = search rules in
    let other : is_stay_of c.args.number c.in-Some-stay_at.stay ≡ false = search rules in
    subst (λ (notes : StayNotes). notes ≡ resized c.args.call c.args.number c.args.address c.args.size notes) c.self.view_is
    (resized_none c.args.call c.args.number c.args.address c.args.size _
    (missed_other c.self.inside.stays.items c.self.inside.places.items c.self.inside.first c.args.number c.in-Some.place
    c.in-Some-stay_at.stay c.self.invariant place stay other))

pub returns-then-is_at : goal.returns-then-is_at
returns-then-is_at c =
    let place : slice_get c.self.inside.places.items c.args.number ≡ Some c.in-Some.place = search rules in
    let stay : slice_get c.self.inside.stays.items c.in-Some.place ≡ Some c.in-Some-stay_at.stay = search rules in
    let of : is_stay_of c.args.number c.in-Some-stay_at.stay ≡ true = search rules in
    let here : is_stay_at c.args.address c.args.size c.in-Some-stay_at.stay ≡ true = search rules in
    subst (λ (notes : StayNotes). notes ≡ resized c.args.call c.args.number c.args.address c.args.size notes) c.self.view_is
    (resized_same c.self.inside.stays.items c.self.inside.places.items c.self.inside.first c.args.call c.args.number
    c.in-Some.place c.args.address c.args.size c.in-Some-stay_at.stay _ refl c.self.invariant place stay of here)

pub index_mut-requires : goal.index_mut-requires
index_mut-requires c =
    let stay : slice_get c.self.inside.stays.items c.in-Some.place ≡ Some c.in-Some-stay_at.stay = search rules in
    let less = get_below c.self.inside.stays.items c.in-Some.place c.in-Some-stay_at.stay stay in
    search rules

pub index_mut-requires-2 : goal.index_mut-requires-2
index_mut-requires-2 c =
    let place : slice_get c.self.inside.places.items c.args.number ≡ Some c.in-Some.place = search rules in
    let less = get_below c.self.inside.places.items c.args.number c.in-Some.place place in
    search rules

pub invariant_of-self-2 : goal.invariant_of-self-2
invariant_of-self-2 c =
    let place : slice_get c.self.inside.places.items c.args.number ≡ Some c.in-Some.place = search rules in
    let stays : c.push.new.self.items ≡ c.self.inside.stays.items ++ c.new_stay.result ∷ [] = search rules in
    let next : c.len-next.result ≡ length c.self.inside.stays.items = search rules in
    let number : c.new_stay.result.block ≡ c.args.number = search rules in
    rw stays
    (places_resized c.self.inside.stays.items c.self.inside.places.items c.self.inside.first c.args.number c.in-Some.place
    c.len-next.result c.ended.result c.new_stay.result c.self.invariant place next
    (ended_gone c.args.call c.args.address c.in-Some-stay_at.stay c.why.result c.ended.result c.why.ensures c.ended.ensures) number)

pub returns : goal.returns
returns c =
    let place : slice_get c.self.inside.places.items c.args.number ≡ Some c.in-Some.place = search rules in
    let stay : slice_get c.self.inside.stays.items c.in-Some.place ≡ Some c.in-Some-stay_at.stay = search rules in
    let of : is_stay_of c.args.number c.in-Some-stay_at.stay ≡ true = search rules in
    let other : is_stay_at c.args.address c.args.size c.in-Some-stay_at.stay ≡ false = search rules in
    let stays : c.push.new.self.items ≡ c.self.inside.stays.items ++ c.new_stay.result ∷ [] = search rules in
    let long : length (slice_set c.self.inside.places.items c.args.number c.len-next.result) ≡ length
    c.self.inside.places.items = length-set c.self.inside.places.items c.args.number c.len-next.result in
    let first : StayNotes = record {
      begun = length (slice_set c.self.inside.places.items c.args.number c.len-next.result);
      stays = slice_set c.push.new.self.items c.in-Some.place c.ended.result;
    } in
    let second : StayNotes = record {
      begun = length c.self.inside.places.items;
      stays =
          slice_set (c.self.inside.stays.items ++ c.new_stay.result ∷ []) c.in-Some.place c.ended.result;
    } in
    let same : first ≡ second = (λ i. record { begun = long i; stays = slice_set (stays i) c.in-Some.place c.ended.result }) in
    same
    ∙ subst (λ (notes : StayNotes). second ≡ resized c.args.call c.args.number c.args.address c.args.size notes) c.self.view_is
    (resized_at c.self.inside.stays.items c.self.inside.places.items c.self.inside.first c.args.call c.args.number
    c.in-Some.place c.args.address c.args.size (length c.self.inside.places.items) c.in-Some-stay_at.stay c.ended.result
    c.new_stay.result c.self.invariant place stay of other
    (c.ended.ensures ∙ ap (λ (e : Ending). ended c.args.call e c.in-Some-stay_at.stay) c.why.ensures) c.new_stay.ensures)
