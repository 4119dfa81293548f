use Rattle.std.proofs.Common.{rules, ◌≡◌, length, Some, None, subst}
use Rattle.std.specs.Prelude.{slice_get, slice_set}
use Rattle.heap_recorder.specs.Stays.{StayNotes, with_block_freed}
use Rattle.heap_recorder.proofs.Places.{get_below}
use Rattle.heap_recorder.proofs.KeptStays.{missed_begun, missed_stay, freed_none, freed_at, places_freed}
use Rattle.heap_recorder.proofs.stays.Stays.free.Goals as goal

pub returns-in_default : goal.returns-in_default
returns-in_default c =
    let none : slice_get c.self.inside.places.items c.args.number ≡ None = search rules in
    subst (λ (notes : StayNotes). notes ≡ with_block_freed c.args.call c.args.number notes) c.self.view_is
    (freed_none c.args.call c.args.number _ (missed_begun c.self.inside.stays.items c.self.inside.places.items
    c.self.inside.first c.args.number c.self.invariant none))

pub returns-in_default-stay_at : goal.returns-in_default-stay_at
returns-in_default-stay_at c =
    let place : slice_get c.self.inside.places.items c.args.number ≡ Some c.in-Some.place = search rules in
    let none : slice_get c.self.inside.stays.items c.in-Some.place ≡ None = search rules in
    subst (λ (notes : StayNotes). notes ≡ with_block_freed c.args.call c.args.number notes) c.self.view_is
    (freed_none c.args.call c.args.number _ (missed_stay c.self.inside.stays.items c.self.inside.places.items
    c.self.inside.first c.args.number c.in-Some.place c.self.invariant place none))

pub index_mut-requires : goal.index_mut-requires
index_mut-requires c =
    let stay : slice_get c.self.inside.stays.items c.in-Some.place ≡ Some c.in-Some-stay_at.stay = search rules in
    let less = get_below c.self.inside.stays.items c.in-Some.place c.in-Some-stay_at.stay stay in
    search rules

pub invariant_of-self : goal.invariant_of-self
invariant_of-self c =
    let stay : slice_get c.self.inside.stays.items c.in-Some.place ≡ Some c.in-Some-stay_at.stay = search rules in
    places_freed c.self.inside.stays.items c.self.inside.places.items c.self.inside.first c.args.number c.args.call
    c.in-Some.place c.in-Some-stay_at.stay c.ended_of.result c.self.invariant stay c.ended_of.ensures

pub returns : goal.returns
returns c =
    let place : slice_get c.self.inside.places.items c.args.number ≡ Some c.in-Some.place = search rules in
    let stay : slice_get c.self.inside.stays.items c.in-Some.place ≡ Some c.in-Some-stay_at.stay = search rules in
    subst (λ (notes : StayNotes). record {
      begun = length c.self.inside.places.items;
      stays =
          slice_set c.self.inside.stays.items c.in-Some.place c.ended_of.result;
    } ≡ with_block_freed c.args.call c.args.number notes)
    c.self.view_is
    (freed_at c.self.inside.stays.items c.self.inside.places.items c.self.inside.first c.args.call c.args.number
    c.in-Some.place (length c.self.inside.places.items) c.in-Some-stay_at.stay c.ended_of.result c.self.invariant place
    stay c.ended_of.ensures)
