use Rattle.std.proofs.Common.{rules, ◌≡◌, Some, None, List, subst}
use Rattle.std.specs.Prelude.{slice_get, slice_set}
use Rattle.std.specs.BTreeMap.{get}
use Rattle.std.specs.Ordering.{nat_cmp}
use Rattle.heap_history.specs.declared.history.Mapping.{Mapping}
use Rattle.heap_recorder.specs.Mappings.{with_mapping_ended}
use Rattle.heap_recorder.proofs.Places.{get_below}
use Rattle.heap_recorder.proofs.KeptMappings.{missed_start, missed_past_end, unmapped_none, unmapped_at, places_unmapped}
use Rattle.heap_recorder.proofs.mappings.Mappings.unmap.Goals as goal

pub returns-in_default : goal.returns-in_default
returns-in_default c =
    let none : get nat_cmp c.self.inside.places c.args.start ≡ None = search rules in
    subst (λ (all : List Mapping). all ≡ with_mapping_ended c.args.call c.args.start c.args.pages all) c.self.view_is
    (unmapped_none c.args.call c.args.start c.args.pages c.self.inside.mappings.items
    (missed_start c.self.inside.mappings.items c.self.inside.places c.args.start c.self.invariant none))

pub returns-in_default-mapping_at : goal.returns-in_default-mapping_at
returns-in_default-mapping_at c =
    let place : get nat_cmp c.self.inside.places c.args.start ≡ Some c.in-Some.place = search rules in
    let none : slice_get c.self.inside.mappings.items c.in-Some.place ≡ None = search rules in
    subst (λ (all : List Mapping). all ≡ with_mapping_ended c.args.call c.args.start c.args.pages all) c.self.view_is
    (unmapped_none c.args.call c.args.start c.args.pages c.self.inside.mappings.items
    (missed_past_end c.self.inside.mappings.items c.self.inside.places c.args.start c.in-Some.place c.self.invariant
    place none))

pub index_mut-requires : goal.index_mut-requires
index_mut-requires c =
    let mapping : slice_get c.self.inside.mappings.items c.in-Some.place ≡ Some c.in-Some-mapping_at.mapping = search rules in
    let less = get_below c.self.inside.mappings.items c.in-Some.place c.in-Some-mapping_at.mapping mapping in
    search rules

pub invariant_of-self : goal.invariant_of-self
invariant_of-self c =
    let mapping : slice_get c.self.inside.mappings.items c.in-Some.place ≡ Some c.in-Some-mapping_at.mapping = search rules in
    places_unmapped c.self.inside.mappings.items c.self.inside.places c.args.call c.args.start c.args.pages c.in-Some.place
    c.in-Some-mapping_at.mapping c.unmapped_if.result c.self.invariant mapping c.unmapped_if.ensures

pub returns : goal.returns
returns c =
    let place : get nat_cmp c.self.inside.places c.args.start ≡ Some c.in-Some.place = search rules in
    let mapping : slice_get c.self.inside.mappings.items c.in-Some.place ≡ Some c.in-Some-mapping_at.mapping = search rules in
    subst (λ (all : List Mapping). slice_set c.self.inside.mappings.items c.in-Some.place
    c.unmapped_if.result ≡ with_mapping_ended
    c.args.call c.args.start c.args.pages all) c.self.view_is
    (unmapped_at c.self.inside.mappings.items c.self.inside.places c.args.call c.args.start c.args.pages c.in-Some.place
    c.in-Some-mapping_at.mapping c.unmapped_if.result c.self.invariant place mapping c.unmapped_if.ensures)
