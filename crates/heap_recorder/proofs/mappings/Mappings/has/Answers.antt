use Rattle.std.proofs.Common.{rules, ◌≡◌, false, Some, None, List, subst}
use Rattle.std.specs.Prelude.{find, is_some, slice_get}
use Rattle.std.specs.BTreeMap.{get}
use Rattle.std.specs.Ordering.{nat_cmp}
use Rattle.heap_history.specs.declared.history.Mapping.{Mapping}
use Rattle.heap_recorder.specs.Mappings.{is_mapped_from}
use Rattle.heap_recorder.proofs.KeptMappings.{missed_start, missed_past_end, has_none, has_at}
use Rattle.heap_recorder.proofs.mappings.Mappings.has.Goals as goal

pub returns-in_default : goal.returns-in_default
returns-in_default c =
    let none : get nat_cmp c.self.inside.places c.args.start ≡ None = search rules in
    subst (λ (all : List Mapping). false ≡ is_some (find (is_mapped_from c.args.start) all)) c.self.view_is
    (has_none c.args.start c.self.inside.mappings.items (missed_start c.self.inside.mappings.items c.self.inside.places c.args.start c.self.invariant none))

pub returns-in_default-mapping_at : goal.returns-in_default-mapping_at
returns-in_default-mapping_at c =
    let place : get nat_cmp c.self.inside.places c.args.start ≡ Some c.in-Some.place = search rules in
    let none : slice_get c.self.inside.mappings.items c.in-Some.place ≡ None = search rules in
    subst (λ (all : List Mapping). false ≡ is_some (find (is_mapped_from c.args.start) all)) c.self.view_is
    (has_none c.args.start c.self.inside.mappings.items (missed_past_end c.self.inside.mappings.items c.self.inside.places
    c.args.start c.in-Some.place c.self.invariant place none))

pub returns : goal.returns
returns c =
    let place : get nat_cmp c.self.inside.places c.args.start ≡ Some c.in-Some.place = search rules in
    let mapping : slice_get c.self.inside.mappings.items c.in-Some.place ≡ Some c.in-Some-mapping_at.mapping = search rules in
    subst (λ (all : List Mapping). c.begins_at.result ≡ is_some (find (is_mapped_from c.args.start) all)) c.self.view_is
    (has_at c.self.inside.mappings.items c.self.inside.places c.args.start c.in-Some.place c.in-Some-mapping_at.mapping
    c.begins_at.result c.self.invariant place mapping c.begins_at.ensures)
