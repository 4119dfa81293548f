use Rattle.std.proofs.Common.{rules, ◌≡◌, ◌++◌, ◌∷◌, [], length, false, List, subst}
use Rattle.std.specs.Prelude.{find, is_some}
use Rattle.heap_history.specs.declared.history.Mapping.{Mapping}
use Rattle.heap_recorder.specs.Mappings.{is_mapped_from, new_mapping, ArePlacesByStart}
use Rattle.heap_recorder.proofs.KeptMappings.{missed_is, others_found, places_mapped}
use Rattle.heap_recorder.proofs.mappings.Mappings.map.Goals as goal

pub invariant_of-self-in_err-push : goal.invariant_of-self-in_err-push
invariant_of-self-in_err-push c =
    let none : false ≡ is_some (find (is_mapped_from c.args.region.start) c.self.inside.mappings.items) = search rules in
    let same : c.self.inside.mappings.items ≡ c.push.new.self.items = search rules in
    subst (λ (all : List Mapping). ArePlacesByStart all c.insert.new.self) same
    (others_found c.self.inside.mappings.items c.self.inside.places c.insert.new.self c.args.region.start c.len-place.result
    c.self.invariant (missed_is c.args.region.start c.self.inside.mappings.items none) c.in_ok-insert.ensures.updates.2)

pub invariant_of-self-2 : goal.invariant_of-self-2
invariant_of-self-2 c =
    let none : false ≡ is_some (find (is_mapped_from c.args.region.start) c.self.inside.mappings.items) = search rules in
    let put = new_mapping c.args.call c.args.region c.args.large in
    let more : c.self.inside.mappings.items ++ put ∷ [] ≡ c.push.new.self.items = search rules in
    let place : c.len-place.result ≡ length c.self.inside.mappings.items = search rules in
    subst (λ (all : List Mapping). ArePlacesByStart all c.insert.new.self) more
    (places_mapped c.self.inside.mappings.items c.insert.new.self c.len-place.result put
    (others_found c.self.inside.mappings.items c.self.inside.places c.insert.new.self c.args.region.start c.len-place.result
    c.self.invariant (missed_is c.args.region.start c.self.inside.mappings.items none) c.in_ok-insert.ensures.updates.2)
    place c.in_ok-insert.ensures.updates.1)
