use Rattle.std.proofs.Common.{rules, ◌≡◌, ◌∷◌, [], ◌++◌, length}
use Rattle.heap_recorder.proofs.KeptStays.{places_begun, places_more}
use Rattle.heap_recorder.proofs.stays.Stays.begin.Goals as goal

pub invariant_of-self-in_err-push-2 : goal.invariant_of-self-in_err-push-2
invariant_of-self-in_err-push-2 c =
    let places : c.push.new.self.items ≡ c.self.inside.places.items ++ c.len-place.result ∷ [] = search rules in
    let stays : c.push-2.new.self.items ≡ c.self.inside.stays.items = search rules in
    rw (places, stays) (places_more c.self.inside.stays.items c.self.inside.places.items c.self.inside.first c.len-place.result c.self.invariant)

pub invariant_of-self-2 : goal.invariant_of-self-2
invariant_of-self-2 c =
    let places : c.push.new.self.items ≡ c.self.inside.places.items ++ c.len-place.result ∷ [] = search rules in
    let stays : c.push-2.new.self.items ≡ c.self.inside.stays.items ++ c.new_stay.result ∷ [] = search rules in
    let place : c.len-place.result ≡ length c.self.inside.stays.items = search rules in
    let number : c.new_stay.result.block ≡ length c.self.inside.places.items = search rules in
    rw (places, stays) (places_begun c.self.inside.stays.items c.self.inside.places.items c.self.inside.first
    c.len-place.result c.new_stay.result c.self.invariant place number)
