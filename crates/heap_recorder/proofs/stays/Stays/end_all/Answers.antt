use Rattle.std.proofs.Common.{rules}
use Rattle.heap_recorder.proofs.KeptStays.{places_reset}
use Rattle.heap_recorder.proofs.stays.Stays.end_all.Goals as goal

pub invariant_of-self : goal.invariant_of-self
invariant_of-self c = places_reset c.args.call c.self.inside.stays.items c.end_from.new.stays.items
    c.self.inside.places.items c.len.result c.end_from.ensures (search rules)
