use Rattle.std.proofs.Common.{◌≡◌, Some, drop, map}
use Rattle.register_image.specs.Values.{named_beside, named_bits}
use Rattle.register_image.proofs.values.flags_named.Given as goal

abbrev pub invariant-loop-name : goal.invariant-loop-name
invariant-loop-name g l =
    g.F.Flags.exact → named_beside g.F.Flags.table (Some (g.F.Flags.set_of l.flags)) (map (λ name. name.now) (drop l.name-index l.names))
    ≡ named_bits g.F.Flags.table (map (λ name. name.now) l.names)
