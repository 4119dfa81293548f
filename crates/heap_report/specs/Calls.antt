-- The calls of an input that is replayed.
use Rattle.std.specs.Prelude.{ℕ, List, [], ◌∷◌, ◌++◌, Option, Some, None}
use Rattle.machine_model.specs.declared.call.Call.{Call}
use Rattle.machine_model.specs.declared.call.Call.TheVariants.{Extents}
use Rattle.heap_program.specs.Lines.{items_of}

-- the calls among items; bad lines are passed over
abbrev pub calls_in : List (Option Call) → List Call
calls_in [] = []
calls_in (Some call ∷ items) = call ∷ calls_in items
calls_in (None ∷ items) = calls_in items

-- the calls of an input's lines, in order, and then the one for the extents
abbrev pub calls_of : List ℕ → List Call
calls_of input = calls_in (items_of input) ++ Extents ∷ []
