-- What an answer changes of the sizes of blocks.
use Rattle.std.specs.Prelude.{ℕ, List, [], ◌∷◌, ◌++◌, map, slice_set}
use Rattle.machine_model.specs.declared.answer.Reply.{Reply}
use Rattle.machine_model.specs.declared.answer.Reply.TheVariants.{Block, Done, Released}
use Rattle.machine_model.specs.declared.call.Call.{Call}
use Rattle.machine_model.specs.declared.call.Call.TheVariants.{Malloc, Calloc, Realloc, CRealloc, Free, Reset}

-- the sizes after the answer to a call: a block that began comes last, and one that has ended has the size 0
abbrev pub sizes_after : List ℕ → Call → Reply → List ℕ
sizes_after sizes (Malloc size align) (Block number address) = sizes ++ size ∷ []
sizes_after sizes (Calloc size align) (Block number address) = sizes ++ size ∷ []
sizes_after sizes (Realloc number size) (Block given address) = slice_set sizes number size
sizes_after sizes (CRealloc number size) (Block given address) = slice_set sizes number size
sizes_after sizes (Free number) Done = slice_set sizes number 0
sizes_after sizes Reset (Released bytes) = map (λ size. 0) sizes
sizes_after sizes call reply = sizes
