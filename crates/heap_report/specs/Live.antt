-- The bytes that are live in a state, and were at most in a run.
use Rattle.std.specs.Prelude.{ℕ, max, sum, List, [], ◌∷◌, map, Option, Some, None}
use Rattle.machine_model.specs.declared.answer.Answer.{Answer}
use Rattle.machine_model.specs.declared.call.Call.{Call}
use Rattle.machine_model.specs.State.{State, Block}
use Rattle.machine_model.specs.Answer.{after}

-- the size of a live block, and 0 of one that has ended
abbrev pub block_size : Option Block → ℕ
block_size (Some block) = block.size
block_size None = 0

-- the sizes of the live blocks, by number
abbrev pub sizes_of : State → List ℕ
sizes_of s = map block_size s.blocks

-- the sum of the sizes of the live blocks
abbrev pub live : State → ℕ
live s = sum (sizes_of s)

-- the greatest sum over all states of a run, the first and the last among them
abbrev pub peak : State → List Call → List Answer → ℕ
peak s (call ∷ calls) (answer ∷ answers) = max (live s) (peak (after s call answer) calls answers)
peak s [] answers = live s
peak s (call ∷ calls) [] = live s
