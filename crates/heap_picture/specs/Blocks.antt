-- The live blocks that a run leaves, by their addresses.
use Rattle.std.specs.Prelude.{◌≡◌, ◌↔◌, ℕ, Bool, ◌&&◌, nat_eq, nat_le, nat_lt, List, length, map, find, Option, Some, IsTrue}
use Rattle.std.specs.Option.{option_map}
use Rattle.heap_history.specs.declared.history.History.{History}
use Rattle.heap_history.specs.declared.history.Stay.{Stay}
use Rattle.machine_model.specs.declared.answer.Answer.{Answer}
use Rattle.machine_model.specs.declared.call.Call.{Call}
use Rattle.machine_model.specs.declared.config.Config.{Config}
use Rattle.machine_model.specs.Run.{IsAllowedRun, last_state}
use Rattle.machine_model.specs.State.{start}
use Rattle.heap_map.specs.declared.blocks.NamedBlock.{NamedBlock}
use Rattle.heap_recorder.specs.Run.{history_of}
use Rattle.heap_recorder.specs.Shown.{has_block}

-- whether a stay is there after the last of `calls` calls: it began with one of them, and none ended it
abbrev pub remains : ℕ → Stay → Bool
remains calls stay = nat_lt stay.born calls && nat_le calls stay.end

-- what the block of a stay is called
abbrev pub name_of : Stay → NamedBlock
name_of stay = record { number = stay.block; size = stay.size }

-- whether a stay is at an address then
abbrev pub remains_at : ℕ → ℕ → Stay → Bool
remains_at calls address stay = remains calls stay && nat_eq stay.address address

-- the block at an address after these calls: that of the first stay which is there
abbrev pub block_at_end : ℕ → List Stay → ℕ → Option NamedBlock
block_at_end calls stays address = option_map name_of (find (remains_at calls address) stays)

-- the blocks that a run leaves
abbrev pub blocks_at_end : History → ℕ → Option NamedBlock
blocks_at_end history address = block_at_end (length history.moments) history.stays address

-- The map of a run calls the block at an address by a number and a size exactly if in the last state that number's block is live, at the
-- address and with the size.
abbrev pub EachBlockHasItsName : Type 0
EachBlockHasItsName =
    (config : Config) (calls : List Call) (answers : List Answer) → IsAllowedRun (start config) (map Some calls) (map Some answers) →
    (address : ℕ) (block : NamedBlock) →
    (blocks_at_end (history_of calls answers) address ≡ Some block) ↔ IsTrue (has_block (last_state (start config) (map Some calls) (map Some answers)) block.number address block.size)
