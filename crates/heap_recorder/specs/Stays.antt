-- The stays of blocks, as calls are answered.
use Rattle.std.specs.Prelude.{ℕ, ◌+◌, Bool, true, false, ◌&&◌, nat_eq, if◌then◌else◌, List, [], ◌∷◌, ◌++◌, map, find, Option, Some, None}
use Rattle.heap_history.specs.declared.history.Ending.{Ending}
use Rattle.heap_history.specs.declared.history.Ending.TheVariants.{Live, Freed, Reset as AllEnded, Moved, Resized}
use Rattle.heap_history.specs.declared.history.Stay.{Stay}
use Rattle.machine_model.specs.declared.call.Call.{Call}
use Rattle.machine_model.specs.declared.call.Call.TheVariants.{Malloc, Calloc, Realloc, CRealloc, Free, Reset}
use Rattle.machine_model.specs.declared.answer.Reply.{Reply}
use Rattle.machine_model.specs.declared.answer.Reply.TheVariants.{Block, Done, Released}

-- how many blocks began, and their stays, in the order in which they began; one that goes on has no end yet
pub record StayNotes : Type 0 where
  pub begun : ℕ
  pub stays : List Stay

-- whether a stay goes on
abbrev pub is_live : Ending → Bool
is_live Live = true
is_live ending = false

abbrev pub has_not_ended : Stay → Bool
has_not_ended stay = is_live stay.ending

-- whether a stay goes on and is the block's
abbrev pub is_stay_of : ℕ → Stay → Bool
is_stay_of number stay = has_not_ended stay && nat_eq stay.block number

-- a stay that a call begins
abbrev pub new_stay : ℕ → ℕ → ℕ → ℕ → Stay
new_stay call number address size = record { block = number; address = address; size = size; born = call; end = 0; ending = Live }

-- a stay that a call ends
abbrev pub ended : ℕ → Ending → Stay → Stay
ended call ending stay = record { block = stay.block; address = stay.address; size = stay.size; born = stay.born; end = call; ending = ending }

-- so it is with the block's stay alone
abbrev pub ended_of : ℕ → ℕ → Ending → Stay → Stay
ended_of number call ending stay = if is_stay_of number stay then ended call ending stay else stay

-- and so with each that goes on
abbrev pub ended_now : ℕ → Stay → Stay
ended_now call stay = if has_not_ended stay then ended call AllEnded stay else stay

-- a new block has the next number
abbrev pub begun : ℕ → ℕ → ℕ → StayNotes → StayNotes
begun call address size notes = record { begun = notes.begun + 1; stays = notes.stays ++ new_stay call notes.begun address size ∷ [] }

-- the block ends
abbrev pub with_block_freed : ℕ → ℕ → StayNotes → StayNotes
with_block_freed call number notes = record { begun = notes.begun; stays = map (ended_of number call Freed) notes.stays }

-- all blocks end
abbrev pub all_stays_ended : ℕ → StayNotes → StayNotes
all_stays_ended call notes = record { begun = notes.begun; stays = map (ended_now call) notes.stays }

-- whether a stay is at the address and has the size
abbrev pub is_stay_at : ℕ → ℕ → Stay → Bool
is_stay_at address size stay = nat_eq stay.address address && nat_eq stay.size size

-- why a stay ends if the block has another place or size: it moved, if its address is another one
abbrev pub why : ℕ → Stay → Ending
why address stay = if nat_eq stay.address address then Resized else Moved

-- the block's stay goes on if it has this address and size; else it ends, and another one begins
abbrev pub resized_from : ℕ → ℕ → ℕ → ℕ → Option Stay → StayNotes → StayNotes
resized_from call number address size None notes = notes
resized_from call number address size (Some stay) notes =
    if is_stay_at address size stay then notes
    else record { begun = notes.begun; stays = map (ended_of number call (why address stay)) notes.stays ++ new_stay call number address size ∷ [] }

abbrev pub resized : ℕ → ℕ → ℕ → ℕ → StayNotes → StayNotes
resized call number address size notes = resized_from call number address size (find (is_stay_of number) notes.stays) notes

-- the stays after the answer to a call, whose number comes first
abbrev pub stays_after : ℕ → Call → Reply → StayNotes → StayNotes
stays_after call (Malloc size align) (Block number address) notes = begun call address size notes
stays_after call (Calloc size align) (Block number address) notes = begun call address size notes
stays_after call (Realloc number size) (Block given address) notes = resized call number address size notes
stays_after call (CRealloc number size) (Block given address) notes = resized call number address size notes
stays_after call (Free number) Done notes = with_block_freed call number notes
stays_after call Reset (Released bytes) notes = all_stays_ended call notes
stays_after call made reply notes = notes

-- a stay of a run of `calls` calls: one that no call ended ends with them
abbrev pub closed_stay : ℕ → Stay → Stay
closed_stay calls stay = if has_not_ended stay then ended calls Live stay else stay

-- the stays of a run of `calls` calls
abbrev pub stays_at_end : ℕ → StayNotes → List Stay
stays_at_end calls notes = map (closed_stay calls) notes.stays
