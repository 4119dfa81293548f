-- The stays of a run are its live blocks, and the regions that it notes are those of its heap.
use Rattle.std.specs.Prelude.{◌≡◌, ◌<◌, ℕ, zero, suc, ◌+◌, Bool, false, ◌&&◌, nat_eq, nat_le, nat_lt, if◌then◌else◌, List, [], ◌∷◌, length, map, Option, Some, None}
use Rattle.heap_history.specs.declared.history.Held.{Held}
use Rattle.heap_history.specs.declared.history.Stay.{Stay}
use Rattle.machine_model.specs.declared.answer.Answer.{Answer}
use Rattle.machine_model.specs.declared.call.Call.{Call}
use Rattle.machine_model.specs.declared.config.Config.{Config}
use Rattle.machine_model.specs.declared.region.Region.{Region}
use Rattle.machine_model.specs.Answer.{after}
use Rattle.machine_model.specs.Run.{IsAllowedRun}
use Rattle.machine_model.specs.State.{State, Block, block_at, start}
use Rattle.heap_recorder.specs.Run.{history_of}

-- whether a stay is the block's, at the address and with the size
abbrev pub is_spot : ℕ → ℕ → ℕ → Stay → Bool
is_spot number address size stay = nat_eq stay.block number && (nat_eq stay.address address && nat_eq stay.size size)

-- whether it is so after a call: the stay began with it or before, and ends later
abbrev pub shows_stay : ℕ → ℕ → ℕ → ℕ → Stay → Bool
shows_stay call number address size stay = nat_le stay.born call && (nat_lt call stay.end && is_spot number address size stay)

-- how many of a list show so
abbrev pub count_shown : {A : Type 0} → (A → Bool) → List A → ℕ
count_shown test [] = 0
count_shown test (one ∷ more) = (if test one then 1 else 0) + count_shown test more

-- whether a block is live, and at the address with the size
abbrev pub lies : ℕ → ℕ → Option Block → Bool
lies address size None = false
lies address size (Some block) = nat_eq block.address address && nat_eq block.size size

abbrev pub has_block : State → ℕ → ℕ → ℕ → Bool
has_block s number address size = lies address size (block_at s.blocks number)

-- the state after `count` calls
abbrev pub state_after : State → List Call → List Answer → ℕ → State
state_after s calls answers zero = s
state_after s [] answers (suc count) = s
state_after s (call ∷ calls) [] (suc count) = s
state_after s (call ∷ calls) (answer ∷ answers) (suc count) = state_after (after s call answer) calls answers count

-- After each call, a block that is live is one stay's that shows, and each stay that shows is a live block's.
abbrev pub AreStays : State → List Call → List Answer → List Stay → Type 0
AreStays s calls answers stays =
    (call number address size : ℕ) → call < length calls →
    count_shown (shows_stay call number address size) stays ≡ (if has_block (state_after s calls answers (suc call)) number address size then 1 else 0)

-- So are the stays of each run from the start.
abbrev pub EachBlockIsDrawnOnce : Type 0
EachBlockIsDrawnOnce =
    (config : Config) (calls : List Call) (answers : List Answer) → IsAllowedRun (start config) (map Some calls) (map Some answers) → AreStays (start config) calls answers (history_of calls answers).stays

-- whether a region of the heap begins at the address and has this number of pages
abbrev pub is_heap_part : ℕ → ℕ → Held → Bool
is_heap_part start pages held = nat_eq held.start start && nat_eq held.pages pages

-- whether the heap has it so after a call: it came with that call or before, and goes later
abbrev pub shows_part : ℕ → ℕ → ℕ → Held → Bool
shows_part call start pages held = nat_le held.born call && (nat_lt call held.end && is_heap_part start pages held)

-- whether a region of a state is so
abbrev pub is_region : ℕ → ℕ → Region → Bool
is_region start pages region = nat_eq region.start start && nat_eq region.pages pages

-- After each call, for each first address and number of pages, as many of the noted regions show as the heap has such regions.
abbrev pub AreParts : State → List Call → List Answer → List Held → Type 0
AreParts s calls answers heap =
    (call start pages : ℕ) → call < length calls →
    count_shown (shows_part call start pages) heap ≡ count_shown (is_region start pages) (state_after s calls answers (suc call)).heap

-- So are the regions of each run from the start.
abbrev pub EachRegionIsDrawnOnce : Type 0
EachRegionIsDrawnOnce =
    (config : Config) (calls : List Call) (answers : List Answer) → IsAllowedRun (start config) (map Some calls) (map Some answers) → AreParts (start config) calls answers (history_of calls answers).heap
