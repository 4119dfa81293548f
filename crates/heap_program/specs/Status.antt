-- The statuses.
use Rattle.std.specs.Prelude.{◌≡◌, ◌≢◌, ◌≤◌, ◌⊎◌, ◌↔◌, ℕ, List, [], ◌∷◌, codes, slice_index_or}
use Rattle.machine_model.specs.declared.config.Config.{Config}
use Rattle.kernel_heap.specs.Config.{IsGoodConfig, IsConfigRefused}
use Rattle.kernel_heap.specs.declared.run_error.RunError.{RunError}
use Rattle.kernel_heap.specs.declared.run_error.RunError.TheVariants.{BadWindow, BadGranularity, TooFewFrames, OutOfMemory}
use Rattle.heap_program.specs.Faults.{HasRisen}

-- the status if no machine was made
abbrev pub refusal_status : RunError → ℕ
refusal_status BadWindow = 2
refusal_status BadGranularity = 3
refusal_status TooFewFrames = 4
refusal_status OutOfMemory = 5

-- statuses 2 to 4 come exactly if no machine can be made from the configuration, and tell why
pub record TellsRefusal (config : Config) (status : ℕ) : Type 0 where
  pub window : status ≡ 2 ↔ IsConfigRefused config BadWindow
  pub granularity : status ≡ 3 ↔ IsConfigRefused config BadGranularity
  pub frames : status ≡ 4 ↔ IsConfigRefused config TooFewFrames
  pub good : (status ≡ 0) ⊎ (5 ≤ status) → IsGoodConfig config

-- Calls were to be drawn for a new machine of a configuration, and the command ended with a status. The sink's count of
-- faults is `writes` before, and `writes'` after.
pub record IsGenerationStatus {K : Type 0} (config : Config) (sink sink' : K) (writes writes' status : ℕ) : Type 0 where
  -- there was a command, and no input that could fail or be too long
  pub statuses : (status ≢ 1) × (status ≢ 6) × (status ≤ 7)
  pub refused : TellsRefusal config status
  -- at statuses 1 to 4 nothing is written
  pub untouched : 1 ≤ status → status ≤ 4 → sink' ≡ sink
  -- the sink failed only if its count rose
  pub write_fault : status ≡ 7 → HasRisen writes writes'

-- the texts of the statuses from 0 on
abbrev pub status_texts : List (List ℕ)
status_texts =
    codes "ok" ∷ codes "usage" ∷ codes "bad window" ∷ codes "bad granularity" ∷ codes "too few frames" ∷ codes "out of memory"
    ∷ codes "read fault" ∷ codes "write fault" ∷ codes "input too long" ∷ []

-- the text of an exit status; nothing for a number that is none
abbrev pub status_text_of : ℕ → List ℕ
status_text_of status = slice_index_or status_texts status []
