-- The end of a replay, with the extents.
use Rattle.std.specs.Prelude.{◌≡◌, ◌≤◌, max, List, [], ◌∷◌, ◌++◌, Some}
use Rattle.dlmalloc_chunks.specs.declared.extent.Extent.{Extent}
use Rattle.machine_model.specs.declared.answer.Answer.{Answer}
use Rattle.machine_model.specs.declared.answer.Reply.TheVariants.{Extents as Listing}
use Rattle.machine_model.specs.declared.call.Call.TheVariants.{Extents}
use Rattle.machine_model.specs.Extents.{IsTiling}
use Rattle.machine_model.specs.State.{State}
use Rattle.machine_model.specs.Run.{RunsTo}
use Rattle.kernel_heap.specs.Steps.{StepsTo}
use Rattle.heap_program.specs.Progress.{IsAt}
use Rattle.heap_report.specs.declared.listed.Listed.{Listed}
use Rattle.heap_report.specs.declared.replay.Replay.{Replay}
use Rattle.heap_report.specs.Extents.{AreTheHeapsExtents}
use Rattle.heap_report.specs.Live.{live, peak}
use Rattle.heap_report.specs.Replaying.{IsReplayAt}

-- the last answer is the list of these extents
pub record EndsWith (answers : List Answer) (extents : List Extent) : Type 0 where
  pub earlier : List Answer
  pub last : Answer
  pub split : answers ≡ earlier ++ last ∷ []
  pub listed : last.reply ≡ Listing extents

-- From the state s the extents were asked for: they are those of the heap of the machine that is handed on, and tile the state's
-- heap, and the sums are those of the run.
pub record IsListedFrom (s : State) (replay : Replay) (listed : Listed) : Type 0 where
  pub answer : Answer
  pub state : State
  pub run : RunsTo s (Some Extents ∷ []) (Some answer ∷ []) state
  pub steps : StepsTo replay.machine (Some Extents ∷ []) (Some answer ∷ []) listed.machine
  pub lists : answer.reply ≡ Listing listed.extents
  pub tiles : IsTiling state listed.extents
  pub of_heap : AreTheHeapsExtents listed.machine listed.extents
  pub at : IsAt listed.machine state
  pub live_is : listed.live ≡ live state
  pub peak_is : listed.peak ≡ max replay.peak (peak s (Extents ∷ []) (answer ∷ []))

-- what a list of extents told is true of each state in which the replay is
abbrev pub IsListedByReplay : Replay → Listed → Type 0
IsListedByReplay replay listed = (s : State) → IsReplayAt s replay → live s ≤ replay.peak → IsListedFrom s replay listed
