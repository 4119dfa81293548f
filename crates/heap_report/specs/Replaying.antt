-- How a replay goes on.
use Rattle.std.specs.Prelude.{◌≡◌, max, sum, List, [], map, Some}
use Rattle.machine_model.specs.declared.answer.Answer.{Answer}
use Rattle.machine_model.specs.declared.call.Call.{Call}
use Rattle.machine_model.specs.State.{State}
use Rattle.machine_model.specs.Run.{RunsTo}
use Rattle.kernel_heap.specs.declared.machine.Machine.{Machine}
use Rattle.kernel_heap.specs.Steps.{HasStepped, StepsTo}
use Rattle.heap_program.specs.Progress.{IsAt}
use Rattle.heap_recorder.specs.Sizes.{sizes_after}
use Rattle.heap_report.specs.declared.replay.Replay.{Replay}
use Rattle.heap_report.specs.Live.{sizes_of, peak}

-- the replay's machine stands for the state, and its sizes are those of the live blocks
pub record IsReplayAt (s : State) (replay : Replay) : Type 0 where
  pub at : IsAt replay.machine s
  pub sizes : replay.sizes ≡ sizes_of s

-- From the state s the calls were served, each by an answer that is allowed and that the machine's step gave; the sizes and the peak
-- are kept.
pub record IsServedFrom (s : State) (old : Replay) (calls : List Call) (new : Replay) : Type 0 where
  pub answers : List Answer
  pub state : State
  pub run : RunsTo s (map Some calls) (map Some answers) state
  pub steps : StepsTo old.machine (map Some calls) (map Some answers) new.machine
  pub follows : IsReplayAt state new
  pub peak_is : new.peak ≡ max old.peak (peak s calls answers)

-- The replay answered a call: its machine took the step, and the sizes and the peak are kept.
pub record IsCallAnswered (old : Replay) (call : Call) (answer : Answer) (new : Replay) : Type 0 where
  pub stepped : HasStepped old.machine call answer new.machine
  pub sizes : new.sizes ≡ sizes_after old.sizes call answer.reply
  pub peak_is : new.peak ≡ max old.peak (sum new.sizes)

-- no call came yet
pub record IsReplayBegun (machine : Machine) (replay : Replay) : Type 0 where
  pub machine_is : replay.machine ≡ machine
  pub sizes : replay.sizes ≡ []
  pub peak_is : replay.peak ≡ 0
