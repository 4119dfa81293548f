-- The moments of a run are those of its states.
use Rattle.std.specs.Prelude.{◌≡◌, ◌<◌, ℕ, suc, ◌*◌, ◌%◌, ◌^◌, List, length, map, slice_get, Some}
use Rattle.heap_history.specs.declared.history.Moment.{Moment}
use Rattle.machine_model.specs.declared.answer.Answer.{Answer}
use Rattle.machine_model.specs.declared.call.Call.{Call}
use Rattle.machine_model.specs.declared.config.Config.{Config}
use Rattle.machine_model.specs.Run.{IsAllowedRun}
use Rattle.machine_model.specs.State.{State, start, total_pages}
use Rattle.heap_recorder.specs.Run.{history_of}
use Rattle.heap_recorder.specs.Shown.{state_after}
use Rattle.heap_report.specs.Live.{live}

-- what is so of a state: the bytes that are live, and those of the heap's regions, modulo 2 ^ 128
abbrev pub moment_of : State → Moment
moment_of s = record { live = live s; heap = 4096 * total_pages s.heap % 2 ^ 128 }

-- so it is after each call
abbrev pub AreMoments : State → List Call → List Answer → List Moment → Type 0
AreMoments s calls answers moments = (call : ℕ) → call < length calls → slice_get moments call ≡ Some (moment_of (state_after s calls answers (suc call)))

-- the moment recorded after a call is that of the state after it, in each allowed run
abbrev pub EachMomentIsOfItsState : Type 0
EachMomentIsOfItsState =
    (config : Config) (calls : List Call) (answers : List Answer) → IsAllowedRun (start config) (map Some calls) (map Some answers) → AreMoments (start config) calls answers (history_of calls answers).moments
