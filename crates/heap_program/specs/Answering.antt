-- How a machine responds: it answers each call, and says that a bad line is one.
use Rattle.std.specs.Prelude.{◌≡◌, ℕ, List, Option}
use Rattle.machine_model.specs.declared.answer.Answer.{Answer}
use Rattle.machine_model.specs.declared.call.Call.{Call}
use Rattle.machine_model.specs.State.{State}
use Rattle.machine_model.specs.Run.{RunsTo}
use Rattle.kernel_heap.specs.declared.machine.Machine.{Machine}
use Rattle.kernel_heap.specs.Steps.{StepsTo}
use Rattle.heap_program.specs.Progress.{IsAt, texts_of}

-- From the state s and a machine the items are answered by a text. The machine took a step for each, and stands for the state after
-- them.
pub record AreAnswered (s : State) (old : Machine) (items : List (Option Call)) (told : List ℕ) (new : Machine) : Type 0 where
  pub answers : List (Option Answer)
  pub state : State
  pub run : RunsTo s items answers state
  pub steps : StepsTo old items answers new
  pub at : IsAt new state
  pub text : told ≡ texts_of answers

-- so it is from each state for which the machine stood
abbrev pub IsAnswering : Machine → List (Option Call) → List ℕ → Machine → Type 0
IsAnswering old items told new = (s : State) → IsAt old s → AreAnswered s old items told new
