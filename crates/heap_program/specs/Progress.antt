-- How far a run has come.
use Rattle.std.specs.Prelude.{◌≡◌, ℕ, List, ◌++◌, Option}
use Rattle.std.specs.List.{flat_map}
use Rattle.machine_model.specs.declared.answer.Answer.{Answer}
use Rattle.machine_model.specs.State.{State}
use Rattle.machine_model.specs.Run.{IsGood, RunsTo}
use Rattle.machine_model.specs.Machine.{Stands}
use Rattle.kernel_heap.specs.declared.machine.Machine.{Machine}
use Rattle.kernel_heap.specs.Machine.{seen}
use Rattle.kernel_heap.specs.Steps.{StepsTo}
use Rattle.heap_program.specs.Lines.{items_of}
use Rattle.heap_program.specs.Text.{line_text, end_text_of}

-- the texts of the answers, one after another
abbrev pub texts_of : List (Option Answer) → List ℕ
texts_of answers = flat_map line_text answers

-- the machine stands for the state, which is good
pub record IsAt (machine : Machine) (s : State) : Type 0 where
  pub good : IsGood s
  pub stands : Stands (seen machine) s

-- From the state s and a machine all the bytes are answered: the texts of the answers, and then the end text of the last state.
pub record IsEnd (s : State) (old : Machine) (bytes told : List ℕ) (new : Machine) : Type 0 where
  pub answers : List (Option Answer)
  pub state : State
  pub run : RunsTo s (items_of bytes) answers state
  pub steps : StepsTo old (items_of bytes) answers new
  pub at : IsAt new state
  pub text : told ≡ texts_of answers ++ end_text_of state
