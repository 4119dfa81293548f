-- Calls that were served one after the other.
use Rattle.std.specs.Prelude.{List, map, Some}
use Rattle.machine_model.specs.declared.call.Call.{Call}
use Rattle.machine_model.specs.declared.answer.Answer.{Answer}
use Rattle.machine_model.specs.declared.config.Config.{Config}
use Rattle.machine_model.specs.State.{State, start}
use Rattle.machine_model.specs.Run.{IsGood, RunsTo}
use Rattle.machine_model.specs.Machine.{Stands}
use Rattle.kernel_heap.specs.Machine.{seen}
use Rattle.kernel_heap.specs.Steps.{IsNewMachine, StepsTo}
use Rattle.kernel_heap.specs.declared.machine.Machine.{Machine}

-- A new machine of a configuration took the calls, one after the other, and answered each as is allowed in the state that the
-- answers before it determine; afterwards it stands for the last state, which is good.
pub record AreServed (config : Config) (calls : List Call) (answers : List Answer) (machine : Machine) : Type 0 where
  pub first : Machine
  pub new : IsNewMachine config first
  pub steps : StepsTo first (map Some calls) (map Some answers) machine
  pub state : State
  pub run : RunsTo (start config) (map Some calls) (map Some answers) state
  pub good : IsGood state
  pub stands : Stands (seen machine) state
