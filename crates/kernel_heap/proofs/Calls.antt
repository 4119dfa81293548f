-- Calls, one after the other.
use Rattle.std.proofs.Common.{List, [], ◌∷◌, ◌++◌, Some, refl}
use Rattle.machine_model.specs.declared.call.Call.{Call}
use Rattle.machine_model.specs.declared.answer.Answer.{Answer}
use Rattle.machine_model.specs.declared.config.Config.{Config}
use Rattle.machine_model.specs.State.{start}
use Rattle.machine_model.specs.Answer.{after}
use Rattle.machine_model.specs.Run.{RunsTo}
use Rattle.machine_model.proofs.Runs.{runs_none, calls_on}
use Rattle.kernel_heap.specs.Runs.{AreServed}
use Rattle.kernel_heap.specs.Steps.{IsNewMachine, HasStepped}
use Rattle.kernel_heap.specs.declared.machine.Machine.{Machine}
use Rattle.kernel_heap.proofs.Steps.{step_one, calls_steps_on}

-- no call
pub served_none : (config : Config) (machine : Machine) → IsNewMachine config machine → AreServed config [] [] machine
served_none config machine new = record {
  first = machine;
  new = new;
  steps = refl;
  state = start config;
  run =
      runs_none (start config);
  good = new.good;
  stands = new.stands;
}

-- one more
pub served_more : (config : Config) (calls : List Call) (answers : List Answer) (old new : Machine) (call : Call)
    (answer : Answer) → AreServed config calls answers old → HasStepped old call answer new →
    AreServed config (calls ++ call ∷ []) (answers ++ answer ∷ []) new
served_more config calls answers old new call answer h stepped =
    let s = start config in
    let step = stepped.allowed h.state h.good h.stands in
    let next = after h.state call answer in
    let one : RunsTo h.state (Some call ∷ []) (Some answer ∷ []) next = record { run = ((step.allowed, step.good), tt); last = refl } in
    record {
      first = h.first;
      new = h.new;
      steps = calls_steps_on h.first old new calls (call ∷ []) answers (answer ∷ []) h.steps
          (step_one old new call answer stepped);
      state = next;
      run = calls_on s h.state next calls (call ∷ []) answers (answer ∷ []) h.run one;
      good = step.good;
      stands = step.stands;
    }
