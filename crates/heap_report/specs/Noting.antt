-- How a replay goes on of which something is kept for a text.
use Rattle.std.specs.Prelude.{◌≡◌, ◌≤◌, ℕ, List, [], ◌++◌, Option}
use Rattle.machine_model.specs.declared.answer.Answer.{Answer}
use Rattle.machine_model.specs.declared.call.Call.{Call}
use Rattle.machine_model.specs.State.{State}
use Rattle.kernel_heap.specs.declared.machine.Machine.{Machine}
use Rattle.heap_report.specs.declared.noted.Noted.{Noted}
use Rattle.heap_report.specs.Calls.{calls_in}
use Rattle.heap_report.specs.Live.{live}
use Rattle.heap_report.specs.Replaying.{IsReplayAt, IsServedFrom, IsReplayBegun}

-- From the state s the calls were served, and what is kept is that of the calls before and these, with their answers.
pub record IsNotedFrom {T : Type 0} (keeps : T → List Call → List Answer → Type 0) (s : State) (old : Noted T) (calls : List Call) (new : Noted T) : Type 0 where
  pub served : IsServedFrom s old.replay calls new.replay
  pub noted : (before : List Call) (given : List Answer) → keeps old.kept before given → keeps new.kept (before ++ calls) (given ++ served.answers)

-- so it is from each state that the replay followed; its peak is at least what is live there
abbrev pub IsNoted : {T : Type 0} → (T → List Call → List Answer → Type 0) → Noted T → List Call → Noted T → Type 0
IsNoted keeps old calls new = (s : State) → IsReplayAt s old.replay → live s ≤ old.replay.peak → IsNotedFrom keeps s old calls new

-- bad lines are passed over, and nothing is told
pub record IsReplaying {T : Type 0} (keeps : T → List Call → List Answer → Type 0) (old : Noted T) (items : List (Option Call)) (told : List ℕ) (new : Noted T) : Type 0 where
  pub silent : told ≡ []
  pub replayed : IsNoted keeps old (calls_in items) new

-- no call came yet
pub record IsBegunWith {T : Type 0} (keeps : T → List Call → List Answer → Type 0) (machine : Machine) (noted : Noted T) : Type 0 where
  pub begun : IsReplayBegun machine noted.replay
  pub kept : keeps noted.kept [] []
