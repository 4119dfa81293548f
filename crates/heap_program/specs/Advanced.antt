-- How a session goes on.
use Rattle.std.specs.Prelude.{◌≡◌, ℕ, List, ◌++◌, Option, string_bytes}
use Rattle.machine_model.specs.declared.call.Call.{Call}
use Rattle.machine_model.specs.State.{State}
use Rattle.kernel_heap.specs.declared.machine.Machine.{Machine}
use Rattle.heap_program.specs.declared.session.Session.{Session}
use Rattle.heap_program.specs.Progress.{IsEnd}
use Rattle.heap_program.specs.Responses.{Responded}

-- The session took these bytes.
pub record Advanced {R : Type 0} (responds : R → List (Option Call) → List ℕ → R → Type 0) (old new : Session R) (bytes : List ℕ) : Type 0 where
  pub told : List ℕ
  pub output : string_bytes new.output ≡ string_bytes old.output ++ told
  pub responded : Responded responds old.responder old.line bytes told new.line new.responder

-- From the state s the session answered the line that had begun, and put the end text after it.
pub record IsFinished (s : State) (old new : Session Machine) : Type 0 where
  pub told : List ℕ
  pub output : string_bytes new.output ≡ string_bytes old.output ++ told
  pub end : IsEnd s old.responder old.line told new.responder
