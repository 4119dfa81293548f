-- Why a run stops before its end, and what it has read and written by then.
use Rattle.std.specs.Prelude.{◌≡◌, ◌+◌, ◌<◌, ◌≤◌, ◌^◌, ◌↔◌, ℕ, List, [], length, Option, string_bytes}
use Rattle.std.specs.Io.KnownBytes.{Appends, Consumes}
use Rattle.machine_model.specs.declared.call.Call.{Call}
use Rattle.machine_model.specs.State.{State}
use Rattle.kernel_heap.specs.declared.machine.Machine.{Machine}
use Rattle.heap_program.specs.declared.run.Stop.{Stop}
use Rattle.heap_program.specs.declared.run.Stop.TheVariants.{Memory, ReadFault, WriteFault, TooLong}
use Rattle.heap_program.specs.declared.session.Session.{Session}
use Rattle.heap_program.specs.declared.sink.SinkFault.{SinkFault}
use Rattle.heap_program.specs.declared.sink.SinkFault.TheVariants.{Failed, OutOfMemory}
use Rattle.heap_program.specs.Headline.{IsFront}
use Rattle.heap_program.specs.Progress.{IsEnd}
use Rattle.heap_program.specs.Responses.{Responded, IsResponseFront, HasHeld, HasKeptUp}

-- what a fault of the sink stops a run for
abbrev pub stop_of : SinkFault → Stop
stop_of Failed = WriteFault
stop_of OutOfMemory = Memory

-- the status of each
abbrev pub status_of : Stop → ℕ
status_of Memory = 5
status_of ReadFault = 6
status_of WriteFault = 7
status_of TooLong = 8

-- nothing came yet
pub record IsFreshSession {R : Type 0} (session : Session R) : Type 0 where
  pub line : session.line ≡ []
  pub output : string_bytes session.output ≡ []

-- `count` bytes came from the source, and the response to their lines went to the sink. The line `line` has begun.
pub record HasRead {R : Type 0} (responds : R → List (Option Call) → List ℕ → R → Type 0) (old new : R) (line : List ℕ) (had left before after : Option (List ℕ)) (count : ℕ) : Type 0 where
  pub bytes : List ℕ
  pub told : List ℕ
  pub consumed : Consumes had left bytes
  pub counted : length bytes ≡ count
  pub appended : Appends before after told
  pub responded : Responded responds old [] bytes told line new

-- From the state s the line that had begun is answered, and the end text went to the sink too.
pub record HasClosed (s : State) (old new : Machine) (line : List ℕ) (before after : Option (List ℕ)) : Type 0 where
  pub told : List ℕ
  pub appended : Appends before after told
  pub end : IsEnd s old line told new

-- Only a front of that went to the sink.
pub record HasPart (s : State) (old : Machine) (line : List ℕ) (before after : Option (List ℕ)) : Type 0 where
  pub told : List ℕ
  pub appended : Appends before after told
  pub front : IsFront old s line told

-- What came and went before a stop.
pub record HasStopped {R : Type 0} (responds : R → List (Option Call) → List ℕ → R → Type 0) (old : R) (stop : Stop) (had left before after : Option (List ℕ)) : Type 0 where
  pub bytes : List ℕ
  pub told : List ℕ
  pub consumed : Consumes had left bytes
  pub short : length bytes ≤ 2 ^ 30 + 4096
  pub appended : Appends before after told
  pub front : IsResponseFront responds old bytes told
  pub too_long : stop ≡ TooLong ↔ 2 ^ 30 < length bytes
  pub at_fault : stop ≡ ReadFault → HasHeld responds old 0 had left before after
  pub at_length : stop ≡ TooLong → HasHeld responds old 4096 had left before after
  pub kept_up : HasKeptUp responds old had left before after
