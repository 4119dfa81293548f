-- What a run that is replayed and told of has done.
use Rattle.std.specs.Prelude.{◌≡◌, ◌≤◌, ◌^◌, ◌+◌, ◌⊎◌, ℕ, List, [], ◌++◌, length, map, Option, Some}
use Rattle.std.specs.Io.KnownBytes.{Appends, Consumes}
use Rattle.dlmalloc_chunks.specs.declared.extent.Extent.{Extent}
use Rattle.machine_model.specs.declared.answer.Answer.{Answer}
use Rattle.machine_model.specs.declared.call.Call.{Call}
use Rattle.machine_model.specs.Extents.{IsTiling}
use Rattle.machine_model.specs.State.{State}
use Rattle.machine_model.specs.Run.{IsGood, RunsTo}
use Rattle.machine_model.specs.Machine.{Stands}
use Rattle.kernel_heap.specs.declared.machine.Machine.{Machine}
use Rattle.kernel_heap.specs.Machine.{seen}
use Rattle.kernel_heap.specs.Steps.{StepsTo}
use Rattle.heap_program.specs.Flushed.{IsAllFlushed}
use Rattle.heap_program.specs.Headline.{IsReadWhole}
use Rattle.heap_program.specs.Lines.{items_of}
use Rattle.heap_report.specs.Calls.{calls_in, calls_of}
use Rattle.heap_report.specs.Extents.{AreTheHeapsExtents}
use Rattle.heap_report.specs.Listed.{EndsWith}
use Rattle.heap_report.specs.Live.{live, peak}

-- From the state s the calls of the input were answered, and the last of them by these extents, which tile the heap of the
-- state at the end.
pub record IsReplayOf (s : State) (input : List ℕ) (answers : List Answer) (state : State) (extents : List Extent) : Type 0 where
  pub run : RunsTo s (map Some (calls_of input)) (map Some answers) state
  pub last : EndsWith answers extents
  pub tiles : IsTiling state extents
  pub good : IsGood state

-- a text of a run: of the machine, the state for which it stands, the bytes that are live and were at most, the extents, and
-- the calls and answers before those were asked for
abbrev pub EndText : Type 0
EndText = Machine → State → ℕ → ℕ → List Extent → List Call → List Answer → List ℕ

-- the text of such a run: of the machine and the state at its end, the bytes that are live there and were at most, the extents,
-- and the calls of the input with the answers to them
abbrev pub text_of_run : EndText → Machine → State → List ℕ → List Answer → State → List Extent → List Answer → List ℕ
text_of_run text machine s input answers state extents earlier =
    text machine state (live state) (peak s (calls_of input) answers) extents (calls_in (items_of input)) earlier

-- A run of a machine that ended well. The source had the input and, after it, has `left`; the sink had taken `before`, and then `after`, of
-- which `flushed` is flushed.
pub record IsTold (text : EndText) (s : State) (first : Machine) (had left before after : Option (List ℕ)) (flushed : Option ℕ) (machine : Machine) (extents : List Extent) : Type 0 where
  -- the source is read to its end
  pub input : List ℕ
  pub read : IsReadWhole had left input
  -- its calls are answered, each as is allowed in the state that the answers before it determine
  pub answers : List Answer
  pub state : State
  pub replay : IsReplayOf s input answers state extents
  -- and each is the one that the machine's own step gave
  pub steps : StepsTo first (map Some (calls_of input)) (map Some answers) machine
  -- the text is written, and flushed
  pub written : Appends before after (text_of_run text machine s input answers state extents replay.last.earlier)
  pub flushed_all : IsAllFlushed after flushed
  -- the machine stands for the last state, and the extents are those of its heap
  pub stands : Stands (seen machine) state
  pub of_heap : AreTheHeapsExtents machine extents

-- a front of the text of a run over an input that was read whole, whose answers are those that the machine's own steps gave
pub record IsFrontOfText (text : EndText) (s : State) (first : Machine) (had left : Option (List ℕ)) (front : List ℕ) : Type 0 where
  pub input : List ℕ
  pub read : IsReadWhole had left input
  pub answers : List Answer
  pub state : State
  pub extents : List Extent
  pub replay : IsReplayOf s input answers state extents
  pub more : List ℕ
  pub machine : Machine
  pub steps : StepsTo first (map Some (calls_of input)) (map Some answers) machine
  pub stands : Stands (seen machine) state
  pub of_heap : AreTheHeapsExtents machine extents
  pub is : front ++ more ≡ text_of_run text machine s input answers state extents replay.last.earlier

-- A run that stopped before its end: nothing is written, or a front of its text. It took at most one piece of 4096 bytes more than
-- 2 ^ 30 bytes.
pub record IsToldInPart (text : EndText) (s : State) (first : Machine) (had left before after : Option (List ℕ)) : Type 0 where
  pub taken : List ℕ
  pub read : Consumes had left taken
  pub short : length taken ≤ 2 ^ 30 + 4096
  pub front : List ℕ
  pub written : Appends before after front
  pub is : (front ≡ []) ⊎ IsFrontOfText text s first had left front
