-- What a whole run has done.
use Rattle.std.specs.Prelude.{◌≡◌, ⊤, ℕ, ◌+◌, ◌≤◌, ◌^◌, List, [], ◌∷◌, ◌++◌, length, Option, None, Some}
use Rattle.std.specs.Io.KnownBytes.{Appends, Consumes}
use Rattle.std.specs.List.{AllByRecursion}
use Rattle.machine_model.specs.declared.answer.Answer.{Answer}
use Rattle.machine_model.specs.declared.call.Call.{Call}
use Rattle.machine_model.specs.State.{State}
use Rattle.machine_model.specs.Run.{IsGood, RunsTo}
use Rattle.machine_model.specs.Machine.{Stands}
use Rattle.kernel_heap.specs.declared.machine.Machine.{Machine}
use Rattle.kernel_heap.specs.Machine.{seen}
use Rattle.kernel_heap.specs.Steps.{StepsTo}
use Rattle.heap_program.specs.Flushed.{IsAllFlushed}
use Rattle.heap_program.specs.Lines.{items_of}
use Rattle.heap_program.specs.Progress.{texts_of}
use Rattle.heap_program.specs.Spelling.{AnswerFits}
use Rattle.heap_program.specs.Text.{end_text_of}

-- the input is all that the source had, and none of it is left; nothing is said of a source that tells no bytes
abbrev pub IsReadWhole : Option (List ℕ) → Option (List ℕ) → List ℕ → Type 0
IsReadWhole (Some bytes) left input = (input ≡ bytes) × (left ≡ Some [])
IsReadWhole None left input = ⊤

-- A run that ended well. The source had the input and, after it, has `left`; the sink had taken `before`, and then
-- `after`, of which `flushed` is flushed.
pub record IsRunAnswered (s : State) (had left before after : Option (List ℕ)) (flushed : Option ℕ) (machine : Machine) : Type 0 where
  -- the source is read to its end
  pub input : List ℕ
  pub read : IsReadWhole had left input
  -- one answer a line, each allowed in the state that the answers before it determine
  pub answers : List (Option Answer)
  pub state : State
  pub run : RunsTo s (items_of input) answers state
  -- no other answers of which this can be said are printed alike (`SpellsOne`)
  pub fit : AllByRecursion AnswerFits answers
  -- the texts of the answers and then the end text of the last state are written, and flushed
  pub written : Appends before after (texts_of answers ++ end_text_of state)
  pub flushed_all : IsAllFlushed after flushed
  -- the machine stands for the last state, which is good
  pub good : IsGood state
  pub stands : Stands (seen machine) state

-- what follows the answers to the first items of an input: the end text, if there are no others
abbrev pub ending_of : List (Option Call) → State → List ℕ
ending_of [] state = end_text_of state
ending_of (other ∷ others) state = []

-- The text is a front of the texts of a run over the first lines of the bytes and, if these are all, of the end
-- text after them. From the first machine each answer is the one that the machine's step gave.
pub record IsFront (first : Machine) (s : State) (bytes text : List ℕ) : Type 0 where
  pub items : List (Option Call)
  pub others : List (Option Call)
  pub split : items_of bytes ≡ items ++ others
  pub answers : List (Option Answer)
  pub state : State
  pub run : RunsTo s items answers state
  pub last : Machine
  pub steps : StepsTo first items answers last
  pub more : List ℕ
  pub front : text ++ more ≡ texts_of answers ++ ending_of others state

-- All lines that ended in these bytes are answered, each as the step of the machine gave it, and the text is that of the
-- answers. A line feed more would end one line more.
pub record IsCaughtUp (first : Machine) (s : State) (bytes text : List ℕ) : Type 0 where
  pub items : List (Option Call)
  pub item : Option Call
  pub ended : items_of (bytes ++ 10 ∷ []) ≡ items ++ item ∷ []
  pub answers : List (Option Answer)
  pub state : State
  pub run : RunsTo s items answers state
  pub last : Machine
  pub steps : StepsTo first items answers last
  pub told : text ≡ texts_of answers

-- A run that stopped at a read. All lines that ended before the last piece are answered, and the piece has at most `most`
-- bytes.
pub record IsInterrupted (first : Machine) (s : State) (most : ℕ) (had left before after : Option (List ℕ)) : Type 0 where
  pub input : List ℕ
  pub piece : List ℕ
  pub read : Consumes had left (input ++ piece)
  pub short : length piece ≤ most
  pub text : List ℕ
  pub written : Appends before after text
  pub caught_up : IsCaughtUp first s input text

-- A run that stopped, wherever it did. All lines that ended before the last piece are answered, and the piece has at most 4096 bytes. So no
-- piece is asked for before the answers to the ones before it are written.
pub record IsKeptUp (first : Machine) (s : State) (had left before after : Option (List ℕ)) : Type 0 where
  pub input : List ℕ
  pub piece : List ℕ
  pub read : Consumes had left (input ++ piece)
  pub short : length piece ≤ 4096
  pub text : List ℕ
  pub more : List ℕ
  pub written : Appends before after (text ++ more)
  pub caught_up : IsCaughtUp first s input text

-- A run that stopped before its end: the input that it took, which is at most one piece of 4096 bytes longer than 2 ^ 30
-- bytes, and the text that it wrote.
pub record IsStopped (first : Machine) (s : State) (had left before after : Option (List ℕ)) : Type 0 where
  pub input : List ℕ
  pub read : Consumes had left input
  pub short : length input ≤ 2 ^ 30 + 4096
  pub text : List ℕ
  pub written : Appends before after text
  pub front : IsFront first s input text
