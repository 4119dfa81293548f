-- A run over calls that are drawn.
use Rattle.std.specs.Prelude.{◌≡◌, ◌⊎◌, ℕ, List, [], ◌++◌, length, map, Option, Some}
use Rattle.std.specs.Io.KnownBytes.{Appends}
use Rattle.machine_model.specs.declared.answer.Answer.{Answer}
use Rattle.machine_model.specs.State.{State}
use Rattle.machine_model.specs.Run.{IsGood, RunsTo}
use Rattle.machine_model.specs.Machine.{Stands}
use Rattle.kernel_heap.specs.declared.machine.Machine.{Machine}
use Rattle.kernel_heap.specs.Machine.{seen}
use Rattle.kernel_heap.specs.Steps.{StepsTo}
use Rattle.heap_program.specs.Flushed.{IsAllFlushed}
use Rattle.heap_program.specs.Generator.{first_state, drawn_calls, blocks_given, refused_count}
use Rattle.heap_program.specs.Text.{tally_line, end_text_of}

-- From the state s the calls drawn from the seed were answered, one answer a call, each allowed in the state that the answers
-- before it determine; e is the state at the end.
abbrev pub AreDrawn : State → ℕ → List Answer → State → Type 0
AreDrawn s seed answers e = RunsTo s (map Some (drawn_calls (first_state seed) 0 answers)) (map Some answers) e

-- what is printed for the answers: how many there are, how many numbers they give and how many are refusals, and then the
-- end text
abbrev pub generated_text : ℕ → List Answer → State → List ℕ
generated_text seed answers e = tally_line (length answers) (blocks_given (first_state seed) 0 answers) (refused_count answers) ++ end_text_of e

-- `count` calls were drawn, and the run over them ended well.
pub record IsGenerated (s : State) (seed count : ℕ) (before after : Option (List ℕ)) (flushed : Option ℕ) (machine : Machine) : Type 0 where
  pub answers : List Answer
  pub state : State
  pub counted : length answers ≡ count
  pub drawn : AreDrawn s seed answers state
  pub written : Appends before after (generated_text seed answers state)
  pub flushed_all : IsAllFlushed after flushed
  -- the machine stands for the last state, which is good
  pub good : IsGood state
  pub stands : Stands (seen machine) state

-- a front of the text of a run over `count` calls, which the machine answered by a step each
pub record IsGeneratedFront (first : Machine) (s : State) (seed count : ℕ) (text : List ℕ) : Type 0 where
  pub answers : List Answer
  pub state : State
  pub counted : length answers ≡ count
  pub drawn : AreDrawn s seed answers state
  pub last : Machine
  pub steps : StepsTo first (map Some (drawn_calls (first_state seed) 0 answers)) (map Some answers) last
  pub more : List ℕ
  pub front : text ++ more ≡ generated_text seed answers state

-- The run stopped before its end: nothing is written, or a front of its text.
pub record IsGenerationStopped (first : Machine) (s : State) (seed count : ℕ) (before after : Option (List ℕ)) : Type 0 where
  pub text : List ℕ
  pub written : Appends before after text
  pub front : (text ≡ []) ⊎ IsGeneratedFront first s seed count text
