-- Answers are those of one machine, which took a step for each.
use Rattle.std.specs.Prelude.{◌≡◌, ℕ, List, map, Option, Some, IfSome}
use Rattle.machine_model.specs.declared.config.Config.{Config}
use Rattle.machine_model.specs.State.{State, start}
use Rattle.kernel_heap.specs.declared.machine.Machine.{Machine}
use Rattle.kernel_heap.specs.Steps.{IsNewMachine, StepsTo}
use Rattle.heap_program.specs.declared.arguments.Command.{Command}
use Rattle.heap_program.specs.declared.arguments.Command.TheVariants.{Run, Generate}
use Rattle.heap_program.specs.Generated.{IsGenerated, IsGenerationStopped}
use Rattle.heap_program.specs.Generator.{first_state, drawn_calls}
use Rattle.heap_program.specs.Headline.{IsRunAnswered}
use Rattle.heap_program.specs.Lines.{items_of}
use Rattle.heap_program.specs.Streams.{Streams}

-- A run that ended well: from one machine to another each answer is the one that the machine's step gave.
pub record IsAnsweredBy (first : Machine) (s : State) (had left before after : Option (List ℕ)) (flushed : Option ℕ) (last : Machine) : Type 0 where
  pub run : IsRunAnswered s had left before after flushed last
  pub steps : StepsTo first (items_of run.input) run.answers last

-- so for calls that were drawn
pub record IsGeneratedBy (first : Machine) (s : State) (seed count : ℕ) (before after : Option (List ℕ)) (flushed : Option ℕ) (last : Machine) : Type 0 where
  pub run : IsGenerated s seed count before after flushed last
  pub steps : StepsTo first (map Some (drawn_calls (first_state seed) 0 run.answers)) (map Some run.answers) last

-- and the first machine was new
abbrev pub IsAnsweredByNew : Config → Option (List ℕ) → Option (List ℕ) → Option (List ℕ) → Option (List ℕ) → Option ℕ → Machine → Type 0
IsAnsweredByNew config had left before after flushed last =
    (first : Machine) × IsNewMachine config first × IsAnsweredBy first (start config) had left before after flushed last

-- so where calls are drawn
abbrev pub IsGeneratedByNew : Config → ℕ → ℕ → Option (List ℕ) → Option (List ℕ) → Option ℕ → Machine → Type 0
IsGeneratedByNew config seed count before after flushed last =
    (first : Machine) × IsNewMachine config first × IsGeneratedBy first (start config) seed count before after flushed last

-- so where calls that are drawn stop early
abbrev pub IsGenerationStoppedByNew : Config → ℕ → ℕ → Option (List ℕ) → Option (List ℕ) → Type 0
IsGenerationStoppedByNew config seed count before after =
    (first : Machine) × IsNewMachine config first × IsGenerationStopped first (start config) seed count before after

-- The answers of a command that ended well are steps of a machine that was new. So each is more than allowed: no request is refused for
-- want of room while a chunk serves it, a block is in the chunk that the bins' order names, and the extents are the heap's own.
pub record AreSteps {S K : Type 0} (streams : Streams S K) (command : Option Command) (source source' : S) (sink sink' : K) (machine : Option Machine) : Type 0 where
  pub run :
      (config : Config) → command ≡ Some (Run config) →
      IfSome machine (IsAnsweredByNew config (streams.left source) (streams.left source') (streams.taken sink) (streams.taken sink') (streams.flushed sink'))
  pub generated :
      (seed count : ℕ) (config : Config) → command ≡ Some (Generate seed count config) →
      IfSome machine (IsGeneratedByNew config seed count (streams.taken sink) (streams.taken sink') (streams.flushed sink'))
