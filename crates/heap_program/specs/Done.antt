-- What a command has done when it ends: with its source and its sink, each as it was and as it then is, and with what it hands out.
use Rattle.std.specs.Prelude.{◌≡◌, ◌≢◌, ◌<◌, ◌≤◌, ◌+◌, ◌^◌, ◌⊎◌, ◌↔◌, ℕ, [], length, unwrap_or, Option, None, IfSome}
use Rattle.machine_model.specs.declared.config.Config.{Config}
use Rattle.machine_model.specs.State.{start}
use Rattle.kernel_heap.specs.Config.{IsGoodConfig}
use Rattle.kernel_heap.specs.declared.machine.Machine.{Machine}
use Rattle.kernel_heap.specs.Machine.{seen}
use Rattle.kernel_heap.specs.Steps.{IsNewMachine}
use Rattle.heap_program.specs.declared.arguments.Command.{Command}
use Rattle.heap_program.specs.declared.ended.Ended.{Ended}
use Rattle.heap_program.specs.Command.{machine_config}
use Rattle.heap_program.specs.Faults.{HasRisen}
use Rattle.heap_program.specs.Flushed.{IsUpToDate}
use Rattle.heap_program.specs.Generated.{IsGenerated}
use Rattle.heap_program.specs.Headline.{IsRunAnswered, IsInterrupted, IsKeptUp, IsStopped}
use Rattle.heap_program.specs.LiveBlocks.{HoldsBlocks}
use Rattle.heap_program.specs.Status.{TellsRefusal}
use Rattle.heap_program.specs.Stepped.{IsGenerationStoppedByNew}
use Rattle.heap_program.specs.Streams.{Streams}

-- What a machine of a configuration, which was new, has done of a run that stopped early. Each answer is the one that the machine's step
-- gave: no request is refused for want of room while a chunk serves it, and so on, as `AreSteps` says.
pub record IsStoppedByNew {S K : Type 0} (streams : Streams S K) (config : Config) (source source' : S) (sink sink' : K) (status : ℕ) : Type 0 where
  pub first : Machine
  pub new : IsNewMachine config first
  pub stopped : IsStopped first (start config) (streams.left source) (streams.left source') (streams.taken sink) (streams.taken sink')
  -- The answers to a piece of the input are written before more of it is asked for: wherever the run stopped, at most the lines of the
  -- last piece have no answer, and where a read failed, or the input is too long, nothing else is written.
  pub kept_up : IsKeptUp first (start config) (streams.left source) (streams.left source') (streams.taken sink) (streams.taken sink')
  pub caught_up : status ≡ 6 → IsInterrupted first (start config) 0 (streams.left source) (streams.left source') (streams.taken sink) (streams.taken sink')
  pub caught_up_long : status ≡ 8 → IsInterrupted first (start config) 4096 (streams.left source) (streams.left source') (streams.taken sink) (streams.taken sink')

-- What `run` has done over a new machine of a configuration.
pub record IsRunDone {S K : Type 0} (streams : Streams S K) (config : Config) (source source' : S) (sink sink' : K) (ended : Ended) : Type 0 where
  -- At status 0 the source is read to its end, and one answer a line is written, each allowed. By a processor's own walk over the raw
  -- page tables, each live block of the machine lies wholly in present writable pages that hold the bytes last written, and apart from
  -- the others.
  pub answered :
      IfSome ended.machine (λ machine.
      (run : IsRunAnswered (start config) (streams.left source) (streams.left source') (streams.taken sink) (streams.taken sink') (streams.flushed sink') machine)
      × HoldsBlocks (seen machine) run.state.blocks)
  -- From status 5 on, a part of that was done by a machine that was new. Or no machine was made, for want of memory, and nothing was
  -- read or written.
  pub stopped : 5 ≤ ended.status → ((ended.status ≡ 5) × (source' ≡ source) × (sink' ≡ sink)) ⊎ IsStoppedByNew streams config source source' sink sink' ended.status

-- What `gen` has done: it drew `count` calls from the seed, and answered them by a new machine of a configuration.
pub record IsGenerationDone {S K : Type 0} (streams : Streams S K) (seed count : ℕ) (config : Config) (source source' : S) (sink sink' : K) (ended : Ended) : Type 0 where
  -- At status 0 each of these calls has an answer that is allowed, and the counts and the end text are written. The live blocks lie as
  -- above.
  pub generated :
      IfSome ended.machine (λ machine.
      (run : IsGenerated (start config) seed count (streams.taken sink) (streams.taken sink') (streams.flushed sink') machine)
      × HoldsBlocks (seen machine) run.state.blocks)
  -- From status 5 on, a front of that text is written, or nothing. The answers are steps of a machine that was new, if one was made.
  pub stopped : 5 ≤ ended.status → ((ended.status ≡ 5) × (sink' ≡ sink)) ⊎ IsGenerationStoppedByNew config seed count (streams.taken sink) (streams.taken sink')
  -- It reads nothing, so the source neither fails nor has too much.
  pub unread : (source' ≡ source) × (ended.status ≤ 7) × (ended.status ≢ 6)

-- When each status comes. None is no command.
pub record IsStatusOf {S K : Type 0} (streams : Streams S K) (command : Option Command) (source source' : S) (sink sink' : K) (status : ℕ) : Type 0 where
  pub few : status ≤ 8
  -- Statuses 1 to 4 are decided in this order, before anything is read or written.
  pub usage : status ≡ 1 ↔ (command ≡ None)
  pub refused : IfSome command (λ known. TellsRefusal (machine_config known) status)
  pub untouched : 1 ≤ status → status ≤ 4 → (source' ≡ source) × (sink' ≡ sink)
  -- 6 comes only if the source failed, 7 only if the sink failed, and 8 exactly if the input is too long.
  pub read_fault : status ≡ 6 → HasRisen (streams.reads source) (streams.reads source')
  pub write_fault : status ≡ 7 → HasRisen (streams.writes sink) (streams.writes sink')
  pub too_long : IfSome (streams.left source) (λ input. (status ≡ 8) ↔ (2 ^ 30 + length (unwrap_or (streams.left source') []) < length input))
  -- At 6 and 8 all that was written is flushed.
  pub flushed : (status ≡ 6) ⊎ (status ≡ 8) → IsUpToDate streams.taken streams.flushed sink sink'
  -- If a machine can be made and nothing failed, the command ends well, or for want of memory, or since the input is too long.
  pub complete :
      IfSome command (λ known.
      IsGoodConfig (machine_config known) →
      ¬ (HasRisen (streams.reads source) (streams.reads source')) → ¬ (HasRisen (streams.writes sink) (streams.writes sink')) →
      (status ≡ 0) ⊎ (status ≡ 5) ⊎ (status ≡ 8))
