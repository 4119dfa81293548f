-- What comes of words that are the program's command.
use Rattle.std.specs.Prelude.{◌≡◌, ◌↔◌, ℕ, List, Some, IsSome, String}
use Rattle.std.specs.declared.alloc.Global.{Global}
use Rattle.machine_model.specs.declared.config.Config.{Config}
use Rattle.heap_program.specs.declared.arguments.Command.TheVariants.{Run, Generate}
use Rattle.heap_program.specs.declared.ended.Ended.{Ended}
use Rattle.heap_program.specs.Command.{command_of}
use Rattle.heap_program.specs.Done.{IsRunDone, IsGenerationDone, IsStatusOf}
use Rattle.heap_program.specs.Stepped.{AreSteps}
use Rattle.heap_program.specs.Streams.{Streams}

-- The words were done over a source and a sink, each as it was and as it then is: a command ended so.
pub record IsDone {S K : Type 0} (streams : Streams S K) (words : List (String Global)) (source source' : S) (sink sink' : K) (status : ℕ) : Type 0 where
  pub ended : Ended
  pub with_status : ended.status ≡ status
  pub machine : IsSome ended.machine ↔ (status ≡ 0)
  pub run : (config : Config) → command_of words ≡ Some (Run config) → IsRunDone streams config source source' sink sink' ended
  pub generated : (seed count : ℕ) (config : Config) → command_of words ≡ Some (Generate seed count config) → IsGenerationDone streams seed count config source source' sink sink' ended
  pub steps : AreSteps streams (command_of words) source source' sink sink' ended.machine
  pub statuses : IsStatusOf streams (command_of words) source source' sink sink' status
