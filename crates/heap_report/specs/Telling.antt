-- What a command does that replays its input and tells of the end of that run.
use Rattle.std.specs.Prelude.{◌≡◌, ◌≤◌, ◌<◌, ◌+◌, ◌^◌, ◌⊎◌, ◌↔◌, ℕ, List, [], length, unwrap_or, Option, Some, None, IsSome, IfSome}
use Rattle.std.specs.Io.KnownBytes.{Appends}
use Rattle.machine_model.specs.State.{start}
use Rattle.machine_model.specs.declared.config.Config.{Config}
use Rattle.kernel_heap.specs.declared.machine.Machine.{Machine}
use Rattle.kernel_heap.specs.Config.{IsGoodConfig}
use Rattle.kernel_heap.specs.Steps.{IsNewMachine}
use Rattle.heap_program.specs.Command.{config_of}
use Rattle.heap_program.specs.Faults.{HasRisen}
use Rattle.heap_program.specs.Status.{TellsRefusal}
use Rattle.heap_report.specs.declared.reported.Reported.{Reported}
use Rattle.heap_report.specs.Reported.{EndText, IsTold, IsToldInPart}

-- Under a configuration. The source had the input, and `left` after it; the sink had taken `before`, and then `after`, of which
-- `flushed` is flushed. The counts are those of the faults, of the source and of the sink, before and after.
pub record TellsOf (text : EndText) (config : Config) (had left before after : Option (List ℕ)) (flushed : Option ℕ) (reads reads' writes writes' : ℕ) (reported : Reported) : Type 0 where
  -- at status 0 the machine, which was new, and the extents are handed on; the source is read to its end, and the text is written
  pub machine : IsSome reported.machine ↔ (reported.status ≡ 0)
  pub extents : IsSome reported.extents ↔ (reported.status ≡ 0)
  pub told :
      IfSome reported.machine (λ machine. IfSome reported.extents (λ extents.
      (first : Machine) × IsNewMachine config first × IsTold text (start config) first had left before after flushed machine extents))
  -- statuses 2 to 4 tell why no machine could be made
  pub refused : TellsRefusal config reported.status
  -- from 5 on a front of such a text of a machine that was new is written, or nothing: at 6 and 8 nothing; or, at 5, no machine was made,
  -- and nothing was read or written
  pub part :
      5 ≤ reported.status →
      ((reported.status ≡ 5) × (left ≡ had) × (after ≡ before))
      ⊎ ((first : Machine) × IsNewMachine config first × IsToldInPart text (start config) first had left before after)
  pub silent : (reported.status ≡ 6) ⊎ (reported.status ≡ 8) → Appends before after []
  -- at 6 the source failed, at 7 the sink, and at 8 the input is too long; and 5 is what is left, for want of memory
  pub read_fault : reported.status ≡ 6 → HasRisen reads reads'
  pub write_fault : reported.status ≡ 7 → HasRisen writes writes'
  pub too_long : IfSome had (λ input. (reported.status ≡ 8) ↔ (2 ^ 30 + length (unwrap_or left []) < length input))
  pub complete :
      IsGoodConfig config → ¬ (HasRisen reads reads') → ¬ (HasRisen writes writes') →
      (reported.status ≡ 0) ⊎ (reported.status ≡ 5) ⊎ (reported.status ≡ 8)

-- With these words, each by its bytes.
pub record Tells (text : EndText) (words : List (List ℕ)) (had left before after : Option (List ℕ)) (flushed : Option ℕ) (reads reads' writes writes' : ℕ) (reported : Reported) : Type 0 where
  pub statuses : reported.status ≤ 8
  -- status 1 comes exactly if the words are no configuration, and then nothing is handed on
  pub usage : (reported.status ≡ 1) ↔ (config_of words ≡ None)
  pub nothing : reported.status ≡ 1 → (reported.machine ≡ None) × (reported.extents ≡ None)
  -- else the run of that configuration is told of
  pub run : (config : Config) → config_of words ≡ Some config → TellsOf text config had left before after flushed reads reads' writes writes' reported
