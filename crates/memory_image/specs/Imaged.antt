-- What the command does with its words.
use Rattle.std.specs.Prelude.{◌≡◌, ◌≤◌, ◌<◌, ◌+◌, ◌^◌, ◌⊎◌, ◌↔◌, ℕ, List, [], ◌++◌, length, unwrap_or, Option, Some, None, IsSome, IfSome}
use Rattle.std.specs.Io.KnownBytes.{Appends}
use Rattle.machine_model.specs.declared.config.Config.{Config}
use Rattle.kernel_heap.specs.Config.{IsGoodConfig}
use Rattle.kernel_heap.specs.declared.machine.Machine.{Machine}
use Rattle.kernel_heap.specs.Steps.{IsNewMachine}
use Rattle.heap_program.specs.Command.{config_of}
use Rattle.heap_program.specs.Faults.{HasRisen}
use Rattle.heap_program.specs.Flushed.{IsAllFlushed}
use Rattle.heap_program.specs.Headline.{IsReadWhole}
use Rattle.heap_program.specs.Lines.{items_of}
use Rattle.heap_program.specs.Status.{TellsRefusal}
use Rattle.memory_image.specs.declared.imaged.Imaged.{Imaged}
use Rattle.memory_image.specs.Image.{image_text}
use Rattle.memory_image.specs.Traced.{AreTraced}

-- A run that ended well, from one machine to another. The source had the input and, after it, has `left`; the sink had taken
-- `before`, and then `after`, of which `flushed` is flushed.
pub record IsImaged (first : Machine) (had left before after : Option (List ℕ)) (flushed : Option ℕ) (last : Machine) : Type 0 where
  -- the source is read to its end
  pub input : List ℕ
  pub read : IsReadWhole had left input
  -- each line is answered, and each probe traced
  pub told : List ℕ
  pub traced : AreTraced first (items_of input) told last
  -- that and the image of the machine are written, and flushed
  pub written : Appends before after (told ++ image_text last)
  pub flushed_all : IsAllFlushed after flushed

-- Under a configuration. The counts are those of the faults, of the source and of the sink, before and after.
pub record ImagesOf (config : Config) (had left before after : Option (List ℕ)) (flushed : Option ℕ) (reads reads' writes writes' : ℕ) (imaged : Imaged) : Type 0 where
  -- at status 0 the machine is handed on, which a new one became
  pub machine : IsSome imaged.machine ↔ (imaged.status ≡ 0)
  pub image : IfSome imaged.machine (λ last. (first : Machine) × IsNewMachine config first × IsImaged first had left before after flushed last)
  -- statuses 2 to 4 say why no machine could be made
  pub refused : TellsRefusal config imaged.status
  -- at 6 the source failed, at 7 the sink, and at 8 the input is too long; and 5 is what is left, for want of memory
  pub read_fault : imaged.status ≡ 6 → HasRisen reads reads'
  pub write_fault : imaged.status ≡ 7 → HasRisen writes writes'
  pub too_long : IfSome had (λ input. (imaged.status ≡ 8) ↔ (2 ^ 30 + length (unwrap_or left []) < length input))
  pub complete :
      IsGoodConfig config → ¬ (HasRisen reads reads') → ¬ (HasRisen writes writes') →
      (imaged.status ≡ 0) ⊎ (imaged.status ≡ 5) ⊎ (imaged.status ≡ 8)

-- With these words, each by its bytes.
pub record Images (words : List (List ℕ)) (had left before after : Option (List ℕ)) (flushed : Option ℕ) (reads reads' writes writes' : ℕ) (imaged : Imaged) : Type 0 where
  pub statuses : imaged.status ≤ 8
  -- the status is 1 exactly if the words are no configuration
  pub usage : (imaged.status ≡ 1) ↔ (config_of words ≡ None)
  pub nothing : imaged.status ≡ 1 → imaged.machine ≡ None
  pub run : (config : Config) → config_of words ≡ Some config → ImagesOf config had left before after flushed reads reads' writes writes' imaged
