-- Configurations from which a machine can be made.
use Rattle.std.specs.Prelude.{◌≡◌, ◌<◌}
use Rattle.paged_systems.specs.Window.{IsHeapWindow}
use Rattle.dlmalloc.specs.Heap.{IsGranularity}
use Rattle.machine_model.specs.declared.config.Config.{Config}
use Rattle.kernel_heap.specs.declared.run_error.RunError.{RunError}
use Rattle.kernel_heap.specs.declared.run_error.RunError.TheVariants.{BadWindow, BadGranularity, TooFewFrames, OutOfMemory}

-- a good window, an accepted granularity, and a frame for the root table
pub record IsGoodConfig (config : Config) : Type 0 where
  pub window : IsHeapWindow config.base config.pages
  pub granularity : IsGranularity config.granularity
  pub frames : 0 < config.frames

-- Why no machine is made from a configuration, the causes in their order; memory may be wanting where there is none
-- of them.
abbrev pub IsConfigRefused : Config → RunError → Type 0
IsConfigRefused config BadWindow = ¬ (IsHeapWindow config.base config.pages)
IsConfigRefused config BadGranularity = IsHeapWindow config.base config.pages × ¬ (IsGranularity config.granularity)
IsConfigRefused config TooFewFrames = IsHeapWindow config.base config.pages × IsGranularity config.granularity × (config.frames ≡ 0)
IsConfigRefused config OutOfMemory = IsGoodConfig config
