-- A script, as the steps that were taken and those that are left (own).
use Rattle.std.specs.Prelude.{List, take, drop}
use Rattle.heap_memory.specs.declared.flat_script.FlatStep.{FlatStep}
use Rattle.heap_memory.specs.declared.flat_script.Script.{Script}

-- the steps that were taken
abbrev pub taken_of : Script → List FlatStep
taken_of script = take script.count script.steps.items

-- the steps that were not taken yet
abbrev pub left_of : Script → List FlatStep
left_of script = drop script.count script.steps.items
