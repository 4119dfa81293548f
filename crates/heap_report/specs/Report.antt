-- The report of a run.
use Rattle.std.specs.Prelude.{ℕ, List, [], codes}
use Rattle.dlmalloc_chunks.specs.declared.extent.Extent.{Extent}
use Rattle.machine_model.specs.declared.answer.Answer.{Answer}
use Rattle.machine_model.specs.declared.call.Call.{Call}
use Rattle.machine_model.specs.State.{State}
use Rattle.kernel_heap.specs.declared.machine.Machine.{Machine}
use Rattle.run_figures.specs.Text.{figures_text}

-- the figures, each a line
abbrev pub report_of : Machine → State → ℕ → ℕ → List Extent → List Call → List Answer → List ℕ
report_of machine state live peak extents calls answers = figures_text [] (codes "\n") live peak extents
