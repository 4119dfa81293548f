-- The drawing of the heap over a run.
use Rattle.std.specs.Prelude.{ℕ, List, ◌++◌, codes}
use Rattle.dlmalloc_chunks.specs.declared.extent.Extent.{Extent}
use Rattle.heap_history.specs.declared.history.History.{History}
use Rattle.machine_model.specs.declared.answer.Answer.{Answer}
use Rattle.machine_model.specs.declared.call.Call.{Call}
use Rattle.machine_model.specs.State.{State}
use Rattle.kernel_heap.specs.declared.machine.Machine.{Machine}
use Rattle.heap_recorder.specs.Run.{history_of}
use Rattle.heap_time.specs.Time.{time_text, time_height}
use Rattle.heap_picture.specs.Picture.{head_text}

-- the drawing of what a run did
unfoldable pub timing_of : List ℕ → History → List ℕ
timing_of style history = head_text style (time_height history) ++ (time_text history ++ codes "</svg>\n")

-- The drawing of the run with these calls and answers.
abbrev pub run_of : List ℕ → Machine → State → ℕ → ℕ → List Extent → List Call → List Answer → List ℕ
run_of style machine s live peak extents calls answers = timing_of style (history_of calls answers)
