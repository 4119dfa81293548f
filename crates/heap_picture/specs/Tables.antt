-- The drawing of the page tables that a run leaves.
use Rattle.std.specs.Prelude.{ℕ, List, ◌++◌, length, codes}
use Rattle.dlmalloc_chunks.specs.declared.extent.Extent.{Extent}
use Rattle.paging_core.specs.Memory.{frame_count}
use Rattle.machine_model.specs.Machine.{Paged}
use Rattle.machine_model.specs.declared.answer.Answer.{Answer}
use Rattle.machine_model.specs.declared.call.Call.{Call}
use Rattle.machine_model.specs.State.{State}
use Rattle.kernel_heap.specs.declared.machine.Machine.{Machine}
use Rattle.kernel_heap.specs.Machine.{system_of}
use Rattle.paged_systems.specs.System.{paged}
use Rattle.heap_tables.specs.Tables.{tables_text, tables_height}
use Rattle.heap_picture.specs.Owners.{lines_in}
use Rattle.heap_picture.specs.Picture.{head_text}

-- the drawing of a memory, its root, and its regions
unfoldable pub drawing_of : List ℕ → Paged → List ℕ
drawing_of style p =
    head_text style (tables_height (length (lines_in p)))
    ++ (tables_text (lines_in p) (frame_count p.words) ++ codes "</svg>\n")

-- The drawing of the last machine of a run: of its memory, from the root on that its processor has.
abbrev pub tables_drawing : List ℕ → Machine → State → ℕ → ℕ → List Extent → List Call → List Answer → List ℕ
tables_drawing style machine s live peak extents calls answers = drawing_of style (paged (system_of machine.heap))
