-- The picture of a run.
use Rattle.std.specs.Prelude.{ℕ, ◌+◌, List, ◌++◌, codes, decimal}
use Rattle.dlmalloc_chunks.specs.declared.extent.Extent.{Extent}
use Rattle.heap_history.specs.declared.history.History.{History}
use Rattle.machine_model.specs.declared.answer.Answer.{Answer}
use Rattle.machine_model.specs.declared.call.Call.{Call}
use Rattle.machine_model.specs.State.{State}
use Rattle.kernel_heap.specs.declared.machine.Machine.{Machine}
use Rattle.heap_map.specs.Map.{map_text, lines_number, below_lines}
use Rattle.heap_recorder.specs.Run.{history_of}
use Rattle.heap_picture.specs.Blocks.{blocks_at_end}
use Rattle.heap_picture.specs.Regions.{regions_text}

-- the width and height, twice
unfoldable pub svg_text : ℕ → List ℕ
svg_text height =
    codes "<svg xmlns=\"http://www.w3.org/2000/svg\" width=\"1304\" height=\"" ++ (decimal height ++ (codes "\" viewBox=\"0 0 1304 " ++ (decimal height ++ codes "\" role=\"img\">\n")))

-- and then what is the same in each picture
unfoldable pub head_text : List ℕ → ℕ → List ℕ
head_text style height = svg_text height ++ style

-- The picture of a state, of the bytes that are live in it and were at most, of its extents, and of the blocks that a run leaves.
unfoldable pub map_document : List ℕ → State → ℕ → ℕ → List Extent → History → List ℕ
map_document style s live peak extents history =
    head_text style (below_lines (lines_number extents) + 210)
    ++ (map_text (blocks_at_end history) live peak extents ++ (regions_text (below_lines (lines_number extents)) s ++ codes "</svg>\n"))

-- The picture of the last state of the run with these calls and answers.
abbrev pub picture_of : List ℕ → Machine → State → ℕ → ℕ → List Extent → List Call → List Answer → List ℕ
picture_of style machine s live peak extents calls answers = map_document style s live peak extents (history_of calls answers)
