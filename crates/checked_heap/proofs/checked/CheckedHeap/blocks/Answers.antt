use Rattle.std.proofs.Common.{subst, ◌∙◌}
use Rattle.heap_arena.specs.Arena.{regions_of, word_of}
use Rattle.checked_heap.specs.Counted.{HasBlocks}
use Rattle.checked_heap.specs.Checked.{arena_heap_state}
use Rattle.checked_heap.specs.Marks.{is_marked}
use Rattle.checked_heap.proofs.UsedExtents.{has_blocks}
use Rattle.checked_heap.proofs.checked.CheckedHeap.blocks.Goals as goal

pub returns : goal.returns
returns c =
    let marks = c.self.inside.marks in
    subst (λ heap. HasBlocks (arena_heap_state heap) c.count.result) c.self.view_is
    (has_blocks regions_of word_of c.self.inside.heap c.law_intact.ensures.sound (is_marked marks.base marks.words.now) c.count.result
    c.self.invariant.blocks c.self.invariant.marked (c.count.ensures ∙ c.self.invariant.count_is))
