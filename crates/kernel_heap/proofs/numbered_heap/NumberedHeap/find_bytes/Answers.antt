use Rattle.std.proofs.Common.{rules, ◌∙◌, sym}
use Rattle.kernel_heap.proofs.numbered_heap.NumberedHeap.find_bytes.Goals as goal

pub overflow_add-result : goal.overflow_add-result
overflow_add-result c =
    let is = sym c.live.ensures ∙ c.in-Some.is in
    let small = (c.law_blocks_placed.ensures c.in-Some.live.address c.in-Some.live.size (c.requires.sound.lives c.args.number c.in-Some.live is).block).small in
    let less = c.if-offset-live.false in
    search rules
