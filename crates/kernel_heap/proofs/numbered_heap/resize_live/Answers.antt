use Rattle.std.proofs.lemmas.Result.{IfOk-weaker, IfErr-weaker}
use Rattle.sound_heap.specs.Heap.{usable}
use Rattle.sound_heap.proofs.BlockWords.{enough}
use Rattle.kernel_heap.specs.Heap.{heap_state}
use Rattle.kernel_heap.proofs.KeptBytes.{given_fewer}
use Rattle.kernel_heap.proofs.numbered_heap.resize_live.Goals as goal

pub realloc-requires : goal.realloc-requires
realloc-requires c = record { block = (c.args.live.size, c.requires.block.block) }

pub returns-then-keeps_alignment-clause-ok : goal.returns-then-keeps_alignment-clause-ok
returns-then-keeps_alignment-clause-ok c = rw c.if-keeps_alignment.true
    (IfOk-weaker c.realloc_aligned.result _ _ (λ address out. record { given = out.given; resized = out.resized; member = out.member })
    c.realloc_aligned.ensures.ok)

pub returns-then-keeps_alignment-clause-err : goal.returns-then-keeps_alignment-clause-err
returns-then-keeps_alignment-clause-err c = rw c.if-keeps_alignment.true
    (IfErr-weaker c.realloc_aligned.result _ _ (λ error out. record { refused = out.refused; tried = out.tried }) c.realloc_aligned.ensures.err)

-- as many bytes are kept as its chunk held, so as many as it had
pub returns-else-keeps_alignment-clause-ok : goal.returns-else-keeps_alignment-clause-ok
returns-else-keeps_alignment-clause-ok c =
    let heap = c.args.heap.now in
    let live = c.args.live in
    rw c.if-keeps_alignment.false
    (IfOk-weaker c.realloc.result _ _ (λ address out. record {
      given = given_fewer heap c.realloc.new.self live.address (usable (heap_state heap) live.address) c.args.size 16 address live.size
          (enough (heap_state heap) live.address live.size c.requires.block.block) out.given;
      resized = out.resized;
      member = out.member;
    }) c.realloc.ensures.ok)

pub returns-else-keeps_alignment-clause-err : goal.returns-else-keeps_alignment-clause-err
returns-else-keeps_alignment-clause-err c = rw c.if-keeps_alignment.false
    (IfErr-weaker c.realloc.result _ _ (λ error out. record { refused = out.refused; tried = out.tried }) c.realloc.ensures.err)
