use Rattle.std.proofs.Common.{◌≡◌, ◌+◌, ◌*◌, arith, subst}
use Rattle.std.specs.Int.{w64, to_le_bytes}
use Rattle.paged_systems.specs.System.{paged}
use Rattle.paged_systems.specs.Written.{AreBytesWritten}
use Rattle.paged_systems.proofs.Bytes.{inside_part, inside_below}
use Rattle.paged_systems.proofs.ByteRuns.{still_inside, word_there, word_written, written_on}
use Rattle.paged_systems.proofs.paged_system.PagedSystem.write_words.Goals as goal

pub overflow_add-address : goal.overflow_add-address
overflow_add-address c =
    let below = inside_below (paged c.args.self.now) (c.args.address + 8 * c.loop-k.k) c.args.self.now.kept
    (inside_part (paged c.args.self.now) c.args.address _ (c.args.address + 8 * c.loop-k.k) 1 c.requires.inside
    (omega arith) (omega (arith, c.loop-k-test.true))) in
    omega (arith, below)

pub set_word-requires : goal.set_word-requires
set_word-requires c =
    let aligned = c.requires.aligned (omega (arith, c.loop-k-test.true)) in
    word_there (paged c.loop-k.self) (c.args.address + 8 * c.loop-k.k) c.loop-k.self.kept
    (still_inside (paged c.args.self.now) (paged c.loop-k.self) (c.args.address + 8 * c.loop-k.k) 1 c.loop-k.invariant.still
    (inside_part (paged c.args.self.now) c.args.address _ (c.args.address + 8 * c.loop-k.k) 1 c.requires.inside
    (omega arith) (omega (arith, c.loop-k-test.true)))) (omega arith)

pub loop-k-preserved : goal.loop-k-preserved
loop-k-preserved c =
    let old = paged c.args.self.now in
    let mid = paged c.loop-k.self in
    let new = paged c.set_word.new.self in
    let at = c.args.address + 8 * c.loop-k.k in
    let aligned = c.requires.aligned (omega (arith, c.loop-k-test.true)) in
    let next : 8 * c.loop-k.k + 8 ≡ 8 * (c.loop-k.k + 1) = omega arith in
    subst (AreBytesWritten old new c.args.address c.args.bytes.now) next
    (written_on old mid new c.args.address (8 * c.loop-k.k) 8 c.args.bytes.now (to_le_bytes w64 c.word_of_bytes.result)
    (inside_part old c.args.address _ c.args.address (8 * c.loop-k.k + 8) c.requires.inside (omega arith)
    (omega (arith, c.loop-k-test.true))) c.loop-k.invariant
    (word_written mid new at c.word_of_bytes.result c.loop-k.self.kept
    (still_inside old mid at 8 c.loop-k.invariant.still (inside_part old c.args.address _ at 8 c.requires.inside
    (omega arith) (omega (arith, c.loop-k-test.true)))) (omega arith)
    c.set_word.ensures.still c.set_word.ensures.stored)
    c.word_of_bytes.ensures)
