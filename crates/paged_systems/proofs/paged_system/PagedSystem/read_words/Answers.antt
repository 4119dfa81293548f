use Rattle.std.proofs.Common.{◌≡◌, ◌+◌, ◌*◌, ◌++◌, arith, sym, subst}
use Rattle.paged_systems.specs.System.{paged}
use Rattle.paged_systems.specs.Written.{AreRead}
use Rattle.paged_systems.proofs.Bytes.{inside_part, inside_below}
use Rattle.paged_systems.proofs.ByteRuns.{word_there, word_read}
use Rattle.paged_systems.proofs.paged_system.PagedSystem.read_words.Goals as goal

pub overflow_add-address : goal.overflow_add-address
overflow_add-address c =
    let below = inside_below (paged c.args.self.now) (c.args.address + (c.args.done + 8 * c.loop-k.k)) c.args.self.now.kept
    (inside_part (paged c.args.self.now) c.args.address _ (c.args.address + (c.args.done + 8 * c.loop-k.k)) 1
    c.requires.inside (omega arith) (omega (arith, c.loop-k-test.true))) in
    omega (arith, below)

pub word-word-requires : goal.word-word-requires
word-word-requires c =
    let aligned = c.requires.aligned (omega (arith, c.loop-k-test.true)) in
    word_there (paged c.args.self.now) (c.args.address + (c.args.done + 8 * c.loop-k.k)) c.args.self.now.kept
    (inside_part (paged c.args.self.now) c.args.address _ (c.args.address + (c.args.done + 8 * c.loop-k.k)) 1
    c.requires.inside (omega arith) (omega (arith, c.loop-k-test.true))) (omega arith)

pub loop-k-preserved : goal.loop-k-preserved
loop-k-preserved c =
    let p = paged c.args.self.now in
    let n = c.args.done + 8 * c.loop-k.k in
    let aligned = c.requires.aligned (omega (arith, c.loop-k-test.true)) in
    let next : n + 8 ≡ c.args.done + 8 * (c.loop-k.k + 1) = omega arith in
    subst (λ m. AreRead p c.args.address m c.extend_from_slice.new.self.items) next
    (subst (AreRead p c.args.address (n + 8)) (sym c.in_ok-extend_from_slice.ensures.items)
    (subst (λ tail. AreRead p c.args.address (n + 8) (c.loop-k.bytes.items ++ tail)) (sym c.to_le_bytes.ensures)
    (word_read p c.args.address n c.loop-k.bytes.items c.word-word.result c.args.self.now.kept
    (inside_part p c.args.address _ c.args.address (n + 8) c.requires.inside (omega arith)
    (omega (arith, c.loop-k-test.true))) (omega arith) c.loop-k.invariant c.word-word.ensures)))
