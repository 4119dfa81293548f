use Rattle.std.proofs.Common.{◌≡◌, ◌+◌, ◌-◌, length, sym, refl, take, drop, arith}
use Rattle.address_space.proofs.Written.{none_written, written_on, part_length, part_byte}
use Rattle.address_space.proofs.bytes.write_bytes.Goals as goal

pub loop-done-init : goal.loop-done-init
loop-done-init c = none_written c.args.frames.now c.args.root c.args.at c.args.bytes.now

pub loop-done-preserved : goal.loop-done-preserved
loop-done-preserved c =
    let done = c.loop-done.done in
    let count = c.min-count.result in
    let bytes = c.args.bytes.now in
    let least = c.min-count.ensures in
    let less = c.loop-done-test.true in
    written_on c.args.frames.now c.loop-done.frames c.write_part.new.frames c.args.root c.args.at done count
    (c.args.at + done) bytes (take (done + count - done) (drop done bytes))
    c.loop-done.invariant refl (sym (part_length bytes done count (omega (arith, least, less)))) (omega (arith, least, less))
    (λ k k_less. part_byte bytes done count k k_less) c.write_part.ensures.bytes c.write_part.ensures.size
    c.write_part.ensures.tree c.write_part.ensures.walks c.write_part.ensures.larges c.write_part.ensures.words

pub write_part-requires-clause-tree : goal.write_part-requires-clause-tree
write_part-requires-clause-tree c = (c.requires.tree.0, c.loop-done.invariant.tree c.requires.tree.0 c.requires.tree.1)

pub returns : goal.returns
returns c =
    let i = c.loop-done.invariant in
    let within = i.within in
    let behind = c.loop-done-test.false in
    let all : c.loop-done.done ≡ length c.args.bytes.now = omega (arith, within, behind) in
    record { size = i.size; tree = i.tree; walks = i.walks; larges = i.larges; bytes = rw all at i.written; words = rw all at i.words }
