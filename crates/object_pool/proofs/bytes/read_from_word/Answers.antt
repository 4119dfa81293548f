use Rattle.std.proofs.Common.{◌≡◌, ◌+◌, ◌*◌, ◌/◌, ◌<◌, length, sym, ◌∙◌, ap, arith}
use Rattle.object_pool.specs.Bytes.{bytes_at}
use Rattle.object_pool.proofs.Granted.{below}
use Rattle.object_pool.proofs.ByteRuns.{bytes_parts}
use Rattle.object_pool.proofs.bytes.read_from_word.Goals as goal

pub overflow_add-address : goal.overflow_add-address
overflow_add-address g c =
    let there : length c.args.bytes.now / 8 * 8 < length c.args.bytes.now =
    omega (arith, c.split_at_mut-words.ensures.back_len, c.if-last-gt0.true) in
    let small = below (g.M.Links.regions c.args.memory.now) (c.args.address + length c.args.bytes.now / 8 * 8)
    (g.M.Links.whole c.args.memory.now)
    (c.requires.inside (c.args.address + length c.args.bytes.now / 8 * 8) (omega arith) (omega (arith, there))) in
    omega (arith, small)

pub returns-then-last-gt0 : goal.returns-then-last-gt0
returns-then-last-gt0 g c =
    let words = g.M.Links.word c.args.memory.now in
    let front = length c.split_at_mut-words.result.0.now in
    let here : front ≡ length c.args.bytes.now / 8 * 8 = c.split_at_mut-words.ensures.front_len in
    bytes_parts words c.args.address front (length c.split_at_mut-words.result.1.now) (length c.args.bytes.now)
    c.read_words.new.bytes c.read_each.new.bytes
    (omega (arith, here, c.split_at_mut-words.ensures.back_len)) c.read_words.ensures
    (c.read_each.ensures ∙ ap (λ n. bytes_at words (c.args.address + n) (length c.split_at_mut-words.result.1.now)) (sym here))
