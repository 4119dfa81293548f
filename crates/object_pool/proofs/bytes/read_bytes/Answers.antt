use Rattle.std.proofs.Common.{◌≡◌, ◌+◌, ◌<◌, length, sym, ◌∙◌, ap, arith}
use Rattle.object_pool.specs.Bytes.{bytes_at}
use Rattle.object_pool.proofs.Granted.{below}
use Rattle.object_pool.proofs.ByteRuns.{bytes_parts}
use Rattle.object_pool.proofs.bytes.read_bytes.Goals as goal

pub overflow_add-address : goal.overflow_add-address
overflow_add-address g c =
    let there : c.bytes_before_words-head.result < length c.args.bytes.now =
    omega (arith, c.split_at_mut-first.ensures.back_len, c.if-rest-gt0.true) in
    let small = below (g.M.Links.regions c.args.memory.now) (c.args.address + c.bytes_before_words-head.result)
    (g.M.Links.whole c.args.memory.now)
    (c.requires (c.args.address + c.bytes_before_words-head.result) (omega arith) (omega (arith, there))) in
    omega (arith, small)

pub returns-then-rest-gt0 : goal.returns-then-rest-gt0
returns-then-rest-gt0 g c =
    let words = g.M.Links.word c.args.memory.now in
    let front = length c.split_at_mut-first.result.0.now in
    let here : front ≡ c.bytes_before_words-head.result = c.split_at_mut-first.ensures.front_len in
    bytes_parts words c.args.address front (length c.split_at_mut-first.result.1.now) (length c.args.bytes.now)
    c.read_each.new.bytes c.read_from_word.new.bytes
    (omega (arith, here, c.split_at_mut-first.ensures.back_len)) c.read_each.ensures
    (c.read_from_word.ensures ∙ ap (λ n. bytes_at words (c.args.address + n) (length c.split_at_mut-first.result.1.now)) (sym here))
