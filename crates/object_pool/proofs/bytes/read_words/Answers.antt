use Rattle.std.proofs.Common.{◌≡◌, ◌+◌, ◌-◌, ◌*◌, ◌≤◌, ◌++◌, length, take, ap, sym, ◌∙◌, arith}
use Rattle.std.specs.Int.{w64, to_le_bytes}
use Rattle.std.proofs.lemmas.Slice.{take-put_mid}
use Rattle.std.proofs.Math.Seq.{take-length}
use borrow.Rule.Slice.PartMut.{same_len_mid}
use Rattle.object_pool.specs.Bytes.{bytes_at}
use Rattle.object_pool.proofs.Granted.{below, word_there}
use Rattle.object_pool.proofs.ByteRuns.{bytes_on, word_read}
use Rattle.object_pool.proofs.bytes.read_words.Goals as goal

pub overflow_add-address : goal.overflow_add-address
overflow_add-address g c =
    let small = below (g.M.Links.regions c.args.memory.now) (c.args.address + 8 * c.loop-k.k)
    (g.M.Links.whole c.args.memory.now) (c.requires.inside (c.args.address + 8 * c.loop-k.k) (omega arith)
    (omega (arith, c.loop-k-test.true, c.loop-k.invariant.size))) in
    omega (arith, small)

pub load-word-requires : goal.load-word-requires
load-word-requires g c =
    let aligned = c.requires.aligned (omega (arith, c.loop-k-test.true, c.loop-k.invariant.size)) in
    word_there (g.M.Links.regions c.args.memory.now) (c.args.address + 8 * c.loop-k.k) (g.M.Links.whole c.args.memory.now)
    (c.requires.inside (c.args.address + 8 * c.loop-k.k) (omega arith) (omega (arith, c.loop-k-test.true, c.loop-k.invariant.size)))
    (omega arith)

pub loop-k-preserved : goal.loop-k-preserved
loop-k-preserved g c =
    let words = g.M.Links.word c.args.memory.now in
    let n = 8 * c.loop-k.k in
    let aligned = c.requires.aligned (omega (arith, c.loop-k-test.true, c.loop-k.invariant.size)) in
    let within : n + 8 ≤ length c.loop-k.bytes = omega (arith, c.loop-k-test.true, c.loop-k.invariant.size, c.requires.whole) in
    let word : to_le_bytes w64 c.load-word.result ≡ bytes_at words (c.args.address + n) 8 =
    ap (to_le_bytes w64) c.load-word.ensures ∙ sym (word_read words (c.args.address + n) (omega arith)) in
    let put : c.copy_from_slice.new.self ≡ bytes_at words (c.args.address + n) 8 = c.copy_from_slice.ensures.after ∙ (c.to_le_bytes.ensures ∙ word) in
    let eight : length c.copy_from_slice.new.self ≡ 8 = ap length c.copy_from_slice.ensures.after ∙ ap length c.to_le_bytes.ensures in
    let next : n + 8 ≡ 8 * (c.loop-k.k + 1) = omega arith in
    record {
      size = same_len_mid n (n + 8 - n) c.loop-k.bytes c.copy_from_slice.new.self c.copy_from_slice.auto.self ∙ c.loop-k.invariant.size;
      read = take-put_mid n (n + 8 - n) c.loop-k.bytes c.copy_from_slice.new.self (8 * (c.loop-k.k + 1)) (omega (arith, eight)) (omega (arith, within))
          ∙ (ap (λ bs. bs ++ c.copy_from_slice.new.self) c.loop-k.invariant.read
          ∙ (ap (λ bs. bytes_at words c.args.address n ++ bs) put
          ∙ (sym (bytes_on words c.args.address n 8) ∙ ap (bytes_at words c.args.address) next)));
    }

pub returns : goal.returns
returns g c =
    let all : 8 * c.loop-k.k ≡ length c.loop-k.bytes =
    omega (arith, c.loop-k-test.false, c.loop-k.auto.k-end, c.loop-k.invariant.size, c.requires.whole) in
    sym (take-length c.loop-k.bytes)
    ∙ (ap (λ n. take n c.loop-k.bytes) (sym all)
    ∙ (c.loop-k.invariant.read ∙ ap (bytes_at (g.M.Links.word c.args.memory.now) c.args.address) (all ∙ c.loop-k.invariant.size)))
