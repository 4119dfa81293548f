use Rattle.std.proofs.Common.{◌≡◌, ◌+◌, ◌++◌, ◌∷◌, [], length, length-set, take, ap, sym, ◌∙◌, arith}
use Rattle.std.proofs.lemmas.List.{take_more_set}
use Rattle.std.proofs.Math.Seq.{take-length}
use Rattle.object_pool.specs.Bytes.{bytes_at}
use Rattle.object_pool.proofs.Granted.{below, word_of}
use Rattle.object_pool.proofs.ByteRuns.{bytes_on}
use Rattle.object_pool.proofs.bytes.read_each.Goals as goal

pub overflow_add-address : goal.overflow_add-address
overflow_add-address g c =
    let small = below (g.M.Links.regions c.args.memory.now) (c.args.address + c.loop-k.k)
    (g.M.Links.whole c.args.memory.now) (c.requires (c.args.address + c.loop-k.k) (omega arith)
    (omega (arith, c.loop-k-test.true, c.loop-k.invariant.size))) in
    omega (arith, small)

pub load_byte-requires : goal.load_byte-requires
load_byte-requires g c =
    word_of (g.M.Links.regions c.args.memory.now) (c.args.address + c.loop-k.k) (g.M.Links.whole c.args.memory.now)
    (c.requires (c.args.address + c.loop-k.k) (omega arith) (omega (arith, c.loop-k-test.true, c.loop-k.invariant.size)))

pub loop-k-preserved : goal.loop-k-preserved
loop-k-preserved g c =
    let words = g.M.Links.word c.args.memory.now in
    record {
      size = length-set c.loop-k.bytes c.loop-k.k c.load_byte.result ∙ c.loop-k.invariant.size;
      read = take_more_set c.loop-k.bytes c.loop-k.k c.load_byte.result (omega (arith, c.loop-k-test.true, c.loop-k.invariant.size))
          ∙ (ap (λ bs. bs ++ c.load_byte.result ∷ []) c.loop-k.invariant.read
          ∙ (ap (λ b. bytes_at words c.args.address c.loop-k.k ++ b ∷ []) c.load_byte.ensures ∙ sym (bytes_on words c.args.address c.loop-k.k 1)));
    }

pub returns : goal.returns
returns g c =
    let all : c.loop-k.k ≡ length c.loop-k.bytes = omega (arith, c.loop-k-test.false, c.loop-k.auto.k-end, c.loop-k.invariant.size) in
    sym (take-length c.loop-k.bytes)
    ∙ (ap (λ n. take n c.loop-k.bytes) (sym all)
    ∙ (c.loop-k.invariant.read ∙ ap (bytes_at (g.M.Links.word c.args.memory.now) c.args.address) (all ∙ c.loop-k.invariant.size)))
