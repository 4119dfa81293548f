use Rattle.std.proofs.Common.{◌≡◌, List, ◌+◌, ◌*◌, [], refl, ◌∙◌, sym, subst, arith}
use Rattle.std.specs.Int.{w64, to_le_bytes}
use Rattle.heap_memory.specs.declared.grant.Grant.{Grant}
use Rattle.heap_memory.specs.Regions.{IsWordOf}
use Rattle.heap_memory.specs.Words.{IsStored}
use Rattle.object_pool.specs.Bytes.{IsWritten}
use Rattle.object_pool.proofs.Granted.{below, word_there, granted_part}
use Rattle.object_pool.proofs.ByteRuns.{word_written, written_on}
use Rattle.object_pool.proofs.bytes.write_words.Goals as goal

pub overflow_add-address : goal.overflow_add-address
overflow_add-address g c =
    let small = below (g.M.Links.regions c.args.memory.now) (c.args.address + 8 * c.loop-k.k)
    (g.M.Links.whole c.args.memory.now) (c.requires.inside (c.args.address + 8 * c.loop-k.k) (omega arith)
    (omega (arith, c.loop-k-test.true))) in
    omega (arith, small)

pub store-requires : goal.store-requires
store-requires g c =
    let old = c.args.memory.now in
    let aligned = c.requires.aligned (omega (arith, c.loop-k-test.true)) in
    subst (λ (regions : List Grant). IsWordOf regions (c.args.address + 8 * c.loop-k.k)) (sym c.loop-k.invariant.regions)
    (word_there (g.M.Links.regions old) (c.args.address + 8 * c.loop-k.k) (g.M.Links.whole old)
    (c.requires.inside (c.args.address + 8 * c.loop-k.k) (omega arith) (omega (arith, c.loop-k-test.true)))
    (omega arith))

pub loop-k-preserved : goal.loop-k-preserved
loop-k-preserved g c =
    let old = c.args.memory.now in
    let mid = c.loop-k.memory in
    let new = c.store.new.self in
    let regions = g.M.Links.regions old in
    let at = c.args.address + 8 * c.loop-k.k in
    let aligned = c.requires.aligned (omega (arith, c.loop-k-test.true)) in
    let next : 8 * c.loop-k.k + 8 ≡ 8 * (c.loop-k.k + 1) = omega arith in
    record {
      written = subst (λ n. IsWritten regions (g.M.Links.word old) c.args.address c.args.bytes.now n (g.M.Links.word new)) next
          (written_on regions (g.M.Links.word old) (g.M.Links.word mid) (g.M.Links.word new) c.args.address (8 * c.loop-k.k)
          8 c.args.bytes.now (to_le_bytes w64 c.word_of_bytes.result)
          (granted_part regions c.args.address _ c.args.address (8 * c.loop-k.k + 8) c.requires.inside (omega arith)
          (omega (arith, c.loop-k-test.true))) c.loop-k.invariant.written
          (word_written regions (g.M.Links.whole old) (g.M.Links.word mid) (g.M.Links.word new) at c.word_of_bytes.result (omega arith)
          (subst (λ (list : List Grant). IsStored list (g.M.Links.word mid) at c.word_of_bytes.result (g.M.Links.word new))
          c.loop-k.invariant.regions c.store.ensures.stored))
          c.word_of_bytes.ensures);
      regions = c.store.ensures.regions ∙ c.loop-k.invariant.regions;
      follows = g.M.Links.follows_on old mid new [] [] [] c.loop-k.invariant.follows c.store.ensures.follows refl;
    }
