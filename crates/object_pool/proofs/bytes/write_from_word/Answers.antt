use Rattle.std.proofs.Common.{◌+◌, List, [], length, ◌∙◌, refl, subst, arith}
use Rattle.heap_memory.specs.declared.grant.Grant.{Grant}
use Rattle.object_pool.specs.Bytes.{IsWritten}
use Rattle.object_pool.proofs.Granted.{below}
use Rattle.object_pool.proofs.ByteRuns.{written_parts}
use Rattle.object_pool.proofs.bytes.write_from_word.Goals as goal

pub overflow_add-address : goal.overflow_add-address
overflow_add-address g c =
    let small = below (g.M.Links.regions c.args.memory.now) (c.args.address + length c.split_at.result.0.now) (g.M.Links.whole c.args.memory.now)
    (c.requires.inside (c.args.address + length c.split_at.result.0.now) (omega arith)
    (omega (arith, c.split_at.ensures.front_len, c.split_at.ensures.back_len, c.if-last-gt0.true))) in
    omega (arith, small)

pub returns-then-last-gt0 : goal.returns-then-last-gt0
returns-then-last-gt0 g c =
    let old = c.args.memory.now in
    let mid = c.write_words.new.memory in
    let new = c.write_each.new.memory in
    record {
      written = written_parts (g.M.Links.regions old) (g.M.Links.word old) (g.M.Links.word mid) (g.M.Links.word new) c.args.address _
          c.args.bytes.now c.split_at.result.0.now c.split_at.result.1.now c.requires.inside
          c.split_at.ensures.front c.split_at.ensures.back c.split_at.ensures.front_len c.split_at.ensures.back_len c.write_words.ensures.written
          (subst (λ (regions : List Grant). IsWritten regions (g.M.Links.word mid)
          (c.args.address + length c.split_at.result.0.now) c.split_at.result.1.now (length c.split_at.result.1.now)
          (g.M.Links.word new)) c.write_words.ensures.regions_same c.write_each.ensures.written);
      regions_same = c.write_each.ensures.regions_same ∙ c.write_words.ensures.regions_same;
      followed = g.M.Links.follows_on old mid new [] [] [] c.write_words.ensures.followed c.write_each.ensures.followed refl;
    }
