use Rattle.std.proofs.Common.{◌+◌, [], refl, ◌∙◌, sym, subst, arith, slice_index}
use Rattle.heap_memory.specs.declared.grant.Grant.{Grant}
use Rattle.std.proofs.Common.{List, ◌-◌, ◌%◌}
use Rattle.heap_memory.specs.Words.{IsStored, with_byte}
use Rattle.object_pool.proofs.Granted.{below, word_of, granted_part}
use Rattle.object_pool.proofs.ByteRuns.{written_more}
use Rattle.object_pool.proofs.bytes.write_each.Goals as goal

pub overflow_add-address : goal.overflow_add-address
overflow_add-address g c =
    let small = below (g.M.Links.regions c.args.memory.now) (c.args.address + c.loop-k.k)
    (g.M.Links.whole c.args.memory.now) (c.requires (c.args.address + c.loop-k.k) (omega arith)
    (omega (arith, c.loop-k-test.true))) in
    omega (arith, small)

pub store_byte-requires : goal.store_byte-requires
store_byte-requires g c =
    let old = c.args.memory.now in
    subst (λ (regions : List Grant). Rattle.heap_memory.specs.Regions.IsWordOf regions
    (c.args.address + c.loop-k.k - (c.args.address + c.loop-k.k) % 8)) (sym c.loop-k.invariant.regions)
    (word_of (g.M.Links.regions old) (c.args.address + c.loop-k.k) (g.M.Links.whole old)
    (c.requires (c.args.address + c.loop-k.k) (omega arith) (omega (arith, c.loop-k-test.true))))

pub loop-k-preserved : goal.loop-k-preserved
loop-k-preserved g c =
    let old = c.args.memory.now in
    let mid = c.loop-k.memory in
    let new = c.store_byte.new.self in
    let at = c.args.address + c.loop-k.k in
    record {
      written = written_more (g.M.Links.regions old) (g.M.Links.whole old) (g.M.Links.word old) (g.M.Links.word mid)
          (g.M.Links.word new) c.args.address c.args.bytes.now c.loop-k.k
          (granted_part (g.M.Links.regions old) c.args.address _ c.args.address (c.loop-k.k + 1) c.requires (omega arith)
          (omega (arith, c.loop-k-test.true))) c.loop-k.invariant.written (grind (arith, c.type_inv.bytes c.loop-k.k))
          (subst (λ (regions : List Grant). IsStored regions (g.M.Links.word mid) (at - at % 8)
          (with_byte (g.M.Links.word mid (at - at % 8)) (at % 8) (slice_index c.args.bytes.now c.loop-k.k))
          (g.M.Links.word new)) c.loop-k.invariant.regions c.store_byte.ensures.stored);
      regions = c.store_byte.ensures.regions ∙ c.loop-k.invariant.regions;
      follows = g.M.Links.follows_on old mid new [] [] [] c.loop-k.invariant.follows c.store_byte.ensures.follows refl;
    }
